use Rattle.std.proofs.Common.{◌≡◌, ◌++◌, [], ◌∷◌, get_or, ap, ◌∙◌}
use Rattle.xdg_build.specs.Grammars.{grammar_of}
use Rattle.xdg_build.specs.Nodes.{node_feats}
use Rattle.xdg_build.proofs.Noded.{one_each, only_are}
use Rattle.xdg_build.proofs.nodes.plan_node.Goals as goal

pub only_feats-requires : goal.only_feats-requires
only_feats-requires c =
    one_each (grammar_of c.args.checked.now c.args.packed.now) c.as_slice.result.now c.args.numbers.now c.as_slice-2.result.now
    (c.as_slice.ensures ∙ c.in_ok-push.ensures.ok ∙ ap (λ xs. xs ++ c.in_ok-of.field-0 ∷ []) c.new-nodes.ensures ∙ ap (λ n. n ∷ []) (c.in_ok-of.ensures ∙ c.in_ok-numbers.ensures))
    (c.as_slice-2.ensures ∙ c.in_ok-groups.ensures.compiled)

pub returns-clause-node : goal.returns-clause-node
returns-clause-node c =
    let nodes : c.push.new.self ≡ c.args.numbers.now ∷ [] = c.in_ok-push.ensures.ok ∙ ap (λ xs. xs ++ c.in_ok-of.field-0 ∷ []) c.new-nodes.ensures ∙ ap (λ n. n ∷ []) (c.in_ok-of.ensures ∙ c.in_ok-numbers.ensures) in
    let candidates : c.in_ok-share.field-0 ≡ c.args.numbers.now = c.in_ok-share.ensures ∙ c.index-as_slice-0.is ∙ ap (λ xs. get_or xs 0 c.index-as_slice-0.result) (c.as_slice-3.ensures ∙ nodes) in
    let feats : c.in_ok-of-2.field-0 ≡ node_feats (grammar_of c.args.checked.now c.args.packed.now) c.args.numbers.now =
    c.in_ok-of-2.ensures ∙ c.in_ok-feats.ensures
    ∙ only_are (grammar_of c.args.checked.now c.args.packed.now) c.as_slice.result.now c.args.numbers.now c.as_slice-2.result.now (c.as_slice.ensures ∙ nodes) (c.as_slice-2.ensures ∙ c.in_ok-groups.ensures.compiled) in
    λ i. record { candidates = candidates i; feats = feats i }
