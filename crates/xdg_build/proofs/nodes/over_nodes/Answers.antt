use Rattle.std.proofs.Common.{◌++◌, [], ◌∷◌, All, ap, sym, ◌∙◌, subst, arith}
use Rattle.xdg_problem.specs.Problems.{IsGroup}
use Rattle.xdg_build.specs.Grammars.{grammar_of}
use Rattle.xdg_build.specs.Nodes.{candidates_in}
use Rattle.xdg_build.proofs.Noded.{over_all, over_turn}
use Rattle.xdg_build.proofs.Right.{groups_right}
use Rattle.xdg_build.proofs.nodes.over_nodes.Goals as goal

pub loop-place-preserved : goal.loop-place-preserved
loop-place-preserved c =
    over_turn (grammar_of c.args.checked.now c.args.packed.now) c.args.nodes.now c.args.uses.now c.loop-place.place c.index-uses-place.result c.loop-place.made c.push.new.self
    c.requires.uses c.requires.nodes c.loop-place-test.true c.index-uses-place.is c.loop-place.invariant (c.in_ok-push.ensures.ok ∙ ap (λ x. c.loop-place.made ++ x ∷ []) c.in_ok-over.ensures)

pub returns-clause-groups : goal.returns-clause-groups
returns-clause-groups c = λ parts suits.
    let g = grammar_of c.args.checked.now c.args.packed.now in
    subst (All (IsGroup parts)) (sym (over_all g c.args.nodes.now c.args.uses.now c.loop-place.place c.loop-place.made c.requires.uses (omega (arith, c.loop-place-test.false)) c.loop-place.invariant))
    (groups_right g (candidates_in c.args.nodes.now) parts c.args.checked.now.principles c.principles.ensures.keeps.principles c.requires.lexicon c.requires.candidates suits)
