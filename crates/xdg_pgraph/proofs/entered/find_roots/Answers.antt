use Rattle.std.proofs.Common.{◌∙◌, ap, sym, arith}
use Rattle.std.specs.Prelude.{nat_lt}
use Rattle.xdg_nodeset.specs.Nodes.{without}
use Rattle.xdg_pgraph.proofs.RootSets.{more_roots, no_roots, one_root}
use Rattle.xdg_pgraph.proofs.entered.find_roots.Goals as goal

pub returns-in_default : goal.returns-in_default
returns-in_default c edges t = no_roots edges c.args.plane.now.nodes c.all_nodes.result c.args.some.now c.minus-nodes.result (λ k. c.all_nodes.ensures.members k ∙ ap (nat_lt k) (sym c.requires.plane.nodes_is)) c.minus-nodes.ensures.members c.in_default.ensures.nodes t c.in_default.ensures.value

pub returns-then-len-gt1 : goal.returns-then-len-gt1
returns-then-len-gt1 c edges t = more_roots edges c.args.plane.now.nodes c.all_nodes.result c.args.some.now c.minus-nodes.result (λ k. c.all_nodes.ensures.members k ∙ ap (nat_lt k) (sym c.requires.plane.nodes_is)) c.minus-nodes.ensures.members c.len.ensures.nodes t (let e = c.len.ensures.value in let l = c.if-len-gt1.true in omega (arith, e, l))

pub returns : goal.returns
returns c edges t = one_root edges c.args.plane.now.nodes c.all_nodes.result c.args.some.now c.minus-nodes.result (λ k. c.all_nodes.ensures.members k ∙ ap (nat_lt k) (sym c.requires.plane.nodes_is)) c.minus-nodes.ensures.members c.len.ensures.nodes t c.in-Some.root.0 (without c.minus-nodes.result c.in-Some.root.0) c.in-Some.ensures.value.0 (let e = c.len.ensures.value in let l = c.if-len-gt1.false in omega (arith, e, l))
