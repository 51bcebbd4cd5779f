use Rattle.std.proofs.Common.{sym, ◌∙◌}
use Rattle.std.proofs.lemmas.Bool.{false≢true}
use Rattle.xdg_rules.specs.Rules.{IsClosedFor}
use Rattle.xdg_propcore.proofs.Sweeping.{sweeps_start}
use Rattle.xdg_porder.proofs.Ending.{not_order}
use Rattle.xdg_porder.proofs.order_prop.OrderFamily.sweep.Goals as goal

pub rests-requires-clause-projective : goal.rests-requires-clause-projective
rests-requires-clause-projective c = not_order c.args.group.now.principle c.requires.family (λ same. false≢true (sym c.if-is_order.false ∙ c.is_order.ensures.1 same))

pub returns-then-rests : goal.returns-then-rests
returns-then-rests c = sweeps_start c.args.group.now (IsClosedFor c.args.store.now.parts c.args.group.now) c.args.pass.now c.args.store.now c.requires.known (c.rests.ensures c.if-rests.true)

pub take_projective-requires-clause-projective : goal.take_projective-requires-clause-projective
take_projective-requires-clause-projective c = not_order c.args.group.now.principle c.requires.family (λ same. false≢true (sym c.if-is_order.false ∙ c.is_order.ensures.1 same))
