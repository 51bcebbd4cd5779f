use Rattle.std.proofs.Common.{◌≡◌, ◌∙◌, ◌∷◌, sym, subst}
use Rattle.xdg_problem.specs.Arguments.{first_dim}
use Rattle.xdg_plink.specs.Untouched.{ArePlaces}
use Rattle.xdg_problem.specs.Places.{edge}
use Rattle.xdg_propcore.proofs.Turns.{turns_next}
use Rattle.xdg_plink.specs.Steps.{DoneAt}
use Rattle.xdg_plink.proofs.Daughters.{on_later}
use Rattle.xdg_facts.proofs.Rising.{head_in, tail_in}
use Rattle.xdg_plink.proofs.Sweeping.{ready_later}
use Rattle.xdg_plink.proofs.taking.take_daughters.Goals as goal

pub take_at-requires-clause-on : goal.take_at-requires-clause-on
take_at-requires-clause-on c =
    let left_is : c.loop-daughter.daughter-iterator ≡ c.in-Some.daughter.0 ∷ c.next.new.self = c.in-Some.ensures.steps in
    let there = c.loop-daughter.invariant.2 c.in-Some.daughter.0 (head_in c.loop-daughter.daughter-iterator c.next.new.self c.in-Some.daughter.0 left_is) in
    let is = subst (ArePlaces c.args.store.now.parts (first_dim c.args.group.now) c.args.node.0 c.args.label.0) (sym (c.into_iter-daughter-iterator.ensures.into_iter_gives ∙ c.iter-daughter-items.ensures.value)) c.requires.daughters in
    on_later c.args.group.now c.dim_of-dim.result.0 c.args.node.0 c.args.label.0 c.in-Some.daughter.0 _ c.args.pass.now c.args.store.now c.loop-daughter.pass c.loop-daughter.store c.dim_of-dim.ensures c.requires.ready.group_is (is c.in-Some.daughter.0 there) c.loop-daughter.invariant.3

pub take_at-requires-clause-ready : goal.take_at-requires-clause-ready
take_at-requires-clause-ready c = ready_later c.args.group.now c.args.table.now _ c.args.pass.now c.args.store.now c.loop-daughter.pass c.loop-daughter.store c.requires.ready c.loop-daughter.invariant.3

pub loop-daughter-preserved : goal.loop-daughter-preserved
loop-daughter-preserved c = (
  tt,
  tt,
  (λ w h. c.loop-daughter.invariant.2 w (tail_in c.loop-daughter.daughter-iterator c.next.new.self c.in-Some.daughter.0 w c.in-Some.ensures.steps h)),
  turns_next c.args.group.now (λ parts v. DoneAt parts c.args.group.now c.args.table.now (edge c.dim_of-dim.result.0 c.args.node.0 c.args.label.0 v))
      c.into_iter-daughter-iterator.result c.loop-daughter.daughter-iterator c.next.new.self c.in-Some.daughter.0 c.args.pass.now c.args.store.now
      c.loop-daughter.pass c.loop-daughter.store c.take_at.new.pass c.take_at.new.store c.in-Some.ensures.steps c.loop-daughter.invariant.3 c.take_at.ensures,
)
