use Rattle.std.proofs.Common.{ap, arith, refl, rules, ◌∙◌}
use Rattle.xdg_problem.specs.declared.formula.Formula.TheViews.{the_lemmas}
use Rattle.xdg_problem.specs.Places.{nodes}
use Rattle.xdg_problem.specs.Truths.{stands}
use Rattle.xdg_formula_value.proofs.Forms.{several_turn}
use Rattle.xdg_problem.proofs.Bindings.{nodes_inside}
use Rattle.xdg_formula_value.proofs.Narrowed.{IsSoOver, narrowed_none, narrowed_told, narrowed_first, narrowed_row}
use Rattle.xdg_formula_value.proofs.Rowed.{first_later, gathered_more, gathered_start}
use Rattle.xdg_facts.proofs.Rising.{head_in}
use Rattle.xdg_formula_value.proofs.Stood.{rebound, rebound_agrees}
use Rattle.xdg_formula_value.proofs.+rows.Goals as goal
use Rattle.xdg_facts.specs.Rises.{has}

pub quantified::quantified_row-returns-then-len-eq0 : goal.quantified::quantified_row-returns-then-len-eq0
quantified::quantified_row-returns-then-len-eq0 t c = narrowed_none c.args.store.now.parts c.args.store.now.now c.args.truth c.args.each (stands c.args.binding.now) c.args.name c.args.other c.args.formula.now c.args.care c.possible_second-second.result c.empty-row.result c.requires.nodes c.possible_second-second.ensures.bounds
    (let count = c.len.ensures.value in let none = c.if-len-eq0.true in omega (arith, count, none)) c.empty-row.ensures.value

pub quantified::quantified_row-loop-node-init : goal.quantified::quantified_row-loop-node-init
quantified::quantified_row-loop-node-init t c = (
  tt,
  tt,
  narrowed_first c.args.store.now.parts c.args.store.now.now c.args.truth c.args.each (stands c.args.binding.now) c.args.name c.args.other c.args.formula.now c.args.care c.possible_row.result c.into_iter-node-iterator.result
      (λ v. ap (λ s. has s v) (c.into_iter-node-iterator.ensures.into_iter_gives ∙ c.iter-node-items.ensures.value) ∙ c.meet-possible.ensures.members v) c.requires.care,
  λ node. refl,
  gathered_start c.into_iter-node-iterator.result c.into_iter-node-iterator.result (IsSoOver c.args.store.now.parts c.args.store.now.now c.args.truth c.args.each (stands c.args.binding.now) c.args.name c.args.other c.args.formula.now) c.empty-row.result refl c.empty-row.ensures.value,
)

pub quantified::quantified_row-row_of-inside-requires : goal.quantified::quantified_row-row_of-inside-requires
quantified::quantified_row-row_of-inside-requires t c = (
  search (rules, the_lemmas),
  (
    c.requires.paths,
    (
      c.requires.is_of,
      (
        nodes_inside c.args.store.now.parts (stands c.args.binding.now) (stands c.rebind.new.binding) c.args.name c.in-Some.node.0 (rebound c.args.name c.in-Some.node.0 (stands c.args.binding.now) (stands c.loop-node.here) (stands c.rebind.new.binding) c.rebind.ensures c.loop-node.invariant.3) c.requires.nodes
            (c.loop-node.invariant.2 c.in-Some.node.0 (head_in c.loop-node.node-iterator c.next.new.self c.in-Some.node.0 c.in-Some.ensures.steps)),
        c.possible_second-second.ensures.first,
      ),
    ),
  ),
)

pub quantified::quantified_row-loop-node-preserved : goal.quantified::quantified_row-loop-node-preserved
quantified::quantified_row-loop-node-preserved t c = (
  tt,
  tt,
  first_later (nodes c.args.store.now.parts) c.loop-node.node-iterator c.next.new.self c.in-Some.node.0 c.in-Some.ensures.steps c.loop-node.invariant.2,
  rebound_agrees c.args.name c.in-Some.node.0 (stands c.args.binding.now) (stands c.loop-node.here) (stands c.rebind.new.binding) c.rebind.ensures c.loop-node.invariant.3,
  gathered_more c.into_iter-node-iterator.result c.loop-node.node-iterator c.next.new.self (IsSoOver c.args.store.now.parts c.args.store.now.now c.args.truth c.args.each (stands c.args.binding.now) c.args.name c.args.other c.args.formula.now) c.in-Some.node.0 c.has_over.result c.loop-node.row c.kept-row.result c.in-Some.ensures.steps
      (narrowed_told c.args.store.now.parts c.args.store.now.now c.args.truth c.args.each (stands c.args.binding.now) c.args.name c.args.other c.args.formula.now c.in-Some.node.0 (stands c.rebind.new.binding) c.args.paths.now.all c.possible_second-second.result c.row_of-inside.result c.meet-met.result c.has_over.result c.node_count-size.result
      (rebound c.args.name c.in-Some.node.0 (stands c.args.binding.now) (stands c.loop-node.here) (stands c.rebind.new.binding) c.rebind.ensures c.loop-node.invariant.3) c.requires.paths.all c.node_count-size.ensures.size c.possible_second-second.ensures.bounds c.row_of-inside.ensures c.meet-met.ensures.members c.has_over.ensures)
      c.kept-row.ensures c.loop-node.invariant.4,
)

pub quantified::quantified_row-returns : goal.quantified::quantified_row-returns
quantified::quantified_row-returns t c = narrowed_row c.args.store.now.parts c.args.store.now.now c.args.truth c.args.each (stands c.args.binding.now) c.args.name c.args.other c.args.formula.now c.args.care c.possible_row.result c.into_iter-node-iterator.result (λ v. ap (λ s. has s v) (c.into_iter-node-iterator.ensures.into_iter_gives ∙ c.iter-node-items.ensures.value) ∙ c.meet-possible.ensures.members v) c.loop-node.node-iterator c.loop-node.row c.requires.nodes c.possible_row.ensures c.in-None.ensures.steps.0 c.loop-node.invariant.4

pub value::joined_row-loop-formula-preserved : goal.value::joined_row-loop-formula-preserved
value::joined_row-loop-formula-preserved t c = several_turn c.args.store.now.parts c.args.store.now.now c.args.truth (stands c.args.binding.now) c.args.name c.args.care c.args.each c.args.formulas.now c.loop-formula.formula-index c.formula-item.result c.loop-formula.row c.still_open-still.result c.loop-formula-test.true c.formula-item.is c.loop-formula.invariant c.still_open-still.ensures c.row_of-here.result c.joined-row.result c.row_of-here.ensures c.joined-row.ensures

pub quantified::quantified_row-kept-row-requires : goal.quantified::quantified_row-kept-row-requires
quantified::quantified_row-kept-row-requires t c = (let l = c.loop-node.invariant.2 c.in-Some.node.0 (head_in c.loop-node.node-iterator c.next.new.self c.in-Some.node.0 c.in-Some.ensures.steps) in let few = c.requires.paths.few in omega (arith, l, few))
