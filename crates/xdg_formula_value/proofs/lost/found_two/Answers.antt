use Rattle.std.proofs.Common.{◌≡◌, ◌∙◌, ap, arith, refl, subst, sym, true}
use Rattle.std.proofs.lemmas.Bool.{and_parts}
use Rattle.xdg_problem.specs.Claims.{claim}
use Rattle.xdg_problem.specs.Places.{nodes}
use Rattle.xdg_problem.specs.Truths.{stands}
use Rattle.xdg_formula_value.proofs.Finding.{pairs_none, pairs_start, pairs_here, pairs_found, pairs_turn, pairs_end}
use Rattle.xdg_problem.proofs.Bindings.{nodes_inside}
use Rattle.xdg_formula_value.proofs.Rowed.{first_later}
use Rattle.xdg_facts.proofs.Rising.{head_in}
use Rattle.xdg_formula_value.proofs.lost.found_two.Goals as goal
use Rattle.xdg_facts.specs.Rises.{has}

pub returns-then-len-eq0 : goal.returns-then-len-eq0
returns-then-len-eq0 c = pairs_none c.args.store.now.parts c.args.store.now.now (claim c.args.formula.now) c.args.truth (stands c.args.binding.now) c.args.name c.args.other c.possible_second-second.result (let count = c.len.ensures.value in let none = c.if-len-eq0.true in omega (arith, count, none)) c.possible_second-second.ensures.bounds

pub loop-node-init : goal.loop-node-init
loop-node-init c = (let all = c.into_iter-node-iterator.ensures.into_iter_gives ∙ c.iter-node-items.ensures.value in (
  tt,
  tt,
  λ v there. (c.requires.paths.all v).0 (and_parts (has c.args.paths.now.all v) (has c.possible_row.result v) (sym (c.meet-possible.ensures.members v) ∙ subst (λ s. has s v ≡ true) all there)).0,
  pairs_start c.args.store.now.parts c.args.store.now.now (claim c.args.formula.now) c.args.truth (stands c.args.binding.now) c.args.name c.args.other c.into_iter-node-iterator.result c.into_iter-node-iterator.result refl,
))

pub row_of-row-requires-clause-nodes : goal.row_of-row-requires-clause-nodes
row_of-row-requires-clause-nodes c = nodes_inside c.args.store.now.parts (stands c.args.binding.now) (stands c.bind-here.result) c.args.name c.in-Some.node.0 c.bind-here.ensures c.requires.nodes (c.loop-node.invariant.2 c.in-Some.node.0 (head_in c.loop-node.node-iterator c.next.new.self c.in-Some.node.0 c.in-Some.ensures.steps))

pub returns-then-has_over : goal.returns-then-has_over
returns-then-has_over c = pairs_found c.args.store.now.parts c.args.store.now.now (claim c.args.formula.now) c.args.truth (stands c.args.binding.now) c.args.name c.args.other c.in-Some.node.0 c.has_over.result (c.loop-node.invariant.2 c.in-Some.node.0 (head_in c.loop-node.node-iterator c.next.new.self c.in-Some.node.0 c.in-Some.ensures.steps)) c.if-has_over.true
    (pairs_here c.args.store.now.parts c.args.store.now.now (claim c.args.formula.now) c.args.truth (stands c.args.binding.now) c.args.name c.args.other (stands c.bind-here.result) c.in-Some.node.0 c.node_count.result c.args.paths.now.all c.possible_second-second.result c.row_of-row.result c.meet-met.result c.has_over.result c.bind-here.ensures c.requires.paths.all c.node_count.ensures.size c.possible_second-second.ensures.bounds c.row_of-row.ensures c.meet-met.ensures.members c.has_over.ensures)

pub loop-node-preserved : goal.loop-node-preserved
loop-node-preserved c = (
  tt,
  tt,
  first_later (nodes c.args.store.now.parts) c.loop-node.node-iterator c.next.new.self c.in-Some.node.0 c.in-Some.ensures.steps c.loop-node.invariant.2,
  pairs_turn c.args.store.now.parts c.args.store.now.now (claim c.args.formula.now) c.args.truth (stands c.args.binding.now) c.args.name c.args.other c.into_iter-node-iterator.result c.loop-node.node-iterator c.next.new.self c.in-Some.node.0 c.has_over.result c.if-has_over.false
      (pairs_here c.args.store.now.parts c.args.store.now.now (claim c.args.formula.now) c.args.truth (stands c.args.binding.now) c.args.name c.args.other (stands c.bind-here.result) c.in-Some.node.0 c.node_count.result c.args.paths.now.all c.possible_second-second.result c.row_of-row.result c.meet-met.result c.has_over.result c.bind-here.ensures c.requires.paths.all c.node_count.ensures.size c.possible_second-second.ensures.bounds c.row_of-row.ensures c.meet-met.ensures.members c.has_over.ensures) c.in-Some.ensures.steps c.loop-node.invariant.3,
)

pub returns : goal.returns
returns c = pairs_end c.args.store.now.parts c.args.store.now.now (claim c.args.formula.now) c.args.truth (stands c.args.binding.now) c.args.name c.args.other c.args.paths.now.all c.possible_row.result c.into_iter-node-iterator.result c.loop-node.node-iterator c.requires.paths.all c.possible_row.ensures (λ v. ap (λ s. has s v) (c.into_iter-node-iterator.ensures.into_iter_gives ∙ c.iter-node-items.ensures.value) ∙ c.meet-possible.ensures.members v) c.in-None.ensures.steps.0 c.loop-node.invariant.3
