use Rattle.std.proofs.Common.{◌≡◌, ◌∙◌, subst, sym, true}
use Rattle.std.proofs.lemmas.Bool.{and_parts}
use Rattle.xdg_problem.specs.Claims.{claim}
use Rattle.xdg_problem.specs.Places.{nodes}
use Rattle.xdg_problem.specs.Truths.{stands}
use Rattle.xdg_formula_value.proofs.Finding.{finds_on}
use Rattle.xdg_problem.proofs.Bindings.{nodes_inside, nodes_unbound}
use Rattle.xdg_formula_value.proofs.Rowed.{first_later}
use Rattle.xdg_facts.proofs.Rising.{head_in}
use Rattle.xdg_formula_value.proofs.Within.{In, in_any, in_end, in_start, in_turn}
use Rattle.xdg_formula_value.proofs.along.found_within.Goals as goal
use Rattle.xdg_facts.specs.Rises.{has}

pub found-requires-clause-nodes : goal.found-requires-clause-nodes
found-requires-clause-nodes c = nodes_unbound c.args.store.now.parts (stands c.none_bound.result) c.none_bound.ensures c.node_count.ensures.known.problem.some

pub returns-then-not-is_named : goal.returns-then-not-is_named
returns-then-not-is_named c = in_any c.args.store.now.parts c.args.store.now.now (claim c.args.formula.now) c.args.truth c.args.free c.args.names c.args.name c.args.ends (stands c.none_bound.result) c.found.result c.none_bound.ensures c.found.ensures

pub loop-node-init : goal.loop-node-init
loop-node-init c = (let all = c.into_iter-node-iterator.ensures.into_iter_gives ∙ c.iter-node-items.ensures.value in (
  tt,
  tt,
  λ v there. (c.requires.paths.all v).0 (and_parts (has c.args.paths.now.all v) (has c.args.ends v) (sym (c.meet.ensures.members v) ∙ subst (λ s. has s v ≡ true) all there)).0,
  in_start c.args.store.now.parts c.args.store.now.now (claim c.args.formula.now) c.args.truth c.args.free c.args.names c.args.name c.args.ends c.args.paths.now.all c.meet.result c.into_iter-node-iterator.result c.requires.paths.all c.meet.ensures.members all,
))

pub found-requires-in-loop-node-clause-nodes : goal.found-requires-in-loop-node-clause-nodes
found-requires-in-loop-node-clause-nodes c = nodes_inside c.args.store.now.parts (stands c.none_bound-in-loop-node.result) (stands c.bind-here.result) c.args.name c.in-Some.node.0 c.bind-here.ensures
    (nodes_unbound c.args.store.now.parts (stands c.none_bound-in-loop-node.result) c.none_bound-in-loop-node.ensures c.node_count.ensures.known.problem.some)
    (c.loop-node.invariant.2 c.in-Some.node.0 (head_in c.loop-node.node-iterator c.next.new.self c.in-Some.node.0 c.in-Some.ensures.steps))

pub returns-then-found : goal.returns-then-found
returns-then-found c = finds_on c.args.store.now.parts c.args.store.now.now (claim c.args.formula.now) c.args.truth (In c.args.store.now.parts c.args.store.now.now (claim c.args.formula.now) c.args.truth c.args.free c.args.names c.args.name c.args.ends) _ c.found-in-loop-node.result c.if-found.true c.found-in-loop-node.ensures

pub loop-node-preserved : goal.loop-node-preserved
loop-node-preserved c = (
  tt,
  tt,
  first_later (nodes c.args.store.now.parts) c.loop-node.node-iterator c.next.new.self c.in-Some.node.0 c.in-Some.ensures.steps c.loop-node.invariant.2,
  in_turn c.args.store.now.parts c.args.store.now.now (claim c.args.formula.now) c.args.truth c.args.free c.args.names c.args.name c.args.ends c.fewer-rest.result c.loop-node.node-iterator c.next.new.self (stands c.none_bound-in-loop-node.result) (stands c.bind-here.result) c.in-Some.node.0 c.found-in-loop-node.result c.fewer-rest.ensures.members c.none_bound-in-loop-node.ensures c.bind-here.ensures
      c.in-Some.ensures.steps c.loop-node.invariant.3 c.if-found.false c.found-in-loop-node.ensures,
)

pub returns : goal.returns
returns c = in_end c.args.store.now.parts c.args.store.now.now (claim c.args.formula.now) c.args.truth c.args.free c.args.names c.args.name c.args.ends c.loop-node.node-iterator c.in-None.ensures.steps.0 c.loop-node.invariant.3 (c.is_named.ensures c.if-not-is_named.false).1
