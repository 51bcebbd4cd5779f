-- What a bound takes, and when a box is closed for it.
use Rattle.std.proofs.Common.{◌≡◌, ℕ, ◌-◌, ◌<◌, ◌≤◌, inr, Bool, List, [], length, refl, sym, arith, subst}
use Rattle.std.specs.Prelude.{slice_index_or}
use Rattle.xdg_problem.specs.declared.parts.Group.{Group}
use Rattle.xdg_problem.specs.declared.parts.Parts.{Parts}
use Rattle.xdg_problem.specs.declared.parts.Principle.TheVariants as principles
use Rattle.xdg_problem.specs.Boxes.{Has, edge_decision}
use Rattle.xdg_problem.specs.Costs.{CostLists}
use Rattle.xdg_problem.specs.Places.{edge}
use Rattle.xdg_problem.specs.Problems.{IsProblem}
use Rattle.xdg_problem.proofs.PlaceOrder.{is_place, place_is}
use Rattle.xdg_problem.proofs.PlacePlans.{dim_within}
use Rattle.xdg_graph.specs.Edges.{edge_labels}
use Rattle.xdg_graph.proofs.Labelled.{label_below}
use Rattle.xdg_rules.specs.Bounds.{least_cost}
use Rattle.xdg_rules.specs.Rules.{TakesBy, Takes, IsClosedFor}
use Rattle.xdg_rules.proofs.Costing.{costs_lie, cost_more}
use Rattle.xdg_engine.specs.CostRows.{AreLabelCosts}
use Rattle.xdg_engine.specs.Freeing.{Dear, TakesFree, OfDims}
use Rattle.xdg_engine.proofs.BoundStaying.{closed_for_bound}

module _ (parts : Parts) (group : Group) (costs : CostLists) (bound : ℕ) (problem : IsProblem parts) (is : group.principle ≡ principles.Bound costs bound) where
  pub bound_takes : (box : List (List Bool)) (d v : ℕ) → TakesBy (principles.Bound costs bound) parts group box d v → Takes parts group box d v
  bound_takes box d v by = inr (subst (λ p. TakesBy p parts group box d v) (sym is) by)

  -- an edge of a dear label is taken where it need not be
  pub dear_taken : (rows : List (List ℕ)) (least room dim label : ℕ) (start : List (List Bool)) → least ≡ least_cost parts costs start → room ≡ bound - least → AreLabelCosts costs rows → dim < 8 → label < 32 → Dear (slice_index_or rows dim []) room label → TakesFree parts group start dim label
  dear_taken rows least room dim label start least_is room_is costs_are few small dear box box_is lies m x place absent =
      bound_takes box _ 0 (inr (record {
        place = edge dim m label x;
        is = place_is parts (edge dim m label x) place;
        says = (refl, refl);
        free = absent;
        reaches = (let more = cost_more parts costs box start problem box_is (costs_lie parts box start lies) in let cost = costs_are dim label few small in omega (arith, more, cost, dear, least_is, room_is));
      }))

  -- where no dear edge is left open and the bound isn't reached, the box is closed
  pub none_dear : (rows : List (List ℕ)) (least room : ℕ) (box : List (List Bool)) → least ≡ least_cost parts costs box → room ≡ bound - least → least < bound → AreLabelCosts costs rows → length parts.dims ≤ 8 → ((dim : ℕ) → edge_labels parts dim ≤ 32) → OfDims rows room (length parts.dims) parts box → IsClosedFor parts group box
  none_dear rows least room box least_is room_is below costs_are few small done = closed_for_bound parts group box costs bound is
      (λ reached. (omega (arith, reached, below, least_is)))
      (λ d v remains rule.
      let e = rule.place in
      let place = is_place parts e rule.is in
      let label_in = label_below parts e place in
      let label_small = small e.dim.0 in
      let dim_in = dim_within parts e place in
      let cost = costs_are e.dim.0 e.label.0 (omega (arith, dim_in, few)) (omega (arith, label_in, label_small)) in
      let reaches = rule.reaches in
      let k : ℕ = edge_decision parts e in
      let present : Has box k 0 = subst (λ j. Has box k j) rule.says.1 (subst (λ j. Has box j v) rule.says.0 remains) in
      done e.dim.0 dim_in e.label.0 label_in (omega (arith, reaches, cost, least_is, room_is)) e.mother.0 e.daughter.0 place.mother place present rule.free)
