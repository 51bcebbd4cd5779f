-- What a whole sweep of a bound does.
use Rattle.std.proofs.Common.{◌≡◌, ℕ, ◌-◌, ◌<◌, ◌≤◌, inl, inr, true, List, [], length, refl, sym, ap, ◌∙◌, arith, subst}
use Rattle.std.specs.Prelude.{slice_index_or}
use Rattle.std.proofs.lemmas.Bool.{cases_lt, false≢true}
use Rattle.std.proofs.lemmas.List.{get_or_past}
use Rattle.xdg_problem.specs.declared.parts.DimPlan.{DimPlan}
use Rattle.xdg_problem.specs.declared.parts.Group.{Group}
use Rattle.xdg_problem.specs.declared.parts.Parts.{Parts}
use Rattle.xdg_problem.specs.declared.parts.Principle.{Principle}
use Rattle.xdg_problem.specs.declared.parts.Principle.TheVariants as principles
use Rattle.xdg_problem.specs.Arguments.{no_plan}
use Rattle.xdg_problem.specs.Boxes.{Has}
use Rattle.xdg_problem.specs.Costs.{CostLists}
use Rattle.xdg_problem.specs.Problems.{IsGroup, IsProblem}
use Rattle.xdg_graph.specs.Edges.{edge_labels, plan_labels}
use Rattle.xdg_rules.specs.Bounds.{least_cost}
use Rattle.xdg_rules.specs.Rules.{Takes, IsClosedFor}
use Rattle.xdg_store.specs.States.{State, Known}
use Rattle.xdg_propcore.specs.Passes.{Progress, Goes}
use Rattle.xdg_propcore.specs.Sweeps.{Sweeps}
use Rattle.xdg_engine.specs.Bounding.{HoldsBound, IsBound}
use Rattle.xdg_engine.specs.CostRows.{entry_rows, AreLabelCosts}
use Rattle.xdg_engine.specs.Freeing.{Dear, TakesFree, OfDims}
use Rattle.xdg_engine.proofs.Bounded.{bound_takes, dear_taken, none_dear}
use Rattle.xdg_facts.proofs.Numbers.{cond_most}

-- edges have at most 32 labels
pub labels_most : (parts : Parts) (dim : ℕ) → IsProblem parts → edge_labels parts dim ≤ 32
labels_most parts dim problem = elim (cases_lt dim (length parts.dims)) [
  | inl within ↦ cond_most (slice_index_or parts.dims dim no_plan).graph (length (slice_index_or parts.dims dim no_plan).labels) (problem.dims dim no_plan within).labels_most
  | inr past ↦ subst (λ (p : DimPlan). plan_labels p ≤ 32) (sym (get_or_past parts.dims dim no_plan past)) (omega arith)
]

-- the costs of the rows
pub row_costs : (parts : Parts) (bound : ℕ) (entries labels : List (List ℕ)) (p : Principle) → HoldsBound p parts bound entries labels → (costs : CostLists) × (entries ≡ entry_rows costs parts)
row_costs parts bound entries labels (principles.Bound costs b) holds = (costs, holds.1)
row_costs parts bound entries labels p holds = absurd holds

module _ (group : Group) (bound : ℕ) (entries labels : List (List ℕ)) (least : ℕ) (old : State) (known : Known old) (exact : (costs : CostLists) → entries ≡ entry_rows costs old.parts → AreLabelCosts costs labels → least ≡ least_cost old.parts costs old.now) where
  -- where the least cost reaches the bound, all goes
  pub all_go : (p : Principle) → group.principle ≡ p → HoldsBound p old.parts bound entries labels → bound ≤ least → (d v : ℕ) → Has old.now d v → Takes old.parts group old.now d v
  all_go (principles.Bound costs b) is holds past d v has = (let cost = exact costs holds.1 holds.2 in let same = holds.0 in bound_takes old.parts group costs b known.problem is old.now d v (inl (omega (arith, cost, same, past))))
  all_go p is holds past d v has = absurd holds

  pub all_gone : IsGroup old.parts group → HoldsBound group.principle old.parts bound entries labels → bound ≤ least → (p q : Progress) → ((g : Group) → IsGroup old.parts g → ((d v : ℕ) → Has old.now d v → Takes old.parts g old.now d v) → Goes g p old q old) → q.dead ≡ true → Sweeps group (IsClosedFor old.parts group) p old q old
  all_gone is holds past p q goes dead = record { goes = goes group is (all_go group.principle refl holds past); known = known; done = λ quiet. absurd (false≢true (sym quiet.1 ∙ dead)) }

  -- dear edges go
  dear_by : (p : Principle) → group.principle ≡ p → HoldsBound p old.parts bound entries labels → (dim label : ℕ) → dim < length old.parts.dims → label < edge_labels old.parts dim → Dear (slice_index_or labels dim []) (bound - least) label → TakesFree old.parts group old.now dim label
  dear_by (principles.Bound costs b) is holds dim label dim_in label_in dear =
      let few = known.problem.dims_most in
      let most = labels_most old.parts dim known.problem in
      dear_taken old.parts group costs b known.problem is labels least (bound - least) dim label old.now (exact costs holds.1 holds.2) (ap (λ k. k - least) holds.0) holds.2 (omega (arith, dim_in, few)) (omega (arith, label_in, most)) dear
  dear_by p is holds dim label dim_in label_in dear = absurd holds

  pub dear_go : HoldsBound group.principle old.parts bound entries labels → (dim label : ℕ) → dim < length old.parts.dims → label < edge_labels old.parts dim → Dear (slice_index_or labels dim []) (bound - least) label → TakesFree old.parts group old.now dim label
  dear_go holds = dear_by group.principle refl holds

  -- where none is left, the box is closed
  closed_by : (p : Principle) → group.principle ≡ p → HoldsBound p old.parts bound entries labels → least < bound → OfDims labels (bound - least) (length old.parts.dims) old.parts old.now → IsClosedFor old.parts group old.now
  closed_by (principles.Bound costs b) is holds below done =
      let same = holds.0 in
      none_dear old.parts group costs b known.problem is labels least (bound - least) old.now (exact costs holds.1 holds.2) (ap (λ k. k - least) holds.0) (omega (arith, below, same)) holds.2 known.problem.dims_most (λ dim. labels_most old.parts dim known.problem) done
  closed_by p is holds below done = absurd holds

  pub dear_gone : HoldsBound group.principle old.parts bound entries labels → least < bound → (p q : Progress) (new : State) → Sweeps group (OfDims labels (bound - least) (length old.parts.dims) old.parts) p old q new → Sweeps group (IsClosedFor old.parts group) p old q new
  dear_gone holds below p q new sweep = record {
    goes = sweep.goes;
    known = sweep.known;
    done = λ quiet. (let same = (sweep.goes.quiet quiet).1 in
        subst (IsClosedFor old.parts group) (sym same) (closed_by group.principle refl holds below (subst (OfDims labels (bound - least) (length old.parts.dims) old.parts) same (sweep.done quiet))));
  }

-- ---- the propagator of a bound

-- a bound has costs and a number
pub bound_found : (p : Principle) → IsBound p → (costs : CostLists) × (bound : ℕ) × (p ≡ principles.Bound costs bound)
bound_found (principles.Bound costs bound) is = (costs, bound, refl)
bound_found p is = absurd is

-- its rows have the costs
pub rows_hold : (parts shown : Parts) (used group : Group) (costs : CostLists) (bound : ℕ) (entries labels : List (List ℕ)) → used ≡ group → group.principle ≡ principles.Bound costs bound → entries ≡ entry_rows costs shown → shown ≡ parts → AreLabelCosts costs labels → HoldsBound used.principle parts bound entries labels
rows_hold parts shown used group costs bound entries labels found is entries_are same labels_are =
    subst (λ (g : Group). HoldsBound g.principle parts bound entries labels) (sym found) (subst (λ p. HoldsBound p parts bound entries labels) (sym is) (refl, entries_are ∙ ap (entry_rows costs) same, labels_are))
