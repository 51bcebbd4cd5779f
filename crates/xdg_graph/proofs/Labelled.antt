-- Labels of a dimension that has edges.
use Rattle.std.proofs.Common.{◌≡◌, ◌≢◌, ℕ, ◌<◌, inl, inr, true, false, cond, Some, None, length, get_or, ap, sym, ◌∙◌, subst}
use Rattle.std.specs.Prelude.{slice_get}
use Rattle.std.proofs.lemmas.Bool.{cases_lt, false≢true}
use Rattle.std.proofs.lemmas.List.{get_or_past}
use Rattle.std.proofs.lemmas.Option.{slice_get-get_or}
use Rattle.xdg_facts.proofs.Lookups.{read_some, read_none}
use Rattle.xdg_problem.specs.declared.analysis.Edge.{Edge}
use Rattle.xdg_problem.specs.declared.parts.DimPlan.{DimPlan}
use Rattle.xdg_problem.specs.declared.parts.Parts.{Parts}
use Rattle.xdg_problem.specs.Analyses.{IsPlace}
use Rattle.xdg_problem.specs.Arguments.{no_plan}
use Rattle.xdg_problem.specs.Places.{edge, nodes}
use Rattle.xdg_problem.proofs.PlacePlans.{plan_read}
use Rattle.xdg_store.specs.InRange.{HasEdges}
use Rattle.xdg_graph.specs.Edges.{edge_labels, plan_labels}
use Rattle.xdg_facts.proofs.Numbers.{cond_labels, labels_cond}

-- a label of a dimension that has edges
pub has_edges : (parts : Parts) (dim node label : ℕ) → node < nodes parts → label < edge_labels parts dim → HasEdges parts dim node label
has_edges parts dim node label within l =
    let both = cond_labels (get_or parts.dims dim no_plan).graph (length (get_or parts.dims dim no_plan).labels) label l in
    record {
      dim_in = elim (cases_lt dim (length parts.dims)) [
        | inl m ↦ m
        | inr past ↦ absurd (false≢true (subst (λ (p : DimPlan). p.graph ≡ true) (get_or_past parts.dims dim no_plan past) both.0))
      ];
      graph = both.0;
      node_in = within;
      label_in = both.1;
    }

-- the label of a place is one
pub label_below : (parts : Parts) (e : Edge) → IsPlace parts e → e.label.0 < edge_labels parts e.dim.0
label_below parts e is =
    let same : get_or parts.dims e.dim.0 no_plan ≡ is.plan = plan_read parts e is no_plan in
    subst (λ p. e.label.0 < plan_labels p) (sym same) (labels_cond is.plan.graph (length is.plan.labels) e.label.0 is.graph is.label)

-- a place between two nodes of a dimension that has edges
pub place_between : (parts : Parts) (dim u l x : ℕ) → u < nodes parts → x < nodes parts → u ≢ x → l < edge_labels parts dim → IsPlace parts (edge dim u l x)
place_between parts dim u l x a b differ label =
    let h = has_edges parts dim u l a label in
    record {
      plan = get_or parts.dims dim no_plan;
      plan_is = slice_get-get_or parts.dims dim no_plan h.dim_in;
      graph = h.graph;
      label = h.label_in;
      mother = a;
      daughter = b;
      differ = differ;
    }

-- what the code reads of a dimension
pub labels_some : (parts : Parts) (dim at : ℕ) (plan : DimPlan) (count : ℕ) → Some plan ≡ slice_get parts.dims at → at ≡ dim → plan.graph ≡ true → count ≡ length plan.labels → count ≡ edge_labels parts dim
labels_some parts dim at plan count found same graph counted =
    let e : get_or parts.dims dim no_plan ≡ plan = read_some parts.dims dim plan no_plan (subst (λ i. Some plan ≡ slice_get parts.dims i) same found) in
    counted ∙ ap (λ b. cond b (length plan.labels) 0) (sym graph) ∙ ap plan_labels (sym e)

pub labels_flat : (parts : Parts) (dim at : ℕ) (plan : DimPlan) → Some plan ≡ slice_get parts.dims at → at ≡ dim → plan.graph ≡ false → 0 ≡ edge_labels parts dim
labels_flat parts dim at plan found same graph =
    let e : get_or parts.dims dim no_plan ≡ plan = read_some parts.dims dim plan no_plan (subst (λ i. Some plan ≡ slice_get parts.dims i) same found) in
    ap (λ b. cond b (length plan.labels) 0) (sym graph) ∙ ap plan_labels (sym e)

pub labels_none : (parts : Parts) (dim at : ℕ) → None ≡ slice_get parts.dims at → at ≡ dim → 0 ≡ edge_labels parts dim
labels_none parts dim at found same = ap plan_labels (sym (read_none parts.dims dim no_plan (subst (λ i. None ≡ slice_get parts.dims i) same found)))
