-- The used dimensions of a grammar, by their places and their names, and the dimensions of a problem.
use Rattle.std.proofs.Common.{◌≡◌, ℕ, ◌<◌, true, inl, inr, List, [], ◌∷◌, length, get_or, map, sym, ap, ◌∙◌, subst, arith}
use Rattle.std.specs.Prelude.{◌==◌, Contains, slice_index_or}
use Rattle.std.proofs.lemmas.Bool.{cases_eq, eq-eqb, eqb-true, ne_eqb}
use Rattle.std.proofs.lemmas.List.{get_or-map, length-map}
use Rattle.std.proofs.lemmas.List.Elements.{All-contains, All-filter, filter_passes}
use Rattle.xdg_domain.specs.Shapes.{Shape, shape}
use Rattle.xdg_domain.specs.declared.types.Ty.{Ty}
use Rattle.xdg_problem.specs.declared.analysis.Analysis.{Analysis}
use Rattle.xdg_problem.specs.declared.analysis.Edge.{Edge}
use Rattle.xdg_problem.specs.declared.parts.Parts.{Parts}
use Rattle.xdg_problem.specs.Analyses.{IsAnalysis, IsPlace}
use Rattle.xdg_problem.specs.Arguments.{label_count, attr_count, no_plan}
use Rattle.xdg_problem.specs.Paths.{edges_on}
use Rattle.xdg_problem.specs.declared.parts.DimPlan.{DimPlan}
use Rattle.xdg_problem.specs.Places.{nodes}
use Rattle.xdg_problem.proofs.PlacePlans.{dim_within, plan_read}
use Rattle.xdg_types.specs.declared.table.DimType.{DimType}
use Rattle.xdg_types.specs.Table.{Table, IsTable, KeepsDim, ArePlaces, typed}
use Rattle.xdg_build.specs.Grammars.{Grammar}
use Rattle.xdg_build.specs.Plans.{attr_plan}
use Rattle.xdg_build.specs.Readings.{dimension, edges_in}
use Rattle.xdg_build.proofs.Conditions.{AreWithin}
use Rattle.xdg_build.proofs.Planned.{kept_at, places_once}
use Rattle.xdg_facts.proofs.In.{in_get, one_place}
use Rattle.xdg_formula.specs.Tables.{no_dim, used_dims}
use Rattle.xdg_packed.specs.Lexicon.{Lexicon}
use Rattle.xdg_build.specs.Problems.{IsPlanOf, IsFor}
use Rattle.xdg_build.proofs.Standing.{IsDimAt}
use Rattle.xdg_build.specs.Truths.{IsCalled}
use Rattle.xdg_facts.proofs.Keeping.{filter_on}
use Rattle.xdg_facts.proofs.Lists.{zip_length}
use Rattle.xdg_facts.specs.Membership.{In}
use Rattle.xdg_facts.proofs.Zips.{zip_at}

-- ---- places of used dimensions

below_of : (bound : ℕ) (used : List ℕ) (k : ℕ) → ArePlaces bound used → In used k → k < bound
below_of bound [] k are has = absurd has
below_of bound (j ∷ used) k are has = elim has [ inl same ↦ subst (λ m. m < bound) same are.0.0 | inr later ↦ below_of bound used k are.1 later ]

-- ---- dimensions by their names

module _ (table : Table) (lexicon : Lexicon) (is : IsTable table) where
  abbrev g : Grammar
  g = record { table = table; uses = []; lexicon = lexicon }

  -- the place among all of the used dimension with that place among the used ones
  abbrev pub among_all : ℕ → ℕ
  among_all d = get_or table.used d 0

  used_long : length (used_dims table) ≡ length table.used
  used_long = length-map table.used (dimension g)

  pub used_within : (d : ℕ) → d < length (used_dims table) → d < length table.used
  used_within d l = omega (arith, l, used_long)

  pub used_is : (d : ℕ) → d < length (used_dims table) → get_or (used_dims table) d no_dim ≡ dimension g (among_all d)
  used_is d l = get_or-map (dimension g) table.used d 0 no_dim (used_within d l)

  pub among_below : (d : ℕ) → d < length (used_dims table) → among_all d < length table.dims
  among_below d l = below_of (length table.dims) table.used (among_all d) is.used (in_get table.used d 0 (used_within d l))

  pub dim_kept : (d : ℕ) → d < length (used_dims table) → KeepsDim (dimension g (among_all d))
  dim_kept d l = kept_at table.dims (among_all d) is.dims (among_below d l)

  pub type_kept : (d : ℕ) → d < length (used_dims table) → KeepsDim (get_or (used_dims table) d no_dim)
  type_kept d l = subst KeepsDim (sym (used_is d l)) (dim_kept d l)

  module _ (nodes : ℕ) (a : Analysis) (name : List ℕ) (d : ℕ) (at : IsDimAt table name d) where
    pub is_called : IsCalled table lexicon nodes a name (among_all d)
    is_called = (in_get table.used d 0 (used_within d at.within), at.named)

    -- no other dimension has the name
    pub one_called : (k : ℕ) → IsCalled table lexicon nodes a name k → k ≡ among_all d
    one_called k other =
        let here : k < length table.dims = below_of (length table.dims) table.used k is.used other.0 in
        let there : among_all d < length table.dims = among_below d at.within in
        let long : length (map (λ (dim : DimType). dim.name) table.dims) ≡ length table.dims = length-map table.dims (λ (dim : DimType). dim.name) in
        one_place (map (λ (dim : DimType). dim.name) table.dims) k (among_all d) is.names (omega (arith, here, long)) (omega (arith, there, long))
        (get_or-map (λ (dim : DimType). dim.name) table.dims k no_dim [] here ∙ other.1 ∙ sym at.named ∙ sym (get_or-map (λ (dim : DimType). dim.name) table.dims (among_all d) no_dim [] there))

-- ---- the dimensions of a problem

module _ (table : Table) (lexicon : Lexicon) (parts : Parts) (is : IsTable table) (for_it : IsFor table lexicon parts) where
  abbrev h : Grammar
  h = record { table = table; uses = []; lexicon = lexicon }

  pub dims_long : length (used_dims table) ≡ length parts.dims
  dims_long = zip_length IsPlanOf (used_dims table) parts.dims for_it.dims

  pub plan_of : (d : ℕ) → d < length (used_dims table) → IsPlanOf (dimension h (among_all table lexicon is d)) (slice_index_or parts.dims d no_plan)
  plan_of d l = subst (λ (dim : DimType). IsPlanOf dim (get_or parts.dims d no_plan)) (used_is table lexicon is d l) (zip_at IsPlanOf (used_dims table) parts.dims d no_dim no_plan for_it.dims l)

  pub labels_are : (d : ℕ) → d < length (used_dims table) → label_count parts d ≡ length (dimension h (among_all table lexicon is d)).labels
  labels_are d l = ap length (plan_of d l).labels

  pub attrs_are : (d : ℕ) → d < length (used_dims table) → attr_count parts d ≡ length (dimension h (among_all table lexicon is d)).attrs
  attrs_are d l =
      ap length (plan_of d l).attrs
      ∙ length-map (typed (dimension h (among_all table lexicon is d)).attrs) (λ (attr : List ℕ × Shape). attr_plan attr.0 attr.1)
      ∙ length-map (dimension h (among_all table lexicon is d)).attrs (λ (one : List ℕ × Ty). (one.0, shape one.1))

  -- ---- edges

  module _ (a : Analysis) (fits : IsAnalysis parts a) where
    edge_dim : (e : Edge) → Contains a.edges e → e.dim.0 < length table.used
    edge_dim e stands = (let l : e.dim.0 < length parts.dims = dim_within parts e (All-contains (IsPlace parts) a.edges e fits.places stands) in omega (arith, l, dims_long, used_long table lexicon is))

    pub edges_same : (d : ℕ) → d < length (used_dims table) → edges_on d a.edges ≡ edges_in h a (among_all table lexicon is d)
    edges_same d l = filter_on (λ e. e.dim.0 == d) (λ e. get_or table.used e.dim.0 0 == among_all table lexicon is d) a.edges (λ e stands. elim (cases_eq e.dim.0 d) [
      | inl same ↦ eq-eqb e.dim.0 d same ∙ sym (eq-eqb (get_or table.used e.dim.0 0) (among_all table lexicon is d) (ap (λ i. get_or table.used i 0) same))
      | inr other ↦ ne_eqb e.dim.0 d other ∙ sym (ne_eqb (get_or table.used e.dim.0 0) (among_all table lexicon is d)
          (λ same. other (places_once (length table.dims) table.used e.dim.0 d is.used (edge_dim e stands) (used_within table lexicon is d l) same)))
    ])

    -- the nodes and the labels of its edges are in range
    pub edges_within : (d : ℕ) → d < length (used_dims table) → AreWithin (nodes parts) (length (dimension h (among_all table lexicon is d)).labels) (edges_on d a.edges)
    edges_within d l = record { mother = λ e there. (place_of e there).mother; label = label_within; daughter = λ e there. (place_of e there).daughter }
      where
        place_of : (e : Edge) → Contains (edges_on d a.edges) e → IsPlace parts e
        place_of e there = All-contains (IsPlace parts) (edges_on d a.edges) e (All-filter (λ f. f.dim.0 == d) (IsPlace parts) a.edges fits.places) there

        label_within : (e : Edge) → Contains (edges_on d a.edges) e → e.label.0 < length (dimension h (among_all table lexicon is d)).labels
        label_within e there =
            let dim_is : e.dim.0 ≡ d = eqb-true e.dim.0 d (All-contains (λ f. (f.dim.0 == d) ≡ true) (edges_on d a.edges) e (filter_passes (λ f. f.dim.0 == d) a.edges) there) in
            let plan_is : get_or parts.dims d no_plan ≡ (place_of e there).plan = ap (λ i. get_or parts.dims i no_plan) (sym dim_is) ∙ plan_read parts e (place_of e there) no_plan in
            subst (λ (labels : List (List ℕ)). e.label.0 < length labels) (ap (λ (plan : DimPlan). plan.labels) (sym plan_is) ∙ (plan_of d l).labels) (place_of e there).label
