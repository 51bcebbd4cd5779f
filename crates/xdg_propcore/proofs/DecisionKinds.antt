-- The kinds of the decisions of entries, attributes and edge places.
use Rattle.std.proofs.Common.{◌≡◌, ℕ, zero, suc, ◌<◌, ◌+◌, ◌-◌, ◌*◌, inl, inr, List, [], ◌∷◌, ◌++◌, Contains, length, get_or, map, take, ap, sym, ◌∙◌, arith, refl, length-append}
use Rattle.std.specs.Prelude.{slice_index_or}
use Rattle.std.specs.List.{flat_map}
use Rattle.std.proofs.lemmas.List.{get_or_append_left, get_or-append-add, get_or-map, length-map}
use Rattle.std.proofs.lemmas.Bool.{cases_lt}
use Rattle.std.proofs.lemmas.Nat.{row_fits}
use Rattle.xdg_base.specs.declared.ids.EntryNo.{EntryNo}
use Rattle.xdg_problem.specs.declared.analysis.Edge.{Edge}
use Rattle.xdg_problem.specs.declared.parts.AttrPlan.{AttrPlan}
use Rattle.xdg_problem.specs.declared.parts.DimPlan.{DimPlan}
use Rattle.xdg_problem.specs.declared.parts.Parts.{Parts}
use Rattle.xdg_problem.specs.Arguments.{attr_count, no_plan}
use Rattle.xdg_problem.specs.Boxes.{entry_decision, attr_decision, edge_decision, place_in}
use Rattle.xdg_problem.specs.Places.{below, nodes, places}
use Rattle.xdg_problem.specs.Vectors.{attr_sizes}
use Rattle.xdg_problem.proofs.AttrPlaces.{attr_within}
use Rattle.xdg_problem.proofs.Counted.{length_attrs_of}
use Rattle.xdg_problem.proofs.PlaceFound.{place_found}
use Rattle.xdg_propcore.specs.Kinds.{entry_kind, attr_kind, edge_kind, attr_kinds, decision_kinds, kind_of}

-- ---- one dimension

row_kinds : (kind : ℕ) (attrs : List AttrPlan) (i : ℕ) → i < length attrs → get_or (map (λ (attr : AttrPlan). kind) attrs) i 0 ≡ kind
row_kinds kind attrs i l = get_or-map (λ (attr : AttrPlan). kind) attrs i (record { name = []; values = [] }) 0 l

-- as many kinds as values
length_block : (kind : ℕ) (attrs : List AttrPlan) (ns : List ℕ) → length (flat_map (λ (node : ℕ). map (λ (attr : AttrPlan). kind) attrs) ns) ≡ length (flat_map (λ (node : ℕ). map (λ (attr : AttrPlan). length attr.values) attrs) ns)
length_block kind attrs [] = refl
length_block kind attrs (n ∷ ns) =
    let a = length-append (map (λ (attr : AttrPlan). kind) attrs) (flat_map (λ (node : ℕ). map (λ (attr : AttrPlan). kind) attrs) ns) in
    let b = length-append (map (λ (attr : AttrPlan). length attr.values) attrs) (flat_map (λ (node : ℕ). map (λ (attr : AttrPlan). length attr.values) attrs) ns) in
    let m = length-map attrs (λ (attr : AttrPlan). kind) in
    let k = length-map attrs (λ (attr : AttrPlan). length attr.values) in
    let r = length_block kind attrs ns in
    omega (arith, a, b, m, k, r)

block_kinds : (kind : ℕ) (attrs : List AttrPlan) (ns : List ℕ) (i : ℕ) → i < length (flat_map (λ (node : ℕ). map (λ (attr : AttrPlan). kind) attrs) ns) → get_or (flat_map (λ (node : ℕ). map (λ (attr : AttrPlan). kind) attrs) ns) i 0 ≡ kind
block_kinds kind attrs [] i l = absurd (omega (arith, l))
block_kinds kind attrs (n ∷ ns) i l =
    let m = length-map attrs (λ (attr : AttrPlan). kind) in
    let a = length-append (map (λ (attr : AttrPlan). kind) attrs) (flat_map (λ (node : ℕ). map (λ (attr : AttrPlan). kind) attrs) ns) in
    elim (cases_lt i (length attrs)) [
      | inl k ↦ get_or_append_left (map (λ (attr : AttrPlan). kind) attrs) (flat_map (λ (node : ℕ). map (λ (attr : AttrPlan). kind) attrs) ns) 0 i (omega (arith, m, k)) ∙ row_kinds kind attrs i k
      | inr k ↦
          let at : i ≡ length (map (λ (attr : AttrPlan). kind) attrs) + (i - length attrs) = omega (arith, m, k) in
          ap (λ j. get_or (map (λ (attr : AttrPlan). kind) attrs ++ flat_map (λ (node : ℕ). map (λ (attr : AttrPlan). kind) attrs) ns) j 0) at
          ∙ get_or-append-add (map (λ (attr : AttrPlan). kind) attrs) (flat_map (λ (node : ℕ). map (λ (attr : AttrPlan). kind) attrs) ns) (i - length attrs) 0
          ∙ block_kinds kind attrs ns (i - length attrs) (omega (arith, l, k, a, m))
    ]

-- as many as nodes and attributes together
block_size : (n kind : ℕ) (plan : DimPlan) → length (flat_map (λ (node : ℕ). map (λ (attr : AttrPlan). kind) plan.attrs) (below n)) ≡ n * length plan.attrs
block_size n kind plan = length_block kind plan.attrs (below n) ∙ length_attrs_of n plan

-- ---- all dimensions

dim_kinds : (n first : ℕ) (plans : List DimPlan) (dim i : ℕ) → dim < length plans → i < n * length (slice_index_or plans dim no_plan).attrs → get_or (attr_kinds n first plans) (length (attr_sizes n (take dim plans)) + i) 0 ≡ attr_kind (first + dim)
dim_kinds n first [] dim i l m = absurd (omega (arith, l))
dim_kinds n first (plan ∷ plans) zero i l m =
    let here = flat_map (λ (node : ℕ). map (λ (attr : AttrPlan). attr_kind first) plan.attrs) (below n) in
    let size = block_size n (attr_kind first) plan in
    let at : 0 + i ≡ i = omega arith in
    let kind : first + 0 ≡ first = omega arith in
    ap (λ j. get_or (here ++ attr_kinds n (suc first) plans) j 0) at
    ∙ get_or_append_left here (attr_kinds n (suc first) plans) 0 i (omega (arith, size, m))
    ∙ block_kinds (attr_kind first) plan.attrs (below n) i (omega (arith, size, m))
    ∙ ap attr_kind (sym kind)
dim_kinds n first (plan ∷ plans) (suc dim) i l m =
    let here = flat_map (λ (node : ℕ). map (λ (attr : AttrPlan). attr_kind first) plan.attrs) (below n) in
    let sizes = flat_map (λ (node : ℕ). map (λ (attr : AttrPlan). length attr.values) plan.attrs) (below n) in
    let size = block_size n (attr_kind first) plan in
    let other = length_attrs_of n plan in
    let whole = length-append sizes (attr_sizes n (take dim plans)) in
    let at : length (sizes ++ attr_sizes n (take dim plans)) + i ≡ length here + (length (attr_sizes n (take dim plans)) + i) = omega (arith, size, other, whole) in
    let kind : suc first + dim ≡ first + suc dim = omega arith in
    ap (λ j. get_or (here ++ attr_kinds n (suc first) plans) j 0) at
    ∙ get_or-append-add here (attr_kinds n (suc first) plans) (length (attr_sizes n (take dim plans)) + i) 0
    ∙ dim_kinds n (suc first) plans dim i (omega (arith, l)) m
    ∙ ap attr_kind kind

length_kinds : (n first : ℕ) (plans : List DimPlan) → length (attr_kinds n first plans) ≡ length (attr_sizes n plans)
length_kinds n first [] = refl
length_kinds n first (plan ∷ plans) =
    let a = length-append (flat_map (λ (node : ℕ). map (λ (attr : AttrPlan). attr_kind first) plan.attrs) (below n)) (attr_kinds n (suc first) plans) in
    let b = length-append (flat_map (λ (node : ℕ). map (λ (attr : AttrPlan). length attr.values) plan.attrs) (below n)) (attr_sizes n plans) in
    let size = block_size n (attr_kind first) plan in
    let other = length_attrs_of n plan in
    let rest = length_kinds n (suc first) plans in
    omega (arith, a, b, size, other, rest)

-- ---- decisions

module _ (parts : Parts) where
  abbrev entries : List ℕ
  entries = map (λ (candidates : List EntryNo). entry_kind) parts.candidates

  abbrev attrs : List ℕ
  attrs = attr_kinds (nodes parts) 0 parts.dims

  abbrev edges : List ℕ
  edges = map (λ (place : Edge). edge_kind place.dim.0) (places parts)

  count : length entries ≡ length parts.candidates
  count = length-map parts.candidates (λ (candidates : List EntryNo). entry_kind)

  pub kind_of_entry : (node : ℕ) → node < length parts.candidates → kind_of parts (entry_decision node) ≡ entry_kind
  kind_of_entry node l = get_or_append_left entries (attrs ++ edges) 0 node (let c = count in omega (arith, c, l)) ∙ get_or-map (λ (candidates : List EntryNo). entry_kind) parts.candidates node [] 0 l

  pub kind_of_attr : (dim node attr : ℕ) → dim < length parts.dims → node < nodes parts → attr < attr_count parts dim → kind_of parts (attr_decision parts dim node attr) ≡ attr_kind dim
  kind_of_attr dim node attr d v a =
      let row = row_fits node (attr_count parts dim) (nodes parts) (attr_count parts dim) v (omega arith) in
      let i : ℕ = node * attr_count parts dim + attr in
      let m : i < nodes parts * attr_count parts dim = omega (arith, row, a) in
      let place : ℕ = length (attr_sizes (nodes parts) (take dim parts.dims)) + i in
      let within = attr_within parts dim node attr d v a in
      let long = length_kinds (nodes parts) 0 parts.dims in
      let c = count in
      let at : length parts.candidates + place ≡ length entries + place = omega (arith, c) in
      let kind : 0 + dim ≡ dim = omega arith in
      ap (λ j. get_or (decision_kinds parts) j 0) at
      ∙ get_or-append-add entries (attrs ++ edges) place 0
      ∙ get_or_append_left attrs edges 0 place (omega (arith, within, long))
      ∙ dim_kinds (nodes parts) 0 parts.dims dim i d m
      ∙ ap attr_kind kind

  pub kind_of_edge : (e : Edge) → Contains (places parts) e → kind_of parts (edge_decision parts e) ≡ edge_kind e.dim.0
  kind_of_edge e is =
      let k : ℕ = place_in (places parts) e in
      let found = place_found (places parts) e is in
      let long = length_kinds (nodes parts) 0 parts.dims in
      let c = count in
      let at : edge_decision parts e ≡ length entries + (length attrs + k) = omega (arith, c, long) in
      ap (λ j. get_or (decision_kinds parts) j 0) at
      ∙ get_or-append-add entries (attrs ++ edges) (length attrs + k) 0
      ∙ get_or-append-add attrs edges k 0
      ∙ get_or-map (λ (place : Edge). edge_kind place.dim.0) (places parts) k e 0 found.0
      ∙ ap (λ (place : Edge). edge_kind place.dim.0) found.1
