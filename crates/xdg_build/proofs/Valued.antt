-- Values of attributes in an analysis of a problem, and what the grammar says of them.
use Rattle.std.proofs.Common.{◌≡◌, ℕ, zero, suc, ◌<◌, ◌≤◌, ◌+◌, ◌*◌, cond, List, [], ◌∷◌, ◌++◌, length, get_or, map, take, refl, sym, ap, ap₂, ◌∙◌, subst, arith}
use Rattle.std.specs.Prelude.{slice_get, Some}
use Rattle.std.specs.List.{AllZip, flat_map, range_with_len}
use Rattle.std.proofs.lemmas.Bool.{eq-eqb, ne_eqb}
use Rattle.std.proofs.lemmas.List.{get_or-map, length-map, length-append, get_or_append_left, get_or-append-add}
use Rattle.std.proofs.lemmas.List.FromFn.{length-range_with_len}
use Rattle.std.proofs.lemmas.Nat.{row_fits}
use Rattle.std.proofs.lemmas.Option.{slice_get_within, get_or_from_slice_get}
use Rattle.xdg_domain.specs.Shapes.{Shape, count, shape, text}
use Rattle.xdg_domain.specs.declared.types.Ty.{Ty}
use Rattle.xdg_packed.specs.Lexicon.{Lexicon}
use Rattle.xdg_problem.specs.declared.analysis.Analysis.{Analysis}
use Rattle.xdg_problem.specs.declared.parts.AttrPlan.{AttrPlan}
use Rattle.xdg_problem.specs.declared.parts.DimPlan.{DimPlan}
use Rattle.xdg_problem.specs.declared.parts.Parts.{Parts}
use Rattle.xdg_problem.specs.Analyses.{IsAnalysis}
use Rattle.xdg_problem.specs.Arguments.{attr_count, attr_place, value_count, no_plan, no_attr}
use Rattle.xdg_problem.specs.Places.{below, nodes, numbers_from}
use Rattle.xdg_problem.specs.Vectors.{attr_sizes}
use Rattle.xdg_problem.proofs.AttrPlaces.{attr_within}
use Rattle.xdg_problem.proofs.Counted.{length_attrs_of}
use Rattle.xdg_types.specs.declared.table.DimType.{DimType}
use Rattle.xdg_types.specs.Table.{Table, IsTable, ArePlaces, typed}
use Rattle.xdg_build.specs.Grammars.{Grammar}
use Rattle.xdg_build.specs.Plans.{attr_plan, shown_as}
use Rattle.xdg_build.specs.Readings.{dimension, values_before, value_number, type_at}
use Rattle.xdg_facts.proofs.In.{in_get}
use Rattle.xdg_formula.specs.Tables.{used_dims}
use Rattle.xdg_build.specs.Problems.{IsPlanOf, IsFor}
use Rattle.xdg_build.proofs.Used.{among_all, used_within, dims_long, plan_of, attrs_are}
use Rattle.xdg_facts.specs.Membership.{In}
use Rattle.xdg_facts.proofs.Compared.{fits_at}

-- ---- numbers that stand again and again

repeated_length : (counts : List ℕ) (first many : ℕ) → length (flat_map (λ (node : ℕ). counts) (numbers_from first many)) ≡ many * length counts
repeated_length counts first zero = (let none : 0 ≡ 0 * length counts = grind arith in none)
repeated_length counts first (suc many) =
    let more : length counts + many * length counts ≡ suc many * length counts = grind arith in
    length-append counts (flat_map (λ (node : ℕ). counts) (numbers_from (suc first) many)) ∙ ap (λ k. length counts + k) (repeated_length counts (suc first) many) ∙ more

repeated_at : (counts : List ℕ) (first many v i : ℕ) → v < many → i < length counts → get_or (flat_map (λ (node : ℕ). counts) (numbers_from first many)) (v * length counts + i) 0 ≡ get_or counts i 0
repeated_at counts first zero v i node within = absurd (omega (arith, node))
repeated_at counts first (suc many) zero i node within =
    let place : 0 * length counts + i ≡ i = grind arith in
    ap (λ p. get_or (counts ++ flat_map (λ (node : ℕ). counts) (numbers_from (suc first) many)) p 0) place
    ∙ get_or_append_left counts (flat_map (λ (node : ℕ). counts) (numbers_from (suc first) many)) 0 i within
repeated_at counts first (suc many) (suc v) i node within =
    let place : suc v * length counts + i ≡ length counts + (v * length counts + i) = grind arith in
    ap (λ p. get_or (counts ++ flat_map (λ (node : ℕ). counts) (numbers_from (suc first) many)) p 0) place
    ∙ get_or-append-add counts (flat_map (λ (node : ℕ). counts) (numbers_from (suc first) many)) (v * length counts + i) 0
    ∙ repeated_at counts (suc first) many v i (omega (arith, node)) within

-- ---- how many values an attribute has

abbrev counts : DimPlan → List ℕ
counts plan = map (λ (attr : AttrPlan). length attr.values) plan.attrs

-- it stands among the counts of all where its value stands among the values of all
size_at : (n : ℕ) (plans : List DimPlan) (d v i : ℕ) → d < length plans → v < n → i < length (get_or plans d no_plan).attrs
    → get_or (attr_sizes n plans) (length (attr_sizes n (take d plans)) + (v * length (get_or plans d no_plan).attrs + i)) 0 ≡ length (get_or (get_or plans d no_plan).attrs i no_attr).values
size_at n [] d v i l node within = absurd (omega (arith, l))
size_at n (plan ∷ plans) zero v i l node within =
    let front : List ℕ = flat_map (λ (node : ℕ). counts plan) (below n) in
    let rest : List ℕ = attr_sizes n plans in
    let w : length (counts plan) ≡ length plan.attrs = length-map plan.attrs (λ (attr : AttrPlan). length attr.values) in
    let long : length front ≡ n * length (counts plan) = repeated_length (counts plan) 0 n in
    let rows : v * length (counts plan) + length (counts plan) ≤ n * length (counts plan) = row_fits v (length (counts plan)) n (length (counts plan)) node (omega arith) in
    let fits : v * length (counts plan) + i < n * length (counts plan) = omega (arith, rows, w, within) in
    let none : 0 + (v * length plan.attrs + i) ≡ v * length plan.attrs + i = grind arith in
    ap (λ p. get_or (front ++ rest) p 0) none
    ∙ ap (λ m. get_or (front ++ rest) (v * m + i) 0) (sym w)
    ∙ get_or_append_left front rest 0 (v * length (counts plan) + i) (omega (arith, long, fits))
    ∙ repeated_at (counts plan) 0 n v i node (omega (arith, w, within))
    ∙ get_or-map (λ (attr : AttrPlan). length attr.values) plan.attrs i no_attr 0 within
size_at n (plan ∷ plans) (suc d) v i l node within =
    let front : List ℕ = flat_map (λ (node : ℕ). counts plan) (below n) in
    let rest : List ℕ = attr_sizes n plans in
    let before : List ℕ = attr_sizes n (take d plans) in
    let more : ℕ = v * length (get_or plans d no_plan).attrs + i in
    let long : length (front ++ before) ≡ length front + length before = length-append front before in
    ap (λ p. get_or (front ++ rest) p 0) (let e : length (front ++ before) + more ≡ length front + (length before + more) = omega (arith, long) in e)
    ∙ get_or-append-add front rest (length before + more) 0
    ∙ size_at n plans d v i (omega (arith, l)) node within

module _ (parts : Parts) (a : Analysis) (fits : IsAnalysis parts a) where
  value_below : (d v i : ℕ) → d < length parts.dims → v < nodes parts → i < attr_count parts d → get_or a.attrs (attr_place parts d v i) 0 < value_count parts d i
  value_below d v i l node within =
      let place : attr_place parts d v i < length (attr_sizes (nodes parts) parts.dims) = attr_within parts d v i l node within in
      subst (λ m. get_or a.attrs (attr_place parts d v i) 0 < m) (size_at (nodes parts) parts.dims d v i l node within)
      (fits_at (attr_sizes (nodes parts) parts.dims) a.attrs (attr_place parts d v i) fits.attrs (omega (arith, place, fits.attr_count)))

-- ---- where its value stands

plan_attrs : (dim : DimType) (plan : DimPlan) → IsPlanOf dim plan → length plan.attrs ≡ length dim.attrs
plan_attrs dim plan is =
    ap length is.attrs ∙ length-map (typed dim.attrs) (λ (attr : List ℕ × Shape). attr_plan attr.0 attr.1) ∙ length-map dim.attrs (λ (one : List ℕ × Ty). (one.0, shape one.1))

before_same : (g : Grammar) (bound n : ℕ) (used : List ℕ) (plans : List DimPlan) (d : ℕ) → ArePlaces bound used → AllZip IsPlanOf (map (dimension g) used) plans → d < length used
    → values_before g n used (get_or used d 0) ≡ length (attr_sizes n (take d plans))
before_same g bound n [] plans d are zip l = absurd (omega (arith, l))
before_same g bound n (j ∷ used) [] d are zip l = absurd zip
before_same g bound n (j ∷ used) (plan ∷ plans) zero are zip l = ap (λ b. cond b 0 (n * length (dimension g j).attrs + values_before g n used j)) (eq-eqb j j refl)
before_same g bound n (j ∷ used) (plan ∷ plans) (suc d) are zip l =
    let inside : d < length used = omega (arith, l) in
    let k : ℕ = get_or used d 0 in
    ap (λ b. cond b 0 (n * length (dimension g j).attrs + values_before g n used k)) (ne_eqb j k (λ e. are.0.1 (subst (In used) (sym e) (in_get used d 0 inside))))
    ∙ ap₂ (λ x y. x + y) (sym (length_attrs_of n plan ∙ ap (λ m. n * m) (plan_attrs (dimension g j) plan zip.0))) (before_same g bound n used plans d are.1 zip.1 inside)
    ∙ sym (length-append (flat_map (λ (node : ℕ). map (λ (attr : AttrPlan). length attr.values) plan.attrs) (below n)) (attr_sizes n (take d plans)))

module _ (table : Table) (lexicon : Lexicon) (parts : Parts) (is : IsTable table) (for_it : IsFor table lexicon parts) (d : ℕ) (l : d < length (used_dims table)) where
  abbrev g : Grammar
  g = record { table = table; uses = []; lexicon = lexicon }

  abbrev k : ℕ
  k = among_all table lexicon is d

  pub number_same : (a : Analysis) (v i : ℕ) → value_number g (nodes parts) a k v i ≡ get_or a.attrs (attr_place parts d v i) 0
  number_same a v i =
      ap₂ (λ before many. get_or a.attrs (before + (v * many + i)) 0)
      (before_same g (length table.dims) (nodes parts) table.used parts.dims d is.used for_it.dims (used_within table lexicon is d l))
      (sym (attrs_are table lexicon parts is for_it d l))

  -- ---- its type

  module _ (i : ℕ) (name : List ℕ) (type : Shape) (stands : slice_get (typed (dimension g k).attrs) i ≡ Some (name, type)) where
    within : i < length (typed (dimension g k).attrs)
    within = slice_get_within (typed (dimension g k).attrs) i (name, type) stands

    pub attr_inside : i < attr_count parts d
    attr_inside =
        let long : length (typed (dimension g k).attrs) ≡ length (dimension g k).attrs = length-map (dimension g k).attrs (λ (one : List ℕ × Ty). (one.0, shape one.1)) in
        omega (arith, within, long, attrs_are table lexicon parts is for_it d l)

    typed_is : get_or (typed (dimension g k).attrs) i ([], text) ≡ (name, type)
    typed_is = get_or_from_slice_get (typed (dimension g k).attrs) i (name, type) ([], text) stands

    pub type_is : type_at (typed (dimension g k).attrs) i ≡ type
    type_is = ap (λ (one : List ℕ × Shape). one.1) typed_is

    pub value_count_is : value_count parts d i ≡ count type
    value_count_is =
        ap (λ (attrs : List AttrPlan). length (get_or attrs i no_attr).values) (plan_of table lexicon parts is for_it d l).attrs
        ∙ ap (λ (attr : AttrPlan). length attr.values) (get_or-map (λ (attr : List ℕ × Shape). attr_plan attr.0 attr.1) (typed (dimension g k).attrs) i ([], text) no_attr within)
        ∙ ap (λ (one : List ℕ × Shape). length (map (shown_as one.1) (range_with_len 0 (count one.1)))) typed_is
        ∙ length-map (range_with_len 0 (count type)) (shown_as type)
        ∙ length-range_with_len 0 (count type)

    pub number_below : (a : Analysis) → IsAnalysis parts a → (v : ℕ) → v < nodes parts → value_number g (nodes parts) a k v i < count type
    number_below a fits v node =
        subst (λ many. value_number g (nodes parts) a k v i < many) value_count_is
        (subst (λ x. x < value_count parts d i) (sym (number_same a v i)) (value_below parts a fits d v i (omega (arith, l, dims_long table lexicon parts is for_it)) node attr_inside))
