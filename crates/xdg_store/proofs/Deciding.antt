-- Each number of a decision is that of one on an entry, an attribute or an edge, and its bits are known by it.
use Rattle.std.proofs.Common.{◌≡◌, ℕ, ◌<◌, ◌+◌, ◌-◌, ◌*◌, ◌/◌, ◌%◌, inl, inr, List, [], ◌∷◌, length, get_or, take, refl, ap, ◌∙◌, arith, subst, zero, suc, length-append}
use Rattle.std.specs.List.{flat_map}
use Rattle.std.specs.Prelude.{map}
use Rattle.std.proofs.Math.Nat.{mod-lt, div-lt_iff_lt-mul}
use Rattle.std.proofs.lemmas.Bool.{cases_lt}
use Rattle.std.proofs.lemmas.List.{length-map}
use Rattle.std.proofs.lemmas.Nat.{div-add-mod'}
use Rattle.xdg_facts.proofs.Numbers.{some_after}
use Rattle.xdg_problem.specs.declared.analysis.Edge.{Edge}
use Rattle.xdg_problem.specs.declared.parts.AttrPlan.{AttrPlan}
use Rattle.xdg_problem.specs.declared.parts.DimPlan.{DimPlan}
use Rattle.xdg_problem.specs.declared.parts.Parts.{Parts}
use Rattle.xdg_problem.specs.Analyses.{Before}
use Rattle.xdg_problem.specs.Arguments.{no_plan, value_count}
use Rattle.xdg_problem.specs.Boxes.{place_in}
use Rattle.xdg_problem.specs.Places.{below, edge, nodes, numbers_from, places}
use Rattle.xdg_problem.specs.Problems.{IsProblem}
use Rattle.xdg_problem.specs.Vectors.{attr_sizes, first_place, shape}
use Rattle.xdg_problem.proofs.Counted.{length_attrs_of}
use Rattle.xdg_problem.proofs.Edges.{before_apart, same_edge_itself}
use Rattle.xdg_problem.proofs.Ordered.{numbers_length}
use Rattle.xdg_problem.proofs.PlaceOrder.{each_is_place, places_ordered}
use Rattle.xdg_problem.proofs.VectorFacts.{length_shape}
use Rattle.xdg_store.specs.Decisions.{IsDecision, number_of}
use Rattle.xdg_store.specs.Layout.{attr_row, bits_of, entry_row, pair_bits}
use Rattle.xdg_store.specs.declared.decision.Decision.{Decision}
use Rattle.xdg_store.specs.declared.decision.Decision.TheVariants as decisions
use Rattle.xdg_store.proofs.Located.{Located, attr_located, edge_located, entry_located, number_at}
use Rattle.xdg_store.proofs.Sizes.{bits_sizes}
use Rattle.xdg_facts.proofs.InOrder.{Ordered}
use Rattle.xdg_facts.proofs.Each.{each_at}

-- ---- the decision of a number

-- the attribute at a place among those of all dimensions
attr_named : (n : ℕ) (plans : List DimPlan) (at : ℕ) → at < length (attr_sizes n plans)
    → (dim : ℕ) × (node : ℕ) × (attr : ℕ) × (dim < length plans) × (node < n) × (attr < length (get_or plans dim no_plan).attrs)
    × (length (attr_sizes n (take dim plans)) + (node * length (get_or plans dim no_plan).attrs + attr) ≡ at)
attr_named n [] at l = absurd (omega (arith, l))
attr_named n (plan ∷ plans) at l =
    let width : ℕ = length plan.attrs in
    let own : List ℕ = flat_map (λ (node : ℕ). map (λ (attr : AttrPlan). length attr.values) plan.attrs) (below n) in
    let here : length own ≡ n * width = length_attrs_of n plan in
    elim (cases_lt at (n * width)) [
      | inl less ↦
          let some : 0 < width = some_after n width at less in
          (0, at / width, at % width, omega arith, (div-lt_iff_lt-mul some).1 less, mod-lt at some, (let whole = div-add-mod' at width in omega (arith, whole)))
      | inr more ↦
          let all = length-append own (attr_sizes n plans) in
          let later = attr_named n plans (at - n * width) (omega (arith, l, here, all, more)) in
          let front = length-append own (attr_sizes n (take later.0 plans)) in
          let dim_in = later.3 in
          let is = later.6 in
          (suc later.0, later.1, later.2, omega (arith, dim_in), later.4, later.5, omega (arith, is, here, front, more))
    ]

-- an edge place stands where it is found
pub place_at : (xs : List Edge) (k : ℕ) (d : Edge) → Ordered Before xs → k < length xs → place_in xs (get_or xs k d) ≡ k
place_at [] k d ordered l = absurd (omega (arith, l))
place_at (x ∷ xs) zero d ordered l = rw (same_edge_itself x) refl
place_at (x ∷ xs) (suc k) d ordered l =
    let later : k < length xs = omega (arith, l) in
    let apart = before_apart x (get_or xs k d) (each_at (Before x) xs k d later ordered.0) in
    rw apart (ap suc (place_at xs k d ordered.1 later))

pub named : (parts : Parts) → IsProblem parts → (d : ℕ) → d < length (shape parts) → (decision : Decision) × IsDecision parts decision × (number_of parts decision ≡ d)
named parts p d l =
    let each = p.candidates_each in
    let long = length_shape parts in
    elim (cases_lt d (nodes parts)) [
      | inl entry ↦ (decisions.Entry (record { 0 = d }), entry, refl)
      | inr past ↦ elim (cases_lt d (first_place parts)) [
        | inl attr ↦
            let found = attr_named (nodes parts) parts.dims (d - length parts.candidates) (omega (arith, attr, past, each)) in
            let is = found.6 in
            (decisions.Attr (record { 0 = found.0 }) (record { 0 = found.1 }) (record { 0 = found.2 }), (found.3, found.4, found.5), omega (arith, is, past, each))
        | inr behind ↦
            let k : ℕ = d - first_place parts in
            let none : Edge = edge 0 0 0 0 in
            let within : k < length (places parts) = omega (arith, l, long, behind) in
            let at = place_at (places parts) k none (places_ordered parts) within in
            (decisions.Place (get_or (places parts) k none), each_at _ (places parts) k none within (each_is_place parts), omega (arith, at, behind))
      ]
    ]

-- ---- its bits

-- a decision has so many values, and a bit for each
pub record HasBits (parts : Parts) (d size : ℕ) (bit : ℕ → ℕ) : Type 0 where
  pub within : d < length (bits_of parts)
  pub count : length (get_or (bits_of parts) d []) ≡ size
  pub each : (v : ℕ) → v < size → get_or (get_or (bits_of parts) d []) v 0 ≡ bit v

pub own_bits : {parts : Parts} {d : ℕ} → d < length (bits_of parts) → HasBits parts d (length (get_or (bits_of parts) d [])) (λ v. get_or (get_or (bits_of parts) d []) v 0)
own_bits l = record { within = l; count = refl; each = λ v m. refl }

pub row_has_bits : {parts : Parts} {d : ℕ} (start size : ℕ) → Located parts d (numbers_from start size) → HasBits parts d size (λ v. start + v)
row_has_bits start size at = record { within = at.within; count = ap length at.is ∙ numbers_length start size; each = λ v l. ap (λ row. get_or row v 0) at.is ∙ number_at start size v 0 l }

abbrev pub pair_bit : Parts → Edge → ℕ → ℕ
pair_bit parts e v = get_or (pair_bits (nodes parts) e) v 0

abbrev pub size_of : Parts → Decision → ℕ
size_of parts (decisions.Entry node) = length (get_or parts.candidates node.0 [])
size_of parts (decisions.Attr dim node attr) = value_count parts dim.0 attr.0
size_of parts (decisions.Place e) = 2

abbrev pub bit_of : Parts → Decision → ℕ → ℕ
bit_of parts (decisions.Entry node) = λ v. entry_row node.0 + v
bit_of parts (decisions.Attr dim node attr) = λ v. attr_row (nodes parts) dim.0 node.0 attr.0 + v
bit_of parts (decisions.Place e) = pair_bit parts e

pub has_bits : (parts : Parts) → IsProblem parts → (decision : Decision) → IsDecision parts decision → HasBits parts (number_of parts decision) (size_of parts decision) (bit_of parts decision)
has_bits parts p (decisions.Entry node) is = row_has_bits _ _ (entry_located parts p.candidates_each node.0 is)
has_bits parts p (decisions.Attr dim node attr) (d, l, a) = row_has_bits _ _ (attr_located parts p.candidates_each dim.0 node.0 attr.0 d l a)
has_bits parts p (decisions.Place e) is =
    let at = edge_located parts p.candidates_each e is in
    record { within = at.within; count = ap length at.is; each = λ v l. ap (λ row. get_or row v 0) at.is }

-- the decision of a number, with its bits
pub named_bits : (parts : Parts) → IsProblem parts → (d : ℕ) → d < length (bits_of parts)
    → (decision : Decision) × IsDecision parts decision × (number_of parts decision ≡ d) × HasBits parts d (size_of parts decision) (bit_of parts decision)
named_bits parts p d l =
    let count = length-map (bits_of parts) length in
    let sizes = ap length (bits_sizes parts) in
    let name = named parts p d (omega (arith, l, count, sizes)) in
    (name.0, name.1, name.2, subst (λ i. HasBits parts i (size_of parts name.0) (bit_of parts name.0)) name.2 (has_bits parts p name.0 name.1))
