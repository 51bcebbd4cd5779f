-- Decisions by their numbers.
use Rattle.std.proofs.Common.{◌≡◌, ℕ, ◌<◌, ◌≤◌, ◌+◌, ◌-◌, ◌*◌, List, [], length, get_or, take, ap, ap₂, sym, ◌∙◌, arith, subst}
use Rattle.std.specs.Prelude.{◌/◌, ◌%◌, slice_index}
use Rattle.std.proofs.lemmas.List.{get_or-map, get_or_default, take_all}
use Rattle.std.proofs.lemmas.Nat.{div-add-mod'}
use Rattle.std.proofs.Math.Nat.{mod-lt, div-lt_iff_lt-mul}
use Rattle.xdg_problem.specs.declared.analysis.Edge.{Edge}
use Rattle.xdg_problem.specs.declared.parts.DimPlan.{DimPlan}
use Rattle.xdg_problem.specs.declared.parts.Parts.{Parts}
use Rattle.xdg_problem.specs.Analyses.{IsPlace}
use Rattle.xdg_problem.specs.Arguments.{no_plan, attr_count}
use Rattle.xdg_problem.specs.Boxes.{entry_decision, attr_decision, edge_decision, place_in}
use Rattle.xdg_problem.specs.Places.{nodes, places}
use Rattle.xdg_problem.specs.Problems.{IsProblem}
use Rattle.xdg_problem.specs.Vectors.{attr_sizes, shape, first_place}
use Rattle.xdg_problem.proofs.PlaceOrder.{is_place, place_is, places_ordered}
use Rattle.xdg_problem.proofs.VectorFacts.{length_shape}
use Rattle.xdg_store.specs.Decisions.{IsDecision, number_of}
use Rattle.xdg_store.specs.declared.decision.Decision.{Decision}
use Rattle.xdg_store.specs.declared.decision.Decision.TheVariants as decisions
use Rattle.xdg_store.specs.InRange.{HasCandidate, HasValue}
use Rattle.xdg_store.specs.Layout.{bits_of}
use Rattle.xdg_store.proofs.Deciding.{has_bits, place_at, size_of}
use Rattle.xdg_store.proofs.Sizes.{bits_sizes}
use Rattle.xdg_rules.proofs.Sizes.{edge_size}
use Rattle.xdg_facts.proofs.Numbers.{some_after}
use Rattle.xdg_store.proofs.Room.{attrs_more}

-- ---- how many values

its_size : (parts : Parts) (decision : Decision) → IsProblem parts → IsDecision parts decision → slice_index (shape parts) (number_of parts decision) ≡ size_of parts decision
its_size parts decision p is =
    let at = has_bits parts p decision is in
    ap (λ z. get_or z (number_of parts decision) 0) (sym (bits_sizes parts)) ∙ get_or-map length (bits_of parts) (number_of parts decision) [] 0 at.within ∙ at.count

pub has_candidate : (parts : Parts) (node place : ℕ) → IsProblem parts → node < nodes parts → place < slice_index (shape parts) (entry_decision node) → HasCandidate parts node place
has_candidate parts node place is l v = record { node_in = l; place_in = subst (λ n. place < n) (its_size parts (decisions.Entry (record { 0 = node })) is l) v }

pub has_value : (parts : Parts) (node dim attr value : ℕ) → IsProblem parts → (dim < length parts.dims) × (node < nodes parts) × (attr < attr_count parts dim) → value < slice_index (shape parts) (attr_decision parts dim node attr) → HasValue parts node dim attr value
has_value parts node dim attr value is l v = record {
  node_in = l.1;
  dim_in = l.0;
  attr_in = l.2;
  value_in = subst (λ n. value < n) (its_size parts (decisions.Attr (record { 0 = dim }) (record { 0 = node }) (record { 0 = attr })) is l) v;
}

pub edge_value : (parts : Parts) (e : Edge) (value : ℕ) → IsPlace parts e → value < slice_index (shape parts) (edge_decision parts e) → value < 2
edge_value parts e value is v = subst (λ n. value < n) (edge_size parts e (place_is parts e is)) v

-- ---- edge places

-- the decision behind the first ones is that of the edge place there
pub place_number : (parts : Parts) (edges : List Edge) (d : Edge) (at first : ℕ) → edges ≡ places parts → first ≡ first_place parts → first ≤ at → at - first < length edges → edge_decision parts (get_or edges (at - first) d) ≡ at
place_number parts edges d at first same is l m =
    let k : ℕ = at - first in
    let here : k < length (places parts) = subst (λ z. k < length z) same m in
    let place : place_in (places parts) (get_or edges k d) ≡ k = ap (λ z. place_in (places parts) (get_or z k d)) same ∙ place_at (places parts) k d (places_ordered parts) here in
    omega (arith, place, is, l)

-- ---- attributes

same_count : (parts : Parts) (dims : List DimPlan) (plan : DimPlan) (dim width : ℕ) → dims ≡ parts.dims → dim < length dims → plan ≡ get_or dims dim plan → width ≡ length plan.attrs → attr_count parts dim ≡ width
same_count parts dims plan dim width same l found w =
    ap (λ z. length (get_or z dim no_plan).attrs) (sym same)
    ∙ ap (λ (z : DimPlan). length z.attrs) (get_or_default dims dim no_plan plan l ∙ sym found)
    ∙ sym w

-- the attribute found in its dimension has the number
pub attr_number : (parts : Parts) (dims : List DimPlan) (plan : DimPlan) (dim width n rest at : ℕ) → dims ≡ parts.dims → n ≡ nodes parts → dim < length dims → plan ≡ get_or dims dim plan → width ≡ length plan.attrs → rest + length (attr_sizes n (take dim dims)) ≡ at → attr_decision parts dim (rest / width) (rest % width) ≡ length parts.candidates + at
attr_number parts dims plan dim width n rest at same count l found w sum =
    let each = same_count parts dims plan dim width same l found w in
    let row : rest / width * attr_count parts dim + rest % width ≡ rest = ap (λ z. rest / width * z + rest % width) each ∙ div-add-mod' rest width in
    let before : length (attr_sizes (nodes parts) (take dim parts.dims)) ≡ length (attr_sizes n (take dim dims)) = ap₂ (λ k z. length (attr_sizes k (take dim z))) (sym count) (sym same) in
    omega (arith, row, before, sum)

pub attr_in_range : (parts : Parts) (dims : List DimPlan) (plan : DimPlan) (dim width n rest : ℕ) → dims ≡ parts.dims → n ≡ nodes parts → dim < length dims → plan ≡ get_or dims dim plan → width ≡ length plan.attrs → rest < n * width → (dim < length parts.dims) × (rest / width < nodes parts) × (rest % width < attr_count parts dim)
attr_in_range parts dims plan dim width n rest same count l found w m =
    let each = same_count parts dims plan dim width same l found w in
    let some : 0 < width = some_after n width rest m in (
      subst (λ z. dim < length z) same l,
      subst (λ k. rest / width < k) count ((div-lt_iff_lt-mul some).1 m),
      subst (λ k. rest % width < k) (sym each) (mod-lt rest some),
    )

-- one dimension further
pub attr_step : (dims : List DimPlan) (plan : DimPlan) (dim width n rest at : ℕ) → dim < length dims → plan ≡ get_or dims dim plan → width ≡ length plan.attrs → n * width ≤ rest → rest + length (attr_sizes n (take dim dims)) ≡ at → (rest - n * width) + length (attr_sizes n (take (dim + 1) dims)) ≡ at
attr_step dims plan dim width n rest at l found w m sum =
    let more = attrs_more n dims dim plan l found in
    let same : n * width ≡ n * length plan.attrs = ap (λ z. n * z) w in
    omega (arith, more, same, m, sum)

-- an attribute in range is in some dimension
pub attr_some : (parts : Parts) (dims : List DimPlan) (n dim rest at : ℕ) → dims ≡ parts.dims → n ≡ nodes parts → length dims ≤ dim → at < length (attr_sizes (nodes parts) parts.dims) → rest + length (attr_sizes n (take dim dims)) ≡ at → ⊥
attr_some parts dims n dim rest at same count past l sum =
    let all : length (attr_sizes n (take dim dims)) ≡ length (attr_sizes (nodes parts) parts.dims) = ap (λ z. length (attr_sizes n z)) (take_all dim dims past) ∙ ap₂ (λ k z. length (attr_sizes k z)) count same in
    omega (arith, all, l, sum)

-- the edge there is one of the sentence
pub place_there : (parts : Parts) (edges : List Edge) (d : Edge) (k : ℕ) → edges ≡ places parts → k < length edges → IsPlace parts (get_or edges k d)
place_there parts edges d k same l = is_place parts (get_or edges k d) (k, subst (λ z. k < length z) same l, get_or_default (places parts) k (get_or edges k d) d (subst (λ z. k < length z) same l) ∙ ap (λ z. get_or z k d) (sym same))

-- how many decisions come before the edge places
pub first_is : (parts : Parts) (edges : List Edge) (count first : ℕ) → edges ≡ places parts → count ≡ length (shape parts) → first ≡ count - length edges → (first ≡ first_place parts) × (first + length edges ≡ length (shape parts))
first_is parts edges count first same all is =
    let long = length_shape parts in
    let e = ap length same in
    (omega (arith, long, e, all, is), omega (arith, long, e, all, is))

-- the decision on the edge at a place among the edge places
pub place_decision : (parts : Parts) (edges : List Edge) (e d : Edge) (first k : ℕ) → edges ≡ places parts → first ≡ first_place parts → k < length edges → e ≡ get_or edges k d → edge_decision parts e ≡ first + k
place_decision parts edges e d first k same is within found =
    let place : place_in (places parts) e ≡ k = ap (λ x. place_in (places parts) x) (found ∙ ap (λ z. get_or z k d) same) ∙ place_at (places parts) k d (places_ordered parts) (subst (λ z. k < length z) same within) in
    omega (arith, place, is)
