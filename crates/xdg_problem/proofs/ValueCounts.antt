-- The number of values of a decision, by its place.
use Rattle.std.proofs.Common.{◌≡◌, ℕ, ◌<◌, ◌≤◌, ◌+◌, ◌-◌, ◌*◌, List, [], ◌∷◌, ◌++◌, length, get_or, drop, refl, ap, sym, ◌∙◌, arith, subst, zero, suc, map, inl, inr}
use Rattle.std.specs.Prelude.{◌%◌}
use Rattle.std.specs.List.{flat_map}
use Rattle.std.proofs.Math.Nat.{mod-eq_of_lt, mod-eq-sub-mod, mod-lt}
use Rattle.std.proofs.lemmas.Bool.{cases_lt}
use Rattle.std.proofs.lemmas.List.{get_or_append_left, get_or-append_right, get_or_default, get_or-map, length-map, drop_more}
use Rattle.xdg_problem.specs.declared.analysis.Edge.{Edge}
use Rattle.xdg_problem.specs.declared.parts.AttrPlan.{AttrPlan}
use Rattle.xdg_problem.specs.declared.parts.DimPlan.{DimPlan}
use Rattle.xdg_problem.specs.declared.parts.Parts.{Parts}
use Rattle.xdg_problem.specs.Places.{numbers_from, below, nodes, places}
use Rattle.xdg_problem.specs.Vectors.{attr_sizes, shape}
use Rattle.xdg_problem.specs.Values.{value_counts}
use Rattle.xdg_problem.proofs.Counted.{length_attrs_of}
use Rattle.xdg_facts.proofs.Numbers.{some_after}

-- an attribute of one node among those of all nodes of a dimension
of_node : (counts : List ℕ) (first count i : ℕ) → i < count * length counts → get_or (flat_map (λ (node : ℕ). counts) (numbers_from first count)) i 2 ≡ get_or counts (i % length counts) 2
of_node counts first zero i l = absurd (omega arith)
of_node counts first (suc count) i l = elim (cases_lt i (length counts)) [
  | inl m ↦ get_or_append_left counts (flat_map (λ (node : ℕ). counts) (numbers_from (suc first) count)) 2 i m ∙ ap (λ j. get_or counts j 2) (sym (mod-eq_of_lt m))
  | inr m ↦
      let d : suc count * length counts ≡ length counts + count * length counts = grind arith in
      get_or-append_right counts (flat_map (λ (node : ℕ). counts) (numbers_from (suc first) count)) (length counts) i 2 refl m
      ∙ of_node counts (suc first) count (i - length counts) (omega (arith, d)) ∙ ap (λ j. get_or counts j 2) (sym (mod-eq-sub-mod m))
]

in_piece : (n i : ℕ) (plan : DimPlan) → i < n * length plan.attrs → get_or (flat_map (λ (node : ℕ). value_counts plan) (below n)) i 2 ≡ get_or (value_counts plan) (i % length plan.attrs) 2
in_piece n i plan l =
    let e : length (value_counts plan) ≡ length plan.attrs = length-map plan.attrs (λ (attr : AttrPlan). length attr.values) in
    of_node (value_counts plan) 0 n i (subst (λ w. i < n * w) (sym e) l) ∙ ap (λ w. get_or (value_counts plan) (i % w) 2) e

dims_head : (n k : ℕ) (dims : List DimPlan) (plan : DimPlan) → k < length dims → plan ≡ get_or dims k plan → attr_sizes n (drop k dims) ≡ flat_map (λ (node : ℕ). value_counts plan) (below n) ++ attr_sizes n (drop (k + 1) dims)
dims_head n k dims plan l e = ap (attr_sizes n) (drop_more dims k plan l ∙ ap (λ z. z ∷ drop (k + 1) dims) (sym e))

-- the attribute is one of the dimension that the loop is at
pub found_here : (n k i : ℕ) (dims : List DimPlan) (plan : DimPlan) (attr : AttrPlan) → k < length dims → plan ≡ get_or dims k plan → i < n * length plan.attrs → attr ≡ get_or plan.attrs (i % length plan.attrs) attr → length attr.values ≡ get_or (attr_sizes n (drop k dims)) i 2
found_here n k i dims plan attr l e m a =
    let w = length_attrs_of n plan in
    let r : i % length plan.attrs < length plan.attrs = mod-lt i (some_after n (length plan.attrs) i m) in
    ap (λ (z : AttrPlan). length z.values) a
    ∙ sym (ap (λ z. get_or z i 2) (dims_head n k dims plan l e)
    ∙ get_or_append_left (flat_map (λ (node : ℕ). value_counts plan) (below n)) (attr_sizes n (drop (k + 1) dims)) 2 i (omega (arith, w, m))
    ∙ in_piece n i plan m
    ∙ get_or-map (λ (z : AttrPlan). length z.values) plan.attrs (i % length plan.attrs) attr 2 r)

-- it is one of a later dimension
pub further_on : (n k i w : ℕ) (dims : List DimPlan) (plan : DimPlan) → k < length dims → plan ≡ get_or dims k plan → w ≡ n * length plan.attrs → w ≤ i → get_or (attr_sizes n (drop (k + 1) dims)) (i - w) 2 ≡ get_or (attr_sizes n (drop k dims)) i 2
further_on n k i w dims plan l e s m =
    sym (ap (λ z. get_or z i 2) (dims_head n k dims plan l e) ∙ get_or-append_right (flat_map (λ (node : ℕ). value_counts plan) (below n)) (attr_sizes n (drop (k + 1) dims)) w i 2 (length_attrs_of n plan ∙ sym s) m)

twos : (ps : List Edge) (i : ℕ) → ◌≡◌ {A = ℕ} (get_or (map (λ (place : Edge). 2) ps) i 2) 2
twos [] i = refl
twos (p ∷ ps) zero = refl
twos (p ∷ ps) (suc i) = twos ps i

-- behind the attributes each decision has two values
behind : (sizes : List ℕ) (ps : List Edge) (i : ℕ) → get_or (sizes ++ map (λ (place : Edge). 2) ps) i 2 ≡ get_or sizes i 2
behind [] ps i = twos ps i
behind (s ∷ sizes) ps zero = refl
behind (s ∷ sizes) ps (suc i) = behind sizes ps i

pub behind_candidates : (parts : Parts) (at c : ℕ) → c ≡ length parts.candidates → at < length (shape parts) → c ≤ at → get_or (attr_sizes (nodes parts) parts.dims) (at - c) 2 ≡ get_or (shape parts) at 0
behind_candidates parts at c e l m =
    sym (get_or_default (shape parts) at 0 2 l
    ∙ get_or-append_right (map length parts.candidates) (attr_sizes (nodes parts) parts.dims ++ map (λ (place : Edge). 2) (places parts)) c at 2 (length-map parts.candidates length ∙ sym e) m
    ∙ behind (attr_sizes (nodes parts) parts.dims) (places parts) (at - c))
