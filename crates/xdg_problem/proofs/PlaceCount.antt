-- How many places there are.
use Rattle.std.proofs.Common.{◌≡◌, ℕ, ◌<◌, ◌≤◌, ◌+◌, ◌-◌, ◌*◌, inl, inr, List, ◌∷◌, length, refl, ap, sym, ◌∙◌, arith, subst, zero, suc, cond, not, length-append}
use Rattle.std.specs.Prelude.{filter, ◌==◌}
use Rattle.std.specs.List.{flat_map}
use Rattle.std.proofs.lemmas.List.{length-map}
use Rattle.std.proofs.lemmas.Bool.{cases_eq, ne_eqb, eq-eqb}
use Rattle.xdg_problem.specs.Places.{numbers_from, below, edge, others, places_out, places_of}

-- pieces of one length
pub length_flat_map : {X : Type 0} (f : ℕ → List X) (first count size : ℕ) → ((i : ℕ) → first ≤ i → i < first + count → length (f i) ≡ size) → length (flat_map f (numbers_from first count)) ≡ count * size
length_flat_map f first zero size h = omega arith
length_flat_map f first (suc count) size h =
    let a = length-append (f first) (flat_map f (numbers_from (suc first) count)) in
    let b : length (f first) ≡ size = h first (omega arith) (omega arith) in
    let c = length_flat_map f (suc first) count size (λ i l m. h i (omega arith) (omega arith)) in
    let d : suc count * size ≡ size + count * size = grind arith in
    a ∙ omega (arith, b, c, d)

all_others : (first count node : ℕ) → node < first → length (filter (λ other. not (other == node)) (numbers_from first count)) ≡ count
all_others first zero node l = refl
all_others first (suc count) node l =
    let e = ne_eqb first node (λ s. omega (arith, s)) in
    subst (λ b. length (cond (not b) (first ∷ filter (λ other. not (other == node)) (numbers_from (suc first) count)) (filter (λ other. not (other == node)) (numbers_from (suc first) count))) ≡ suc count) (sym e)
    (ap suc (all_others (suc first) count node (omega arith)))

but_one : (first count node : ℕ) → first ≤ node → node < first + count → length (filter (λ other. not (other == node)) (numbers_from first count)) + 1 ≡ count
but_one first zero node l m = absurd (omega arith)
but_one first (suc count) node l m = elim (cases_eq first node) [
  | inl s ↦ subst (λ b. length (cond (not b) (first ∷ filter (λ other. not (other == node)) (numbers_from (suc first) count)) (filter (λ other. not (other == node)) (numbers_from (suc first) count))) + 1 ≡ suc count) (sym (eq-eqb first node s))
      (let h = all_others (suc first) count node (omega (arith, s)) in omega (arith, h))
  | inr n ↦ subst (λ b. length (cond (not b) (first ∷ filter (λ other. not (other == node)) (numbers_from (suc first) count)) (filter (λ other. not (other == node)) (numbers_from (suc first) count))) + 1 ≡ suc count) (sym (ne_eqb first node n))
      (let h = but_one (suc first) count node (omega (arith, n)) (omega arith) in omega (arith, h))
]

pub length_others : (n node : ℕ) → node < n → length (others n node) ≡ n - 1
length_others n node l = let h = but_one 0 n node (omega arith) (omega arith) in omega (arith, h)

length_out : (dim n mother label : ℕ) → mother < n → length (places_out dim n mother label) ≡ n - 1
length_out dim n mother label l = length-map (others n mother) (λ daughter. edge dim mother label daughter) ∙ length_others n mother l

-- a place for each mother, each label and each other node
pub length_places_of : (dim n labels : ℕ) → length (places_of dim n labels) ≡ n * (labels * (n - 1))
length_places_of dim n labels = length_flat_map (λ mother. flat_map (λ label. places_out dim n mother label) (below labels)) 0 n (labels * (n - 1))
    (λ mother l m. length_flat_map (λ label. places_out dim n mother label) 0 labels (n - 1) (λ label p q. length_out dim n mother label (omega (arith, m))))
