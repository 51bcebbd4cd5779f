-- What edges cost together, by dimension, mother and label.
use Rattle.std.proofs.Common.{◌≡◌, ℕ, ◌+◌, ◌*◌, ◌<◌, inl, inr, zero, suc, Bool, true, false, ◌&&◌, cond, List, [], ◌∷◌, length, refl, sym, ap, ap₂, ◌∙◌, arith, subst}
use Rattle.std.specs.Prelude.{Contains, not, count_by, ◌==◌}
use Rattle.std.specs.List.{sum_by}
use Rattle.std.proofs.lemmas.Bool.{cases_eq, eq-eqb, false_from_ne_true, eqb-true, false≢true}
use Rattle.std.proofs.lemmas.List.Elements.{All-weaker, All-contains_itself}
use Rattle.std.proofs.lemmas.List.Sums.{sum_by-cons}
use Rattle.xdg_problem.specs.declared.analysis.Edge.{Edge}
use Rattle.xdg_problem.specs.declared.parts.Parts.{Parts}
use Rattle.xdg_problem.specs.Boxes.{edge_decision}
use Rattle.xdg_problem.specs.Paths.{edges_out_of}
use Rattle.xdg_problem.specs.Places.{places}
use Rattle.xdg_facts.proofs.Filters.{count_of_filter, filter_alike}
use Rattle.xdg_facts.proofs.Contained.{contains_head}
use Rattle.xdg_rules.specs.Bounds.{sum_below, must_places}
use Rattle.xdg_rules.specs.Rules.{has, must_edges}
use Rattle.xdg_rules.proofs.Summing.{below_same}
use Rattle.xdg_facts.proofs.Lists.{contains_more}
use Rattle.xdg_facts.proofs.Truths.{and_turned}

times_none : (w : ℕ) → w * 0 ≡ 0
times_none w = grind arith

below_none : (f : ℕ → ℕ) (n : ℕ) → ((k : ℕ) → f k ≡ 0) → sum_below f n ≡ 0
below_none f zero none = refl
below_none f (suc n) none = (let rest = below_none f n none in let last = none n in omega (arith, rest, last))

-- where one of the numbers is more by something, so is the sum
below_bump : (f g : ℕ → ℕ) (a c n : ℕ) → a < n → g a ≡ f a + c → ((k : ℕ) → (k ≡ a → ⊥) → g k ≡ f k) → sum_below g n ≡ sum_below f n + c
below_bump f g a c zero l here others = absurd (omega (arith, l))
below_bump f g a c (suc n) l here others = elim (cases_eq a n) [
  | inl same ↦ (let rest = below_same g f n (λ k less. others k (λ e. (omega (arith, less, e, same)))) in let last : g n ≡ f n + c = subst (λ k. g k ≡ f k + c) same here in omega (arith, rest, last))
  | inr other ↦ (let rest = below_bump f g a c n (omega (arith, l, other)) here others in let last = others n (λ e. other (sym e)) in omega (arith, rest, last))
]

-- ---- any edges

module _ (weight : ℕ → ℕ → ℕ) (dims size : ℕ) (labels : ℕ → ℕ) where
  -- the edge has these numbers
  abbrev pub is_at : ℕ → ℕ → ℕ → Edge → Bool
  is_at d m l e = (e.dim.0 == d) && ((e.mother.0 == m) && (e.label.0 == l))

  abbrev pub at_label : List Edge → ℕ → ℕ → ℕ → ℕ
  at_label xs d m l = weight d l * count_by (is_at d m l) xs

  abbrev pub at_mother : List Edge → ℕ → ℕ → ℕ
  at_mother xs d m = sum_below (at_label xs d m) (labels d)

  abbrev pub at_dim : List Edge → ℕ → ℕ
  at_dim xs d = sum_below (at_mother xs d) size

  abbrev pub all_dims : List Edge → ℕ
  all_dims xs = sum_below (at_dim xs) dims

  module _ (e : Edge) (xs : List Edge) where
    count_put : (b : Bool) (w c : ℕ) → b ≡ true → w * (cond b 1 0 + c) ≡ w * c + w
    count_put true w c there = grind arith
    count_put false w c there = absurd (false≢true there)

    count_skip : (b : Bool) (w c : ℕ) → b ≡ false → w * (cond b 1 0 + c) ≡ w * c
    count_skip true w c there = absurd (false≢true (sym there))
    count_skip false w c there = grind arith

    one_more : (d m l : ℕ) → is_at d m l e ≡ true → at_label (e ∷ xs) d m l ≡ at_label xs d m l + weight d l
    one_more d m l there = ap (λ k. weight d l * k) (sum_by-cons (λ x. cond (is_at d m l x) 1 0) e xs) ∙ count_put (is_at d m l e) (weight d l) (count_by (is_at d m l) xs) there

    no_more : (d m l : ℕ) → is_at d m l e ≡ false → at_label (e ∷ xs) d m l ≡ at_label xs d m l
    no_more d m l off = ap (λ k. weight d l * k) (sum_by-cons (λ x. cond (is_at d m l x) 1 0) e xs) ∙ count_skip (is_at d m l e) (weight d l) (count_by (is_at d m l) xs) off

    here : is_at e.dim.0 e.mother.0 e.label.0 e ≡ true
    here = ap₂ (λ a b. a && b) (eq-eqb e.dim.0 e.dim.0 refl) (ap₂ (λ a b. a && b) (eq-eqb e.mother.0 e.mother.0 refl) (eq-eqb e.label.0 e.label.0 refl))

    off_label : (d m l : ℕ) → (l ≡ e.label.0 → ⊥) → is_at d m l e ≡ false
    off_label d m l other = by (e.dim.0 == d) (e.mother.0 == m) (e.label.0 == l) (false_from_ne_true (e.label.0 == l) (λ t. other (sym (eqb-true e.label.0 l t)))) where
      by : (a b c : Bool) → c ≡ false → (a && (b && c)) ≡ false
      by true true c is = is
      by true false c is = refl
      by false b c is = refl

    off_mother : (d m l : ℕ) → (m ≡ e.mother.0 → ⊥) → is_at d m l e ≡ false
    off_mother d m l other = by (e.dim.0 == d) (e.mother.0 == m) (e.label.0 == l) (false_from_ne_true (e.mother.0 == m) (λ t. other (sym (eqb-true e.mother.0 m t)))) where
      by : (a b c : Bool) → b ≡ false → (a && (b && c)) ≡ false
      by true true c is = absurd (false≢true (sym is))
      by true false c is = refl
      by false b c is = refl

    off_dim : (d m l : ℕ) → (d ≡ e.dim.0 → ⊥) → is_at d m l e ≡ false
    off_dim d m l other = by (e.dim.0 == d) ((e.mother.0 == m) && (e.label.0 == l)) (false_from_ne_true (e.dim.0 == d) (λ t. other (sym (eqb-true e.dim.0 d t)))) where
      by : (a b : Bool) → a ≡ false → (a && b) ≡ false
      by true b is = absurd (false≢true (sym is))
      by false b is = refl

    mother_more : e.label.0 < labels e.dim.0 → at_mother (e ∷ xs) e.dim.0 e.mother.0 ≡ at_mother xs e.dim.0 e.mother.0 + weight e.dim.0 e.label.0
    mother_more l = below_bump (at_label xs e.dim.0 e.mother.0) (at_label (e ∷ xs) e.dim.0 e.mother.0) e.label.0 (weight e.dim.0 e.label.0) (labels e.dim.0) l (one_more e.dim.0 e.mother.0 e.label.0 here) (λ k other. no_more e.dim.0 e.mother.0 k (off_label e.dim.0 e.mother.0 k other))

    dim_more : e.label.0 < labels e.dim.0 → e.mother.0 < size → at_dim (e ∷ xs) e.dim.0 ≡ at_dim xs e.dim.0 + weight e.dim.0 e.label.0
    dim_more l m = below_bump (at_mother xs e.dim.0) (at_mother (e ∷ xs) e.dim.0) e.mother.0 (weight e.dim.0 e.label.0) size m (mother_more l)
        (λ k other. below_same (at_label (e ∷ xs) e.dim.0 k) (at_label xs e.dim.0 k) (labels e.dim.0) (λ i less. no_more e.dim.0 k i (off_mother e.dim.0 k i other)))

    pub all_more : e.label.0 < labels e.dim.0 → e.mother.0 < size → e.dim.0 < dims → all_dims (e ∷ xs) ≡ all_dims xs + weight e.dim.0 e.label.0
    all_more l m d = below_bump (at_dim xs) (at_dim (e ∷ xs)) e.dim.0 (weight e.dim.0 e.label.0) dims d (dim_more l m)
        (λ k other. below_same (at_mother (e ∷ xs) k) (at_mother xs k) size (λ i less. below_same (at_label (e ∷ xs) k i) (at_label xs k i) (labels k) (λ j under. no_more k i j (off_dim k i j other))))

  -- the costs of the edges are those of all dimensions
  pub by_dims : (xs : List Edge) → ((e : Edge) → Contains xs e → (e.dim.0 < dims) × (e.mother.0 < size) × (e.label.0 < labels e.dim.0)) → sum_by (λ e. weight e.dim.0 e.label.0) xs ≡ all_dims xs
  by_dims [] each = sym (below_none (at_dim []) dims (λ d. below_none (at_mother [] d) size (λ m. below_none (at_label [] d m) (labels d) (λ l. times_none (weight d l)))))
  by_dims (e ∷ xs) each =
      let within = each e (contains_head e xs) in
      let rest = by_dims xs (λ f c. each f (contains_more e xs f c)) in
      let head = sum_by-cons (λ (f : Edge). weight f.dim.0 f.label.0) e xs in
      let more = all_more e xs within.2 within.1 within.0 in
      omega (arith, rest, head, more)

-- ---- the edges of a box that must be

-- those of a dimension out of a node with a label
pub counted_out : (parts : Parts) (box : List (List Bool)) (d m l : ℕ) → count_by (λ (e : Edge). (e.dim.0 == d) && ((e.mother.0 == m) && (e.label.0 == l))) (must_places parts box) ≡ edges_out_of (must_edges parts box d) m l
counted_out parts box d m l =
    let must : Edge → Bool = λ e. has box (edge_decision parts e) 0 && not (has box (edge_decision parts e) 1) in
    let out : Edge → Bool = λ e. (e.mother.0 == m) && (e.label.0 == l) in
    sym (count_of_filter (λ (e : Edge). (e.dim.0 == d) && out e) must (places parts))
    ∙ ap length (sym (filter_alike (λ (e : Edge). ((e.dim.0 == d) && must e) && out e) (λ (e : Edge). must e && ((e.dim.0 == d) && out e)) (places parts)
    (All-weaker (Contains (places parts)) (λ (e : Edge). (((e.dim.0 == d) && must e) && out e) ≡ (must e && ((e.dim.0 == d) && out e))) (λ e c. and_turned (e.dim.0 == d) (must e) (out e)) (places parts) (All-contains_itself (places parts)))))
    ∙ count_of_filter out (λ (e : Edge). (e.dim.0 == d) && must e) (places parts)
