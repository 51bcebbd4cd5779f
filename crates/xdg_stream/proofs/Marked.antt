-- What holds of marks by their places, as marks come and go.
use Rattle.std.proofs.Common.{◌≡◌, ℕ, ◌<◌, List, [], ◌∷◌, ◌++◌, inl, inr, length, take, sym, arith, subst, length-append}
use Rattle.std.specs.Prelude.{slice_index}
use Rattle.std.proofs.lemmas.Bool.{cases_lt}
use Rattle.std.proofs.lemmas.List.{get_or_append_left, get_or-take, length-take}
use Rattle.xdg_facts.proofs.Lists.{last_at}

abbrev pub AtMarks : (ℕ → ℕ → Type 0) → List ℕ → Type 0
AtMarks R marks = (k : ℕ) → k < length marks → R k (slice_index marks k)

module _ (R : ℕ → ℕ → Type 0) (marks : List ℕ) (all : AtMarks R marks) where
  -- one more
  pub marks_with : (mark : ℕ) → R (length marks) mark → AtMarks R (marks ++ mark ∷ [])
  marks_with mark here k l = elim (cases_lt k (length marks)) [
    | inl before ↦ subst (R k) (sym (get_or_append_left marks (mark ∷ []) 0 k before)) (all k before)
    | inr past ↦
        let long = length-append marks (mark ∷ []) in
        let same : k ≡ length marks = omega (arith, l, long, past) in
        subst (λ i. R i (slice_index (marks ++ mark ∷ []) i)) (sym same) (subst (R (length marks)) (sym (last_at marks mark)) here)
  ]

  -- the first ones, so many
  pub marks_cut : (n : ℕ) → AtMarks R (take n marks)
  marks_cut n k l =
      let long = length-take n marks in
      subst (R k) (sym (get_or-take n marks k 0 (omega (arith, l, long)))) (all k (omega (arith, l, long)))
