-- Tables of sets in which one set changes.
use Rattle.std.proofs.Common.{◌≡◌, ◌≢◌, ℕ, ◌+◌, ◌<◌, ◌≤◌, ◌⊎◌, ◌↔◌, ◌||◌, ◌==◌, inl, inr, true, List, [], length, get_or, refl, sym, ◌∙◌, subst, zero, suc, replicate, Some, None, arith}
use Rattle.std.specs.Prelude.{slice_get, slice_set}
use Rattle.std.proofs.lemmas.Bool.{cases_eq, cases_lt, false≢true}
use Rattle.std.proofs.lemmas.List.{get_or-set_same, get_or-set_other, get_or_past, length-set}
use Rattle.xdg_nodeset.specs.Tables.{InTable, InBy}
use Rattle.xdg_facts.proofs.Lookups.{read_none, read_some}
use Rattle.xdg_facts.specs.Rises.{has}
use Rattle.xdg_facts.proofs.Sets.{none_in, one_more}

pub added : (table : List (List ℕ)) (from to : ℕ) (set : List ℕ) → from < length table → ((n : ℕ) → has set n ≡ ((n == to) || has (get_or table from []) n)) → (a b : ℕ) → InTable (slice_set table from set) a b ↔ (InTable table a b ⊎ ((from ≡ a) × (to ≡ b)))
added table from to set l more a b = elim (cases_eq a from) [
  | inl s ↦ subst (λ z. InTable (slice_set table from set) z b ↔ (InTable table z b ⊎ ((from ≡ z) × (to ≡ b)))) (sym s) (
      let same = get_or-set_same table from set [] l in
      let step = one_more set (get_or table from []) to b (more b) in (
        λ h. elim (step.0 (subst (λ z. has z b ≡ true) same h)) [ inl o ↦ inl o | inr t ↦ inr (refl, t) ],
        λ h. subst (λ z. has z b ≡ true) (sym same) (step.1 (elim h [ inl o ↦ inl o | inr t ↦ inr t.1 ])),
      ))
  | inr other ↦ (
      let same = get_or-set_other table from a set [] other in (
        λ h. inl (subst (λ z. has z b ≡ true) same h),
        λ h. subst (λ z. has z b ≡ true) (sym same) (elim h [ inl o ↦ o | inr t ↦ absurd (other (sym t.0)) ]),
      ))
]

pub added_by : (table : List (List (List ℕ))) (from label to : ℕ) (set : List ℕ) → from < length table → label < length (get_or table from []) → ((n : ℕ) → has set n ≡ ((n == to) || has (get_or (get_or table from []) label []) n)) → (a l b : ℕ) → InBy (slice_set table from (slice_set (get_or table from []) label set)) a l b ↔ (InBy table a l b ⊎ ((from ≡ a) × (label ≡ l) × (to ≡ b)))
added_by table from label to set l m more a k b = elim (cases_eq a from) [
  | inl s ↦ subst (λ z. InBy (slice_set table from (slice_set (get_or table from []) label set)) z k b ↔ (InBy table z k b ⊎ ((from ≡ z) × (label ≡ k) × (to ≡ b)))) (sym s) (
      let same = get_or-set_same table from (slice_set (get_or table from []) label set) [] l in
      let step = added (get_or table from []) label to set m more k b in (
        λ h. elim (step.0 (subst (λ z. InTable z k b) same h)) [ inl o ↦ inl o | inr t ↦ inr (refl, t.0, t.1) ],
        λ h. subst (λ z. InTable z k b) (sym same) (step.1 (elim h [ inl o ↦ inl o | inr t ↦ inr (t.1, t.2) ])),
      ))
  | inr other ↦ (
      let same = get_or-set_other table from a (slice_set (get_or table from []) label set) [] other in (
        λ h. inl (subst (λ z. InTable z k b) same h),
        λ h. subst (λ z. InTable z k b) (sym same) (elim h [ inl o ↦ o | inr t ↦ absurd (other (sym t.0)) ]),
      ))
]

-- a set that is extended

-- each set of a table is extended, one after another

pub record Widened (old now : List (List ℕ)) (middle i : ℕ) : Type 0 where
  pub len : length now ≡ length old
  pub done : (a b : ℕ) → a < i → InTable now a b ↔ (InTable old a b ⊎ (InTable old a middle × InTable old middle b))
  pub left : (a : ℕ) → i ≤ a → get_or now a [] ≡ get_or old a []

pub widened_start : (old : List (List ℕ)) (middle : ℕ) → Widened old old middle 0
widened_start old middle = record { len = refl; done = λ a b l. absurd (omega (arith, l)); left = λ a l. refl }

pub widened_more : (old now : List (List ℕ)) (middle i : ℕ) (set : List ℕ) → i < length now → ((b : ℕ) → (has set b ≡ true) ↔ ((has (get_or now i []) b ≡ true) ⊎ ((has (get_or now i []) middle ≡ true) × InTable old middle b))) → Widened old now middle i → Widened old (slice_set now i set) middle (i + 1)
widened_more old now middle i set l h w = record {
  len = (let e = length-set now i set in let g = w.len in omega (arith, e, g));
  done = λ a b m. elim (cases_eq a i) [
    | inl s ↦ subst (λ z. InTable (slice_set now i set) z b ↔ (InTable old z b ⊎ (InTable old z middle × InTable old middle b))) (sym s)
        (subst (λ z. (has z b ≡ true) ↔ (InTable old i b ⊎ (InTable old i middle × InTable old middle b))) (sym (get_or-set_same now i set [] l))
        (subst (λ z. (has set b ≡ true) ↔ ((has z b ≡ true) ⊎ ((has z middle ≡ true) × InTable old middle b))) (w.left i (omega arith)) (h b)))
    | inr other ↦ subst (λ z. (has z b ≡ true) ↔ (InTable old a b ⊎ (InTable old a middle × InTable old middle b))) (sym (get_or-set_other now i a set [] other)) (w.done a b (omega (arith, m, other)))
  ];
  left = λ a m. let other : a ≢ i = omega (arith, m) in get_or-set_other now i a set [] other ∙ w.left a (omega (arith, m));
}

pub widened_end : (old now : List (List ℕ)) (middle i : ℕ) → length now ≤ i → Widened old now middle i → (a b : ℕ) → InTable now a b ↔ (InTable old a b ⊎ (InTable old a middle × InTable old middle b))
widened_end old now middle i l w a b = elim (cases_lt a i) [
  | inl m ↦ w.done a b m
  | inr m ↦ (
      let e = w.len in
      let past : get_or old a [] ≡ [] = get_or_past old a [] (omega (arith, l, m, e)) in
      let same : get_or now a [] ≡ [] = get_or_past now a [] (omega (arith, l, m)) in (
        λ h. absurd (false≢true (subst (λ z. has z b ≡ true) same h)),
        λ h. absurd (elim h [ inl o ↦ false≢true (subst (λ z. has z b ≡ true) past o) | inr o ↦ false≢true (subst (λ z. has z middle ≡ true) past o.0) ]),
      ))
]

-- sets without nodes

pub empty_at : (count : ℕ) (set : List ℕ) (a b : ℕ) → set ≡ [] → InTable (replicate count set) a b → ⊥
empty_at zero set a b e h = false≢true h
empty_at (suc count) set zero b e h = false≢true (subst (λ z. has z b ≡ true) e h)
empty_at (suc count) set (suc a) b e h = empty_at count set a b e h

pub empty_by : (count labels : ℕ) (set : List ℕ) (a l b : ℕ) → set ≡ [] → InBy (replicate count (replicate labels set)) a l b → ⊥
empty_by zero labels set a l b e h = false≢true h
empty_by (suc count) labels set zero l b e h = empty_at labels set l b e h
empty_by (suc count) labels set (suc a) l b e h = empty_by count labels set a l b e h

pub no_in : (table : List (List ℕ)) (count : ℕ) (set : List ℕ) → table ≡ replicate count set → set ≡ [] → (a b : ℕ) → InTable table a b → ⊥
no_in table count set s e a b h = empty_at count set a b e (subst (λ z. InTable z a b) s h)

pub no_by : (table : List (List (List ℕ))) (count labels : ℕ) (set : List ℕ) → table ≡ replicate count (replicate labels set) → set ≡ [] → (a l b : ℕ) → InBy table a l b → ⊥
no_by table count labels set s e a l b h = empty_by count labels set a l b e (subst (λ z. InBy z a l b) s h)

-- sets that have no node, or all of some

pub no_label : (sets : List (List ℕ)) (label l to : ℕ) → None ≡ slice_get sets l → l ≡ label → InTable sets label to → ⊥
no_label sets label l to h e i = false≢true (subst (λ z. has z to ≡ true) (read_none sets label [] (subst (λ z. None ≡ slice_get sets z) e h)) i)

pub no_node : (sets : List (List ℕ)) (label l to : ℕ) (set : List ℕ) → Some set ≡ slice_get sets l → l ≡ label → length set ≡ 0 → InTable sets label to → ⊥
no_node sets label l to set h e none i = none_in set to none (subst (λ z. has z to ≡ true) (read_some sets label set [] (subst (λ z. Some set ≡ slice_get sets z) e h)) i)
