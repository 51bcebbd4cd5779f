-- Rows that are joined, gathered and looked over.
use Rattle.std.proofs.Common.{◌≡◌, ◌⊎◌, ◌↔◌, ℕ, ◌+◌, ◌<◌, ◌≤◌, IsTrue, inl, inr, Bool, true, false, List, [], ◌∷◌, length, sym, ◌∙◌, subst, arith}
use Rattle.std.specs.Prelude.{not}
use Rattle.std.proofs.lemmas.Bool.{cases_eq, cases_Bool, and_from, and_parts, both_ways, not_from_false, false≢true}
use Rattle.xdg_problem.specs.Truths.{HasTruth}
use Rattle.xdg_graph.specs.Every.{IsEvery}
use Rattle.xdg_formula_value.specs.Rows.{IsRow, IsRowOn, HasFirst, Joined, Over, AreFirst, open_in}
use Rattle.xdg_facts.specs.Rises.{has}
use Rattle.xdg_facts.proofs.Rising.{no_member, head_in, tail_in, head_or_tail}
use Rattle.xdg_facts.proofs.Sets.{none_in}

-- two rows, the second of which is right where it still matters
pub row_more : (both : Bool) (care still : List ℕ) (P Q R : ℕ → Type 0) (old part new : List ℕ) → IsRowOn care P old → ((v : ℕ) → has still v ≡ open_in both care old v) → IsRowOn still Q part → ((v : ℕ) → (has new v ≡ true) ↔ Joined both (has old v ≡ true) (has part v ≡ true)) → ((v : ℕ) → Joined both (P v) (Q v) ↔ R v) → IsRowOn care R new
row_more true care still P Q R old part new first open_is second is like v within =
    let here : has old v ≡ true → (has part v ≡ true) ↔ Q v = λ there. second v (open_is v ∙ and_from (has care v) (has old v) within there) in (
      λ h. (let both = (is v).0 h in (like v).0 ((first v within).0 both.0, (here both.0).0 both.1)),
      λ r. (let both = (like v).1 r in let there = (first v within).1 both.0 in (is v).1 (there, (here there).1 both.1)),
    )
row_more false care still P Q R old part new first open_is second is like v within = elim (cases_Bool (has old v)) [
  | inl there ↦ (λ h. (like v).0 (inl ((first v within).0 there)), λ r. (is v).1 (inl there))
  | inr off ↦ (let here = second v (open_is v ∙ and_from (has care v) (not (has old v)) within (not_from_false (has old v) off)) in (
    λ h. elim ((is v).0 h) [ inl old_has ↦ absurd (both_ways (has old v) off old_has) | inr part_has ↦ (like v).0 (inr (here.0 part_has)) ],
    λ r. elim ((like v).1 r) [ inl p ↦ (is v).1 (inl ((first v within).1 p)) | inr q ↦ (is v).1 (inr (here.1 q)) ],
  ))
]

-- where nothing is still open, the second row changes nothing
pub row_done : (both : Bool) (care still : List ℕ) (P Q R : ℕ → Type 0) (old : List ℕ) → IsRowOn care P old → ((v : ℕ) → has still v ≡ open_in both care old v) → length still ≡ 0 → ((v : ℕ) → Joined both (P v) (Q v) ↔ R v) → IsRowOn care R old
row_done true care still P Q R old first open_is none like v within = elim (cases_Bool (has old v)) [
  | inl there ↦ absurd (none_in still v none (open_is v ∙ and_from (has care v) (has old v) within there))
  | inr off ↦ (λ h. absurd (both_ways (has old v) off h), λ r. absurd (both_ways (has old v) off ((first v within).1 ((like v).1 r).0)))
]
row_done false care still P Q R old first open_is none like v within = elim (cases_Bool (has old v)) [
  | inl there ↦ (λ h. (like v).0 (inl ((first v within).0 h)), λ r. there)
  | inr off ↦ absurd (none_in still v none (open_is v ∙ and_from (has care v) (not (has old v)) within (not_from_false (has old v) off)))
]

-- what is still open is among the first nodes
pub open_first : (both : Bool) (n : ℕ) (care old still : List ℕ) → AreFirst n care → ((v : ℕ) → has still v ≡ open_in both care old v) → AreFirst n still
open_first true n care old still first is v h = first v (and_parts (has care v) (has old v) (sym (is v) ∙ h)).0
open_first false n care old still first is v h = first v (and_parts (has care v) (not (has old v)) (sym (is v) ∙ h)).0

pub row_like : (care : List ℕ) (P Q : ℕ → Type 0) (set : List ℕ) → ((v : ℕ) → P v ↔ Q v) → IsRowOn care P set → IsRowOn care Q set
row_like care P Q set like row v within = (λ h. (like v).0 ((row v within).0 h), λ q. (row v within).1 ((like v).1 q))

pub row_told : (n : ℕ) (truth : Bool) (P : ℕ → Type 0) (set new : List ℕ) → n ≤ 128 → IsRow n P set → ((v : ℕ) → v < 128 → HasTruth truth (has set v ≡ true) ↔ (has new v ≡ true)) → IsRow n (λ v. HasTruth truth (P v)) new
row_told n true P set new few row told v l = (λ h. (row v l).0 ((told v (omega (arith, l, few))).1 h), λ p. (told v (omega (arith, l, few))).0 ((row v l).1 p))
row_told n false P set new few row told v l = (λ h p. (told v (omega (arith, l, few))).1 h ((row v l).1 p), λ none. (told v (omega (arith, l, few))).0 (λ there. none ((row v l).0 there)))

pub row_constant : (n : ℕ) (care : List ℕ) (all : Bool) (P : ℕ → Type 0) (set : List ℕ) → n ≤ 128 → AreFirst n care → ((v : ℕ) → v < 128 → has set v ≡ all) → ((v : ℕ) → (all ≡ true) ↔ P v) → IsRowOn care P set
row_constant n care all P set few first same like v within =
    let l = first v within in
    let here = same v (omega (arith, l, few)) in
    (λ h. (like v).0 (sym here ∙ h), λ p. here ∙ (like v).1 p)

-- ---- one node after another

-- the members of some nodes: what was gathered, and what those still to come bring, is what all bring
abbrev pub Gathered : List ℕ → (ℕ → Type 0) → List ℕ → List ℕ → Type 0
Gathered care P left set = (x : ℕ) → ((has set x ≡ true) ⊎ ((has left x ≡ true) × P x)) ↔ ((has care x ≡ true) × P x)

pub first_later : (n : ℕ) (left rest : List ℕ) (v : ℕ) → left ≡ v ∷ rest → AreFirst n left → AreFirst n rest
first_later n left rest v at first x later = first x (tail_in left rest v x at later)

pub gathered_start : (care left : List ℕ) (P : ℕ → Type 0) (set : List ℕ) → left ≡ care → set ≡ [] → Gathered care P left set
gathered_start care left P set all empty = subst (λ s. Gathered care P s set) (sym all) (λ x. (
  λ h. elim h [ inl there ↦ absurd (no_member set x empty there) | inr more ↦ more ],
  λ h. inr h,
))

pub gathered_more : (care left rest : List ℕ) (P : ℕ → Type 0) (v : ℕ) (holds : Bool) (old new : List ℕ) → left ≡ v ∷ rest → (holds ≡ true) ↔ P v → ((x : ℕ) → (has new x ≡ true) ↔ ((has old x ≡ true) ⊎ ((x ≡ v) × (holds ≡ true)))) → Gathered care P left old
    → Gathered care P rest new
gathered_more care left rest P v holds old new at here is so_far x = (
  λ h. elim h [
    | inl there ↦ elim ((is x).0 there) [
      | inl before ↦ (so_far x).0 (inl before)
      | inr now ↦ (so_far x).0 (inr (subst (λ k. has left k ≡ true) (sym now.0) (head_in left rest v at), subst P (sym now.0) (here.0 now.1)))
    ]
    | inr later ↦ (so_far x).0 (inr (tail_in left rest v x at later.0, later.1))
  ],
  λ h. elim ((so_far x).1 h) [
    | inl before ↦ inl ((is x).1 (inl before))
    | inr more ↦ elim (head_or_tail left rest v x at more.0) [
      | inl same ↦ inl ((is x).1 (inr (sym same, here.1 (subst P (sym same) more.1))))
      | inr later ↦ inr (later, more.1)
    ]
  ],
)

-- where those are among them at which it can be so
pub gathered_among : (care some left : List ℕ) (P : ℕ → Type 0) (set : List ℕ) → left ≡ [] → ((v : ℕ) → has care v ≡ true → P v → has some v ≡ true) → Gathered some P left set → IsRowOn care P set
gathered_among care some left P set empty among all v within = (
  λ h. ((all v).0 (inl h)).1,
  λ p. elim ((all v).1 (among v within p, p)) [ inl there ↦ there | inr more ↦ absurd (no_member left v empty more.0) ],
)

pub gathered_row : (care left : List ℕ) (P : ℕ → Type 0) (set : List ℕ) → left ≡ [] → Gathered care P left set → IsRowOn care P set
gathered_row care left P set empty all = gathered_among care care left P set empty (λ v within p. within) all

-- the same of all nodes

pub first_none : (P : ℕ → Type 0) (set : List ℕ) → ((v : ℕ) → has set v ≡ false) → HasFirst 0 P set
first_none P set none v = (λ h. absurd (false≢true (sym (none v) ∙ h)), λ p. (let l = p.0 in absurd (omega (arith, l))))

pub first_more : (k : ℕ) (P : ℕ → Type 0) (holds : Bool) (old new : List ℕ) → HasFirst k P old → (holds ≡ true) ↔ P k → ((v : ℕ) → (has new v ≡ true) ↔ ((has old v ≡ true) ⊎ ((v ≡ k) × (holds ≡ true)))) → HasFirst (k + 1) P new
first_more k P holds old new so_far here is v = (
  λ h. elim ((is v).0 h) [
    | inl before ↦ (let there = (so_far v).0 before in (let l = there.0 in omega (arith, l), there.1))
    | inr now ↦ (let e = now.0 in omega (arith, e), subst P (sym now.0) (here.0 now.1))
  ],
  λ p. (is v).1 (elim (cases_eq v k) [
    | inl same ↦ inr (same, here.1 (subst P same p.1))
    | inr other ↦ inl ((so_far v).1 (let l = p.0 in omega (arith, l, other), p.1))
  ]),
)

pub first_row : (n k : ℕ) (P : ℕ → Type 0) (set : List ℕ) → n ≤ k → HasFirst k P set → IsRow n P set
first_row n k P set past all v l = (λ h. ((all v).0 h).1, λ p. (all v).1 (omega (arith, l, past), p))

-- ---- over all nodes

pub over_like : (each : Bool) (n : ℕ) (P Q : ℕ → Type 0) → ((v : ℕ) → v < n → P v ↔ Q v) → Over each n P ↔ Over each n Q
over_like true n P Q like = (λ all v l. (like v l).0 (all v l), λ all v l. (like v l).1 (all v l))
over_like false n P Q like = (λ some. (some.0, some.1, (like some.0 some.1).0 some.2), λ some. (some.0, some.1, (like some.0 some.1).1 some.2))

-- where a row is right at each node
pub over_row : (each : Bool) (n : ℕ) (all : List ℕ) (P : ℕ → Type 0) (set : List ℕ) → IsEvery n all → IsRowOn all P set → Over each n (λ v. has set v ≡ true) ↔ Over each n P
over_row each n all P set every row = over_like each n (λ v. has set v ≡ true) P (λ v l. row v ((every v).1 l))

-- what is told of a row over as many nodes as the sentence has
pub over_told : (each holds : Bool) (size n : ℕ) (all : List ℕ) (P : ℕ → Type 0) (set : List ℕ) → size ≡ n → IsEvery n all → IsRowOn all P set → IsTrue holds ↔ Over each size (λ v. has set v ≡ true) → (holds ≡ true) ↔ Over each n P
over_told each holds size n all P set same every row told =
    let over = over_row each n all P set every row in
    let here : (holds ≡ true) ↔ Over each n (λ v. has set v ≡ true) = subst (λ k. (holds ≡ true) ↔ Over each k (λ v. has set v ≡ true)) same told in
    (λ h. over.0 (here.0 h), λ p. here.1 (over.1 p))
