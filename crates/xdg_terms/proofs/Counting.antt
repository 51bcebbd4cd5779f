-- The numbers that were found to be allowed are those that are.
use Rattle.std.proofs.Common.{◌≡◌, ℕ, ◌+◌, ◌<◌, ◌≤◌, List, [], ◌∷◌, Option, None, Some, length, drop, get_or, refl, ap, ap₂, sym, ◌∙◌, arith, subst, min, inl, inr, add-one, drop-cons}
use Rattle.std.specs.Prelude.{Bool, true, false, nat_lt, nat_le, ◌==◌, ◌&&◌, ◌||◌}
use Rattle.std.specs.List.{list_any}
use Rattle.std.proofs.lemmas.Bool.{cases_eq, cases_lt, eq-eqb, ne_eqb, lt-ltb, le-ltb, le-leb, lt-leb}
use Rattle.std.proofs.Math.Bool.{and-true}
use Rattle.std.proofs.lemmas.List.{drop_all}
use Rattle.xdg_terms.proofs.Right.{all_kept}
use Rattle.xdg_ast.specs.declared.names.Num.{Num}
use Rattle.xdg_ast.specs.declared.terms.CardKind.{CardKind}
use Rattle.xdg_ast.specs.declared.terms.CardKind.TheVariants as c
use Rattle.xdg_facts.proofs.Truths.{and_false, or_false, or_true}
use Rattle.xdg_domain.specs.Cards.{cards, IsCards}
use Rattle.xdg_terms.specs.Built.{some_or_all, card_numbers}
use Rattle.xdg_terms.specs.Counted.{told, AreCards}
use Rattle.xdg_facts.specs.Rises.{has}
use Rattle.xdg_facts.proofs.Rising.{numbers_agree, none_of}

-- ---- what was found

pub found_some : (p : ℕ → Bool) (made : Option (List ℕ)) (s : List ℕ) → made ≡ Some s → AreCards made → ((n : ℕ) → n < 128 → told made n ≡ p n) → s ≡ some_or_all (cards p)
found_some p made s is are same =
    let these : IsCards s = subst AreCards is are in
    let whole : s ≡ cards p = these.whole ∙ numbers_agree 128 (has s) p (λ n below. ap (λ m. told m n) (sym is) ∙ same n below) in
    whole ∙ all_kept (cards p) (λ none. these.some (whole ∙ none))

pub found_none : (p : ℕ → Bool) (made : Option (List ℕ)) (all : List ℕ) → made ≡ None → ((n : ℕ) → n < 128 → told made n ≡ p n) → all ≡ cards (λ _. true) → all ≡ some_or_all (cards p)
found_none p made all is same whole =
    let none : cards p ≡ [] = numbers_agree 128 p (λ _. false) (λ n below. sym (ap (λ m. told m n) (sym is) ∙ same n below)) ∙ none_of 128 (λ _. false) (λ _. refl) in
    whole ∙ ap some_or_all (sym none)

-- ---- numbers one by one

abbrev pub stands_in : List Num → ℕ → Bool
stands_in nums n = list_any (λ num. num.value == n) nums

-- those of a number that was passed, and those that stand behind it
abbrev pub Upto : List Num → ℕ → Option (List ℕ) → Type 0
Upto nums i made = AreCards made × ((n : ℕ) → n < 128 → (told made n || stands_in (drop i nums) n) ≡ stands_in nums n)

next_of : (nums : List Num) (i : ℕ) (d : Num) (n : ℕ) → i < length nums → stands_in (drop i nums) n ≡ (((get_or nums i d).value == n) || stands_in (drop (i + 1) nums) n)
next_of nums i d n below =
    let front : drop i nums ≡ get_or nums i d ∷ drop (i + 1) nums = rw add-one (drop-cons nums i d below) in
    ap (λ ns. stands_in ns n) front

moved : (t r : Bool) (v n : ℕ) → (((n == v) || t) || r) ≡ (t || ((v == n) || r))
moved t r v n = elim (cases_eq v n) [
  | inl e ↦ ap (λ b. (b || t) || r) (eq-eqb n v (sym e)) ∙ sym (ap (λ b. t || (b || r)) (eq-eqb v n e) ∙ or_true t)
  | inr other ↦ ap (λ b. (b || t) || r) (ne_eqb n v (λ e. other (sym e))) ∙ sym (ap (λ b. t || (b || r)) (ne_eqb v n other))
]

pub number_added : (nums : List Num) (i : ℕ) (d : Num) (made : Option (List ℕ)) (s : List ℕ) → i < length nums → IsCards s → ((n : ℕ) → has s n ≡ ((n == (get_or nums i d).value) || told made n)) → Upto nums i made → Upto nums (i + 1) (Some s)
number_added nums i d made s below are more so_far = (
  are,
  λ n small.
      let rest = stands_in (drop (i + 1) nums) n in
      ap (λ b. b || rest) (more n) ∙ moved (told made n) rest (get_or nums i d).value n ∙ ap (λ b. told made n || b) (sym (next_of nums i d n below)) ∙ so_far.1 n small,
)

pub number_passed : (nums : List Num) (i : ℕ) (d : Num) (made : Option (List ℕ)) → i < length nums → 127 < (get_or nums i d).value → Upto nums i made → Upto nums (i + 1) made
number_passed nums i d made below large so_far = (
  so_far.0,
  λ n small.
      let rest = stands_in (drop (i + 1) nums) n in
      ap (λ b. told made n || b) (sym (next_of nums i d n below ∙ ap (λ b. b || rest) (ne_eqb (get_or nums i d).value n (λ e. omega (arith, e, large, small))))) ∙ so_far.1 n small,
)

pub numbers_end : (nums : List Num) (i : ℕ) (made : Option (List ℕ)) → length nums ≤ i → Upto nums i made → (n : ℕ) → n < 128 → told made n ≡ stands_in nums n
numbers_end nums i made over so_far n small =
    sym (ap (λ ns. told made n || stands_in ns n) (drop_all i nums over) ∙ or_false (told made n)) ∙ so_far.1 n small

-- ---- from one number to another

abbrev pub within : ℕ → ℕ → ℕ → Bool
within low high n = nat_le low n && nat_le n high

pub interval_begins : (low high n : ℕ) → false ≡ (nat_lt n low && within low high n)
interval_begins low high n = elim (cases_lt n low) [
  | inl less ↦ sym (ap (λ b. nat_lt n low && (b && nat_le n high)) (lt-leb low n less) ∙ and_false (nat_lt n low))
  | inr more ↦ sym (ap (λ b. b && within low high n) (le-ltb n low more))
]

same_side : (n k : ℕ) → (n ≡ k → ⊥) → nat_lt n k ≡ nat_lt n (k + 1)
same_side n k other = elim (cases_lt n k) [
  | inl less ↦ lt-ltb n k less ∙ sym (lt-ltb n (k + 1) (omega (arith, less)))
  | inr more ↦ le-ltb n k more ∙ sym (le-ltb n (k + 1) (omega (arith, more, other)))
]

pub interval_grows : (low high k : ℕ) (made : Option (List ℕ)) (s : List ℕ) → low ≤ k → k ≤ high → ((n : ℕ) → has s n ≡ ((n == k) || told made n))
    → ((n : ℕ) → told made n ≡ (nat_lt n k && within low high n)) → (n : ℕ) → has s n ≡ (nat_lt n (k + 1) && within low high n)
interval_grows low high k made s above below more so_far n = more n ∙ elim (cases_eq n k) [
  | inl e ↦
      ap (λ b. b || told made n) (eq-eqb n k e)
      ∙ sym (ap₂ (λ a b. a && (b && nat_le n high)) (lt-ltb n (k + 1) (omega (arith, e))) (le-leb low n (omega (arith, e, above))) ∙ le-leb n high (omega (arith, e, below)))
  | inr other ↦ ap (λ b. b || told made n) (ne_eqb n k other) ∙ so_far n ∙ ap (λ b. b && within low high n) (same_side n k other)
]

pub interval_ends : (low high k : ℕ) (made : Option (List ℕ)) → min high 127 < k → ((n : ℕ) → told made n ≡ (nat_lt n k && within low high n)) → (n : ℕ) → n < 128 → told made n ≡ within low high n
interval_ends low high k made over so_far n small = so_far n ∙ elim (cases_lt high n) [
  | inl beyond ↦
      let none : within low high n ≡ false = ap (λ b. nat_le low n && b) (lt-leb n high beyond) ∙ and_false (nat_le low n) in
      ap (λ b. nat_lt n k && b) none ∙ and_false (nat_lt n k) ∙ sym none
  | inr inside ↦ ap (λ b. b && within low high n) (lt-ltb n k (omega (arith, inside, small, over)))
]

-- ---- each form

pub of_form : (kind form : CardKind) (made : List ℕ) → kind ≡ form → made ≡ card_numbers form → made ≡ card_numbers kind
of_form kind form made is e = e ∙ sym (ap card_numbers is)

pub some_numbers : some_or_all (cards (within 1 127)) ≡ card_numbers c.Some1
unfolding card_numbers
some_numbers = ap some_or_all (numbers_agree 128 (within 1 127) (λ n. nat_lt 0 n) (λ n below. ap (λ b. nat_le 1 n && b) (le-leb n 127 (omega (arith, below))) ∙ and-true (nat_le 1 n)))
