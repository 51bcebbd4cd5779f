-- Numbers that rise, their bounds, and what a class keeps of them.
use Rattle.std.proofs.Common.{◌≡◌, ℕ, ◌<◌, ◌≤◌, ◌+◌, ◌-◌, ◌^◌, zero, suc, inl, inr, true, List, length, get_or, refl, sym, ◌∙◌, subst, arith}
use Prim.Native.Nat.{min, max}
use Rattle.std.specs.Prelude.{Contains}
use Rattle.std.specs.List.Sorted.{IsStrictlyIncreasing}
use Rattle.std.proofs.lemmas.Bool.{cases_lt}
use Rattle.std.proofs.lemmas.List.Elements.{All-contains, All-weaker}
use Rattle.std.proofs.lemmas.List.Kept.{AllPairs-from_increasing}
use Rattle.xdg_rules.specs.Rules.{HasNoneWithin}
use Rattle.xdg_pgraph.specs.declared.allowances.Class.{Class}
use Rattle.xdg_pgraph.specs.declared.bounds.Allowed.{Allowed}
use Rattle.xdg_pgraph.specs.Allowances.{Keeps}
use Rattle.xdg_pgraph.specs.Bounding.{Spans, Widens}

-- ---- numbers that rise

module _ (numbers : List ℕ) (rising : IsStrictlyIncreasing numbers) where
  -- each lies above another by as many as it stands behind it, at least
  apart : (i n d : ℕ) → i + n < length numbers → get_or numbers i d + n ≤ get_or numbers (i + n) d
  apart i zero d l = (let e : i ≡ i + 0 = omega arith in subst (λ j. get_or numbers i d + 0 ≤ get_or numbers j d) e (omega arith))
  apart i (suc n) d l =
      let far = apart i n d (omega (arith, l)) in
      let next = AllPairs-from_increasing numbers rising (i + n) (i + suc n) d (omega arith) l in
      omega (arith, far, next)

  above : (i j d : ℕ) → i ≤ j → j < length numbers → get_or numbers i d + (j - i) ≤ get_or numbers j d
  above i j d order within = (let e : i + (j - i) ≡ j = omega arith in subst (λ k. get_or numbers i d + (j - i) ≤ get_or numbers k d) e (apart i (j - i) d (omega (arith, within, order))))

  -- their bounds are those of the first and of the last
  pub spans_ends : (first last : ℕ) → 0 < length numbers → ((d : ℕ) → first ≡ get_or numbers 0 d) → ((d : ℕ) → last ≡ get_or numbers (length numbers - 1) d) → Spans numbers (record { least = first; behind = last + 1 })
  spans_ends first last some first_is last_is = record {
    behind = λ k d within. (let l = above k (length numbers - 1) d (omega (arith, within)) (omega (arith, some)) in let e = last_is d in omega (arith, l, e));
    behind_is = inr (last, (length numbers - 1, omega (arith, some), sym (last_is last)), refl);
    least = λ k d within. (let l = above 0 k d (omega arith) within in let e = first_is d in omega (arith, l, e));
    least_is = inr (0, some, sym (first_is first));
  }

  -- where they are as many as the numbers between their bounds, each of those is one of them
  pub whole_of : (allowed : Allowed) → Spans numbers allowed → allowed.behind ≤ allowed.least + length numbers → (k : ℕ) → allowed.least ≤ k → k < allowed.behind → Contains numbers k
  whole_of allowed s many k from to =
      let n = k - allowed.least in
      let last = length numbers - 1 in
      let within : n < length numbers = omega (arith, many, from, to) in
      let first = s.least 0 k (omega (arith, within)) in
      let end = s.behind last k (omega (arith, within)) in
      let low = above 0 n k (omega arith) within in
      let high = above n last k (omega (arith, within)) (omega (arith, within)) in
      (n, within, omega (arith, many, from, to, within, first, end, low, high))

-- ---- bounds of more numbers

-- those of numbers that were added to none
pub spans_of : (numbers : List ℕ) (none made : Allowed) → none.behind ≡ 0 → ((k : ℕ) → k < 2 ^ 32 → k ≤ none.least) → Widens numbers none made → Spans numbers made
spans_of numbers none made nothing beyond w = record {
  behind = w.most_of;
  behind_is = elim w.most_is [ inl same ↦ inl (same ∙ nothing) | inr found ↦ inr found ];
  least = w.least_of;
  least_is = elim w.least_is [ inl same ↦ inl (λ k small. (let l = beyond k small in omega (arith, l, same))) | inr here ↦ inr here ];
}

-- bounds, and those of some numbers
pub widens_merged : (numbers : List ℕ) (old other new : Allowed) → old.least < 2 ^ 32 → new.least ≡ min old.least other.least → new.behind ≡ max old.behind other.behind → Spans numbers other → Widens numbers old new
widens_merged numbers old other new small least behind s = record {
  most = omega (arith, behind);
  most_of = All-weaker (λ k. k < other.behind) (λ k. k < new.behind) (λ k x. omega (arith, behind, x)) numbers s.behind;
  most_is = elim (cases_lt old.behind other.behind) [
    | inl less ↦ elim s.behind_is [ inl none ↦ absurd (omega (arith, less, none)) | inr (k, here, is) ↦ inr (k, here, omega (arith, less, behind, is)) ]
    | inr past ↦ inl (omega (arith, past, behind))
  ];
  least = omega (arith, least);
  least_of = All-weaker (λ k. other.least ≤ k) (λ k. new.least ≤ k) (λ k x. omega (arith, least, x)) numbers s.least;
  least_is = elim (cases_lt other.least old.least) [
    | inl less ↦ elim s.least_is [
      | inl beyond ↦ absurd (let l = beyond old.least small in omega (arith, l, less))
      | inr here ↦ inr (let e : other.least ≡ new.least = omega (arith, less, least) in subst (Contains numbers) e here)
    ]
    | inr past ↦ inl (omega (arith, past, least))
  ];
}

-- no numbers
pub widens_none : (numbers : List ℕ) (old : Allowed) → length numbers ≤ 0 → Widens numbers old old
widens_none numbers old none = record {
  most = omega arith;
  most_of = λ k d within. absurd (omega (arith, none, within));
  most_is = inl refl;
  least = omega arith;
  least_of = λ k d within. absurd (omega (arith, none, within));
  least_is = inl refl;
}

-- ---- whether some number lies between two others

module _ (numbers : List ℕ) (class : Class) (kept : Keeps numbers class) (least most : ℕ) where
  -- there is one, where something lies before the one behind the greatest
  has_some : 0 < class.allowed.behind → class.allowed.least < class.allowed.behind
  has_some some = elim kept.spans.behind_is [
    | inl none ↦ absurd (omega (arith, some, none))
    | inr (k, here, is) ↦ (let l = All-contains (λ m. class.allowed.least ≤ m) numbers k kept.spans.least here in omega (arith, l, is))
  ]

  -- none is left out
  pub some_within : least ≤ most → class.allowed.least ≤ most → least < class.allowed.behind → class.whole ≡ true → HasNoneWithin numbers least most → ⊥
  some_within order low high whole none = elim (cases_lt least class.allowed.least) [
    | inl less ↦ none class.allowed.least (kept.whole whole class.allowed.least (omega arith) (has_some (omega (arith, high)))) (omega (arith, less)) low
    | inr past ↦ none least (kept.whole whole least past high) (omega arith) order
  ]
