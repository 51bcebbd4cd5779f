-- What has been passed is a front of the list of all arrangements.
use Rattle.std.proofs.Common.{◌≡◌, inl, inr, ℕ, List, [], ◌∷◌, ◌++◌, Option, Some, None, refl, sym, ap, ◌∙◌, subst}
use Rattle.std.specs.List.{AllByRecursion}
use Rattle.xdg_facts.specs.Listing.{RisesFrom}
use Rattle.xdg_facts.specs.Order.{Less}
use Rattle.xdg_facts.proofs.Ordered.{less_irreflexive, less_transitive}
use Rattle.xdg_facts.proofs.Unique.{rises_above, all_above, from_left}
use Rattle.xdg_linear.specs.Arrangements.{IsArrangement, IsAfter}
use Rattle.xdg_linear.specs.Laws.{PassedFirst, PassedAll}
use Rattle.xdg_linear.specs.Listed.{Rises, AreAll, AreArrangements, ArePassed, AreLeft}
use Rattle.xdg_linear.proofs.Reaching.{after_or}
use Rattle.xdg_facts.proofs.Each.{each_weaker, each_in, each_both, each_right, each_left}
use Rattle.xdg_facts.proofs.In.{in_append}

pub rises_tail : (a : List ℕ) (xs : List (List ℕ)) → RisesFrom a xs → Rises xs
rises_tail a [] r = tt
rises_tail a (x ∷ xs) r = r.1

rises_left : (xs ys : List (List ℕ)) → Rises (xs ++ ys) → Rises xs
rises_left [] ys r = tt
rises_left (x ∷ xs) ys r = from_left x xs ys r

rises_right : (xs ys : List (List ℕ)) → Rises (xs ++ ys) → Rises ys
rises_right [] ys r = r
rises_right (x ∷ xs) ys r = rises_right xs ys (rises_tail x (xs ++ ys) r)

-- ---- there is one list at most

are_all_tail : (P : List ℕ → Type 0) (x : List ℕ) (xs : List (List ℕ)) → AreAll P (x ∷ xs) → AreAll (λ z. P z × Less x z) xs
are_all_tail P x xs h = record {
  rises = rises_tail x xs h.rises;
  each = each_both P (λ z. Less x z) xs h.each.1 (all_above x xs h.rises);
  all = λ z k. elim (h.all z k.0) [
    | inl e ↦ absurd (less_irreflexive x (subst (λ w. Less x w) (sym e) k.1))
    | inr m ↦ m
  ];
}

pub all_unique : (P : List ℕ → Type 0) (xs ys : List (List ℕ)) → AreAll P xs → AreAll P ys → xs ≡ ys
all_unique P [] [] h k = refl
all_unique P [] (y ∷ ys) h k = absurd (h.all y k.each.0)
all_unique P (x ∷ xs) [] h k = absurd (k.all x h.each.0)
all_unique P (x ∷ xs) (y ∷ ys) h k =
    let same : x ≡ y = elim (k.all x h.each.0) [
      | inl e ↦ sym e
      | inr m ↦ elim (h.all y k.each.0) [
        | inl e ↦ e
        | inr n ↦ absurd (less_irreflexive x (less_transitive x y x (rises_above x y xs h.rises n) (rises_above y x ys k.rises m)))
      ]
    ] in
    let rest : xs ≡ ys = all_unique (λ z. P z × Less x z) xs ys (are_all_tail P x xs h) (subst (λ w. AreAll (λ z. P z × Less w z) ys) (sym same) (are_all_tail P y ys k)) in
    cc

-- ---- the list is cut at the present arrangement

after_later : (present : Option (List ℕ)) (x y : List ℕ) → IsAfter present x → Less x y → IsAfter present y
after_later None x y after less = tt
after_later (Some p) x y after less = less_transitive p x y after less

all_after : (present : Option (List ℕ)) (x : List ℕ) (xs : List (List ℕ)) → IsAfter present x → RisesFrom x xs → AllByRecursion (IsAfter present) xs
all_after present x [] after r = tt
all_after present x (y ∷ ys) after r = (after_later present x y after r.0, all_after present y ys (after_later present x y after r.0) r.1)

-- those that don't come after the present one stand before those that do
record Cut (present : Option (List ℕ)) (xs : List (List ℕ)) : Type 0 where
  first : List (List ℕ)
  rest : List (List ℕ)
  is : xs ≡ first ++ rest
  before : AllByRecursion (λ x. IsAfter present x → ⊥) first
  after : AllByRecursion (IsAfter present) rest

cut : (present : Option (List ℕ)) (xs : List (List ℕ)) → Rises xs → Cut present xs
cut present [] r = record { first = []; rest = []; is = refl; before = tt; after = tt }
cut present (x ∷ xs) r = elim (after_or present x) [
  | inl here ↦ record { first = []; rest = x ∷ xs; is = refl; before = tt; after = (here, all_after present x xs here r) }
  | inr not ↦ (let more = cut present xs (rises_tail x xs r) in record { first = x ∷ more.first; rest = more.rest; is = ap (λ z. x ∷ z) more.is; before = (not, more.before); after = more.after })
]

module _ (ranks : List ℕ) (present : Option (List ℕ)) (first rest : List (List ℕ)) (before : AllByRecursion (λ x. IsAfter present x → ⊥) first) (after : AllByRecursion (IsAfter present) rest) (h : AreArrangements ranks (first ++ rest)) where
  are_passed : ArePassed ranks present first
  are_passed = record {
    rises = rises_left first rest h.rises;
    each = each_both (IsArrangement ranks) (λ x. IsAfter present x → ⊥) first (each_left (IsArrangement ranks) first rest h.each) before;
    all = λ x k. elim (in_append first rest x (h.all x k.0)) [
      | inl m ↦ m
      | inr m ↦ absurd (k.1 (each_in (IsAfter present) rest x after m))
    ];
  }

  are_left : AreLeft ranks present rest
  are_left = record {
    rises = rises_right first rest h.rises;
    each = each_both (IsArrangement ranks) (IsAfter present) rest (each_right (IsArrangement ranks) first rest h.each) after;
    all = λ x k. elim (in_append first rest x (h.all x k.0)) [
      | inl m ↦ absurd (each_in (λ y. IsAfter present y → ⊥) first x before m k.1)
      | inr m ↦ m
    ];
  }

pub passed_first : PassedFirst
passed_first ranks present passed all p h =
    let c = cut present all h.rises in
    let joined : AreArrangements ranks (c.first ++ c.rest) = subst (AreArrangements ranks) c.is h in
    let same : c.first ≡ passed = all_unique (λ x. IsArrangement ranks x × (IsAfter present x → ⊥)) c.first passed (are_passed ranks present c.first c.rest c.before c.after joined) p in
    (c.rest, c.is ∙ ap (λ z. z ++ c.rest) same, are_left ranks present c.first c.rest c.before c.after joined)

pub passed_all : PassedAll
passed_all ranks present passed p last = record {
  rises = p.rises;
  each = each_weaker (λ x. IsArrangement ranks x × (IsAfter present x → ⊥)) (IsArrangement ranks) passed (λ x k. k.0) p.each;
  all = λ x a. p.all x (a, last x a);
}
