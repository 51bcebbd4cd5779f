-- What has been listed up to a prefix: segments join, and a whole listing begins with what has been listed.
use Rattle.std.proofs.Common.{◌≡◌, ℕ, inl, inr, List, [], ◌∷◌, ◌++◌, refl, sym, subst}
use Rattle.std.specs.List.{AllByRecursion}
use Rattle.xdg_facts.specs.Order.{Less, AtMost}
use Rattle.xdg_facts.specs.Fits.{Fits}
use Rattle.xdg_facts.specs.Listing.{RisesFrom, IsListing, SoFar}
use Rattle.xdg_facts.specs.Closed.{NoneAfter}
use Rattle.xdg_facts.proofs.Ordered.{less_irreflexive, less_transitive, at_most_less, at_most_of, not_less, less_or}
use Rattle.xdg_facts.proofs.Unique.{rises_above, listing_tail}
use Rattle.xdg_facts.proofs.Each.{each_append, each_weaker}
use Rattle.xdg_facts.proofs.In.{in_left, in_right}

not_after : (x p q : List ℕ) → AtMost p q → (Less p x → ⊥) → Less q x → ⊥
not_after x p q k n l = n (at_most_less p q x k l)

pub so_far_none : (shape : List ℕ) (P : List ℕ → Type 0) (p : List ℕ) → IsListing shape (SoFar P p) p []
so_far_none shape P p = record { rises = tt; each = tt; all = λ x f s l. absurd (s.1 l) }

pub joined_rises : (a p : List ℕ) (xs ys : List (List ℕ)) → AtMost a p → AllByRecursion (λ x. AtMost x p) xs → RisesFrom a xs → RisesFrom p ys → RisesFrom a (xs ++ ys)
joined_rises a p [] [] k h r s = tt
joined_rises a p [] (y ∷ ys) k h r s = (at_most_less a p y k s.0, s.1)
joined_rises a p (x ∷ xs) ys k h r s = (r.0, joined_rises x p xs ys h.0 h.1 r.1 s)

-- what is listed from a to p and what is listed from p to q are together what is listed from a to q
pub listings_join : (shape : List ℕ) (P : List ℕ → Type 0) (a p q : List ℕ) (xs ys : List (List ℕ)) → AtMost a p → AtMost p q → IsListing shape (SoFar P p) a xs → IsListing shape (SoFar P q) p ys → IsListing shape (SoFar P q) a (xs ++ ys)
listings_join shape P a p q xs ys k m i j = record {
  rises = joined_rises a p xs ys k (each_weaker (λ x. Fits shape x × SoFar P p x) (λ x. AtMost x p) xs (λ x h. at_most_of x p h.1.1) i.each) i.rises j.rises;
  each = each_append (λ x. Fits shape x × SoFar P q x) xs ys (each_weaker (λ x. Fits shape x × SoFar P p x) (λ x. Fits shape x × SoFar P q x) xs (λ x h. (h.0, (h.1.0, not_after x p q m h.1.1))) i.each) j.each;
  all = λ x f s l. elim (less_or p x) [
    | inl n ↦ in_right xs ys x (j.all x f s n)
    | inr n ↦ in_left xs ys x (i.all x f (s.0, not_less x p n) l)
  ];
}

-- where nothing comes after p, what is listed up to p is all
pub so_far_end : (shape : List ℕ) (P : List ℕ → Type 0) (a p : List ℕ) (xs : List (List ℕ)) → IsListing shape (SoFar P p) a xs → NoneAfter shape P p → IsListing shape P a xs
so_far_end shape P a p xs i none = record {
  rises = i.rises;
  each = each_weaker (λ x. Fits shape x × SoFar P p x) (λ x. Fits shape x × P x) xs (λ x h. (h.0, h.1.0)) i.each;
  all = λ x f px l. i.all x f (px, none x f px) l;
}

-- a listing of all begins with what is listed up to p, and the rest of it is listed from p on
pub so_far_split : (shape : List ℕ) (P : List ℕ → Type 0) (a p : List ℕ) (xs ys : List (List ℕ)) → AtMost a p → IsListing shape (SoFar P p) a xs → IsListing shape P a ys → (rest : List (List ℕ)) × (ys ≡ xs ++ rest) × IsListing shape P p rest
so_far_split shape P a p [] [] k i j = ([], refl, record { rises = tt; each = tt; all = λ x f px l. j.all x f px (at_most_less a p x k l) })
so_far_split shape P a p [] (y ∷ ys) k i j = (
  y ∷ ys,
  refl,
  record {
    rises = (
      elim (less_or p y) [
        | inl l ↦ l
        | inr m ↦ absurd (i.all y j.each.0.0 (j.each.0.1, not_less y p m) j.rises.0)
      ],
      j.rises.1,
    );
    each = j.each;
    all = λ x f px l. j.all x f px (at_most_less a p x k l);
  },
)
so_far_split shape P a p (x ∷ xs) [] k i j = absurd (j.all x i.each.0.0 i.each.0.1.0 i.rises.0)
so_far_split shape P a p (x ∷ xs) (y ∷ ys) k i j =
    let same : x ≡ y = elim (j.all x i.each.0.0 i.each.0.1.0 i.rises.0) [
      | inl e ↦ sym e
      | inr m ↦ (let l = rises_above y x ys j.rises.1 m in elim (i.all y j.each.0.0 (j.each.0.1, λ n. i.each.0.1.1 (less_transitive p y x n l)) j.rises.0) [
        | inl e ↦ e
        | inr q ↦ absurd (less_irreflexive x (less_transitive x y x (rises_above x y xs i.rises.1 q) l))
      ])
    ] in
    let r = so_far_split shape P x p xs ys (at_most_of x p i.each.0.1.1) (listing_tail shape (SoFar P p) a x xs i) (subst (λ z. IsListing shape P z ys) (sym same) (listing_tail shape P a y ys j)) in
    (r.0, (let e : ys ≡ xs ++ r.0 = r.1 in cc), r.2)
