-- What has been listed when a search is about to look at c: all that it counts before c. No listing of all is assumed.
use Rattle.std.proofs.Common.{◌≡◌, ℕ, ◌<◌, ◌+◌, inl, inr, List, [], ◌∷◌, ◌++◌, length, refl, subst}
use Rattle.std.specs.List.{AllByRecursion}
use Rattle.xdg_facts.specs.Order.{Less, AtMost}
use Rattle.xdg_facts.specs.Fits.{Fits}
use Rattle.xdg_facts.specs.Listing.{RisesFrom, IsListing, SoFar, Before}
use Rattle.xdg_facts.specs.Closed.{Closed}
use Rattle.xdg_facts.proofs.Ordered.{less_transitive, at_most_less, less_at_most, not_less, less_or, at_most_of, zero_next, less_push, past_step, extends_or_past}
use Rattle.xdg_facts.proofs.Exists.{rises_append}
use Rattle.xdg_facts.proofs.Each.{each_append, each_weaker}
use Rattle.xdg_facts.proofs.In.{in_left, in_right}
use Rattle.xdg_facts.specs.Membership.{In}

-- a later candidate, where nothing that is counted lies between
pub before_later : (shape : List ℕ) (P : List ℕ → Type 0) (start c d : List ℕ) (xs : List (List ℕ)) → Less c d → ((x : List ℕ) → Fits shape x → P x → AtMost c x → AtMost d x) → IsListing shape (Before P c) start xs → IsListing shape (Before P d) start xs
before_later shape P start c d xs l none i = record {
  rises = i.rises;
  each = each_weaker (λ x. Fits shape x × Before P c x) (λ x. Fits shape x × Before P d x) xs (λ x h. (h.0, (h.1.0, less_transitive x c d h.1.1 l))) i.each;
  all = λ x f b k. i.all x f (b.0, elim (less_or x c) [ inl m ↦ m | inr m ↦ absurd (not_less d x (none x f b.0 m) b.1) ]) k;
}

-- nothing that begins with an uncounted prefix is counted
pub refused_none : (P : List ℕ → Type 0) (q x : List ℕ) (v : ℕ) → Closed P → (P (q ++ v ∷ []) → ⊥) → 0 < length (q ++ v ∷ []) → P x → AtMost (q ++ v ∷ []) x → AtMost (q ++ (v + 1) ∷ []) x
refused_none P q x v closed n some px k = elim (extends_or_past (q ++ v ∷ []) x k) [
  | inl g ↦ absurd (n (closed (q ++ v ∷ []) g.0 some (subst P g.1 px)))
  | inr p ↦ past_step q x v p
]

-- the candidate is counted: it is listed, and the next candidate is right behind it
pub before_taken : (shape : List ℕ) (P : List ℕ → Type 0) (start c : List ℕ) (xs : List (List ℕ)) → Less start c → Fits shape c → P c → IsListing shape (Before P c) start xs → IsListing shape (Before P (c ++ 0 ∷ [])) start (xs ++ c ∷ [])
before_taken shape P start c xs above fits pc i = record {
  rises = rises_append start c xs (c ∷ []) above (each_weaker (λ x. Fits shape x × Before P c x) (λ b. Less b c) xs (λ x h. h.1.1) i.each) (λ b k. (k, tt)) i.rises;
  each = each_append (λ x. Fits shape x × Before P (c ++ 0 ∷ []) x) xs (c ∷ []) (each_weaker (λ x. Fits shape x × Before P c x) (λ x. Fits shape x × Before P (c ++ 0 ∷ []) x) xs (λ x h. (h.0, (h.1.0, less_transitive x c (c ++ 0 ∷ []) h.1.1 (less_push c 0)))) i.each) ((fits, (pc, less_push c 0)), tt);
  all = λ x f b l. elim (less_or x c) [
    | inl m ↦ in_left xs (c ∷ []) x (i.all x f (b.0, m) l)
    | inr m ↦ elim m [
      | inl e ↦ in_right xs (c ∷ []) x (inl e)
      | inr k ↦ absurd (not_less (c ++ 0 ∷ []) x (zero_next c x k) b.1)
    ]
  ];
}

-- the last of a list, or the start where it is empty
abbrev pub last_from : List ℕ → List (List ℕ) → List ℕ
last_from start [] = start
last_from start (x ∷ xs) = last_from x xs

last_rises : (start : List ℕ) (xs : List (List ℕ)) → RisesFrom start xs → AtMost start (last_from start xs)
last_rises start [] r = inl refl
last_rises start (x ∷ xs) r = inr (less_at_most start x (last_from x xs) r.0 (last_rises x xs r.1))

member_last : (start x : List ℕ) (xs : List (List ℕ)) → RisesFrom start xs → In xs x → AtMost x (last_from start xs)
member_last start x [] r m = absurd m
member_last start x (y ∷ ys) r (inl e) = subst (λ z. AtMost z (last_from y ys)) e (last_rises y ys r.1)
member_last start x (y ∷ ys) r (inr m) = member_last y x ys r.1 m

last_below : (Q : List ℕ → Type 0) (start : List ℕ) (xs : List (List ℕ)) → Q start → AllByRecursion Q xs → Q (last_from start xs)
last_below Q start [] q h = q
last_below Q start (x ∷ xs) q h = last_below Q x xs h.0 h.1

with_members : (Q R : List ℕ → Type 0) (xs ys : List (List ℕ)) → ((x : List ℕ) → In xs x → Q x → R x) → ((x : List ℕ) → In ys x → In xs x) → AllByRecursion Q ys → AllByRecursion R ys
with_members Q R xs [] w s h = tt
with_members Q R xs (y ∷ ys) w s h = (w y (s y (inl refl)) h.0, with_members Q R xs ys w (λ x m. s x (inr m)) h.1)

-- what has been listed before c is what is counted up to the last that has been listed
pub so_far_last : (shape : List ℕ) (P : List ℕ → Type 0) (start c : List ℕ) (xs : List (List ℕ)) → Less start c → IsListing shape (Before P c) start xs → IsListing shape (SoFar P (last_from start xs)) start xs
so_far_last shape P start c xs above i = record {
  rises = i.rises;
  each = with_members (λ x. Fits shape x × Before P c x) (λ x. Fits shape x × SoFar P (last_from start xs) x) xs xs (λ x m h. (h.0, (h.1.0, λ l. not_less x (last_from start xs) (member_last start x xs i.rises m) l))) (λ x m. m) i.each;
  all = λ x f s l. i.all x f (s.0, at_most_less x (last_from start xs) c (at_most_of x (last_from start xs) s.1) (last_below (λ z. Less z c) start xs above (each_weaker (λ x. Fits shape x × Before P c x) (λ z. Less z c) xs (λ z h. h.1.1) i.each))) l;
}

pub last_before : (shape : List ℕ) (P : List ℕ → Type 0) (start c : List ℕ) (xs : List (List ℕ)) → Less start c → IsListing shape (Before P c) start xs → Less (last_from start xs) c
last_before shape P start c xs above i = last_below (λ z. Less z c) start xs above (each_weaker (λ x. Fits shape x × Before P c x) (λ z. Less z c) xs (λ z h. h.1.1) i.each)

pub last_append : (start c : List ℕ) (xs : List (List ℕ)) → last_from start (xs ++ c ∷ []) ≡ c
last_append start c [] = refl
last_append start c (x ∷ xs) = last_append x c xs

pub last_at_most : (start : List ℕ) (xs : List (List ℕ)) → RisesFrom start xs → AtMost start (last_from start xs)
last_at_most start xs r = last_rises start xs r

-- nothing that is counted comes after the last that has been listed and before c
pub none_after_last : (shape : List ℕ) (P : List ℕ → Type 0) (start c : List ℕ) (xs : List (List ℕ)) → IsListing shape (Before P c) start xs → (x : List ℕ) → Fits shape x → P x → Less (last_from start xs) x → Less x c → ⊥
none_after_last shape P start c xs i x f px l k =
    let m = i.all x f (px, k) (at_most_less start (last_from start xs) x (last_rises start xs i.rises) l) in
    not_less x (last_from start xs) (member_last start x xs i.rises m) l
