-- The whole vectors of a listing are themselves a listing.
use Rattle.std.proofs.Common.{◌≡◌, ◌≢◌, ℕ, inl, inr, List, [], ◌∷◌, ◌++◌, length, refl, ap, ◌∙◌, Bool, true, false, eq-eqb}
use Rattle.std.proofs.lemmas.Bool.{eqb-true}
use Rattle.std.proofs.lemmas.Bool.Decides.{eqb_tells}
use Rattle.std.specs.Prelude.{filter, nat_eq, cond}
use Rattle.std.specs.List.{AllByRecursion}
use Rattle.std.proofs.lemmas.List.Elements.{filter-append}
use Rattle.xdg_facts.specs.Order.{Less}
use Rattle.xdg_facts.specs.Fits.{Fits}
use Rattle.xdg_facts.specs.Listing.{RisesFrom, IsListing}
use Rattle.xdg_facts.specs.Whole.{Whole, is_whole}
use Rattle.xdg_facts.specs.Endings.{WholeListed}
use Rattle.xdg_facts.proofs.Ordered.{less_transitive}
use Rattle.xdg_facts.proofs.Unique.{listing_unique}
use Rattle.xdg_facts.proofs.In.{filter_in}

above_cond : (a x : List ℕ) (b : Bool) (xs : List (List ℕ)) → Less a x → RisesFrom x xs → RisesFrom a (cond b (x ∷ xs) xs)
above_cond a x true xs l r = (l, r)
above_cond a x false [] l r = tt
above_cond a x false (y ∷ ys) l r = (less_transitive a x y l r.0, r.1)

pub filter_rises : (test : List ℕ → Bool) (a : List ℕ) (xs : List (List ℕ)) → RisesFrom a xs → RisesFrom a (filter test xs)
filter_rises test a [] r = tt
filter_rises test a (x ∷ xs) r = above_cond a x (test x) (filter test xs) r.0 (filter_rises test x xs r.1)

each_cond : (Q : List ℕ → Type 0) (b : Bool) (x : List ℕ) (xs : List (List ℕ)) → (b ≡ true → Q x) → AllByRecursion Q xs → AllByRecursion Q (cond b (x ∷ xs) xs)
each_cond Q true x xs q r = (q refl, r)
each_cond Q false x xs q r = r

pub filter_each : (Q R : List ℕ → Type 0) (test : List ℕ → Bool) (xs : List (List ℕ)) → ((x : List ℕ) → Q x → test x ≡ true → R x) → AllByRecursion Q xs → AllByRecursion R (filter test xs)
filter_each Q R test [] h r = tt
filter_each Q R test (x ∷ xs) h r = each_cond R (test x) x (filter test xs) (λ e. h x r.0 e) (filter_each Q R test xs h r.1)

pub whole_listing : (shape : List ℕ) (P : List ℕ → Type 0) (a : List ℕ) (xs : List (List ℕ)) → IsListing shape P a xs → IsListing shape (Whole shape P) a (filter (is_whole shape) xs)
whole_listing shape P a xs i = record {
  rises = filter_rises (is_whole shape) a xs i.rises;
  each = filter_each (λ x. Fits shape x × P x) (λ x. Fits shape x × Whole shape P x) (is_whole shape) xs (λ x q e. (q.0, (q.1, eqb-true (length x) (length shape) e))) i.each;
  all = λ x f w l. filter_in (is_whole shape) xs x (eq-eqb (length x) (length shape) w.1) (i.all x f w.0 l);
}

pub whole_listed : WholeListed
whole_listed shape test start counted listing = whole_listing shape (λ x. test x ≡ true) start counted listing

pub whole_unique : (shape : List ℕ) (P : List ℕ → Type 0) (a : List ℕ) (counted solutions : List (List ℕ)) → IsListing shape P a counted → IsListing shape (Whole shape P) a solutions → filter (is_whole shape) counted ≡ solutions
whole_unique shape P a counted solutions i j = listing_unique shape (Whole shape P) a (filter (is_whole shape) counted) solutions (whole_listing shape P a counted i) j

pub filter_whole : (shape c : List ℕ) → length c ≡ length shape → filter (is_whole shape) (c ∷ []) ≡ c ∷ []
filter_whole shape c e = rw (eq-eqb (length c) (length shape) e) refl

not_same : (m n : ℕ) → m ≢ n → nat_eq m n ≡ false
not_same m n h = elim (eqb_tells m n) [ inl t ↦ absurd (h t.1) | inr f ↦ f.0 ]

filter_short : (shape c : List ℕ) → length c ≢ length shape → filter (is_whole shape) (c ∷ []) ≡ []
filter_short shape c n = rw (not_same (length c) (length shape) n) refl

-- a prefix that is not whole adds no whole vector
pub filter_more : (shape c : List ℕ) (xs : List (List ℕ)) → filter (is_whole shape) xs ≡ [] → length c ≢ length shape → filter (is_whole shape) (xs ++ c ∷ []) ≡ []
filter_more shape c xs e n =
    let f = filter_short shape c n in
    filter-append (is_whole shape) xs (c ∷ []) ∙ ap (λ z. z ++ filter (is_whole shape) (c ∷ [])) e ∙ f
