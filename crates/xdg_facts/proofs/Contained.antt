-- What a list contains, and what some element of it is.
use Rattle.std.proofs.Common.{◌≡◌, ◌<◌, ◌⊎◌, inl, inr, List, [], ◌∷◌, length, refl, ap, sym, ◌∙◌, arith, subst, zero, suc, Bool, true, map, cond, ℕ, get_or, false}
use Rattle.std.specs.Prelude.{filter, Contains}
use Rattle.std.proofs.lemmas.List.{get_or-map, length-map}
use Rattle.xdg_facts.proofs.Lists.{kept, contains_more}
use Rattle.std.specs.List.{Any, list_any, flat_map}
use Rattle.std.proofs.lemmas.List.Folds.{Any-from_list_any, list_any-from_Any, list_any_at}
use Rattle.std.proofs.lemmas.Bool.{true≢false}
use Rattle.std.proofs.lemmas.List.Elements.{Contains-append_right, Contains-append_left}

pub contains_head : {X : Type 0} (x : X) (xs : List X) → Contains (x ∷ xs) x
contains_head x xs = (0, (omega arith), refl)

pub contains_cases : {X : Type 0} (y : X) (xs : List X) (x : X) → Contains (y ∷ xs) x → (y ≡ x) ⊎ Contains xs x
contains_cases y xs x (zero, l, e) = inl e
contains_cases y xs x (suc k, l, e) = inr (k, (let m : suc k < suc (length xs) = l in omega arith), e)

pub contains_none : {X : Type 0} (x : X) → Contains [] x → ⊥
contains_none x c = let l : c.0 < 0 = c.1 in omega arith

pub contains_map : {X Y : Type 0} (f : X → Y) (xs : List X) (x : X) → Contains xs x → Contains (map f xs) (f x)
contains_map f xs x c =
    let within : c.0 < length xs = c.1 in
    (c.0, omega (arith, within, length-map xs f), get_or-map f xs c.0 x (f x) c.1 ∙ ap f c.2)

pub contains_filter : {X : Type 0} (test : X → Bool) (xs : List X) (x : X) → test x ≡ true → Contains xs x → Contains (filter test xs) x
contains_filter test [] x t c = c
contains_filter test (y ∷ xs) x t c = elim (contains_cases y xs x c) [
  | inl e ↦ subst (λ b. Contains (cond b (y ∷ filter test xs) (filter test xs)) x) (sym (ap test e ∙ t)) (subst (λ z. Contains (y ∷ filter test xs) z) e (contains_head y (filter test xs)))
  | inr d ↦ kept (test y) y (filter test xs) x (contains_filter test xs x t d)
]

pub any_of : {X : Type 0} (P : X → Type 0) (xs : List X) (x : X) → Contains xs x → P x → Any P xs
any_of P xs x c p = (c.0, x, c.1, c.2, p)

pub any_weaker : {X : Type 0} (P Q : X → Type 0) (xs : List X) → ((x : X) → P x → Q x) → Any P xs → Any Q xs
any_weaker P Q xs h a = (a.0, a.1, a.2, a.3, h a.1 a.4)

-- an element of a list, and that it is as P says
pub contained : {X : Type 0} (P : X → Type 0) (xs : List X) → Any P xs → (x : X) × Contains xs x × P x
contained P xs a = (a.1, (a.0, a.2, a.3), a.4)

pub list_any_of : {X : Type 0} (test : X → Bool) (xs : List X) (x : X) → Contains xs x → test x ≡ true → list_any test xs ≡ true
list_any_of test xs x c passes = list_any-from_Any test xs (any_of (λ y. test y ≡ true) xs x c passes)

pub any_passes : {X : Type 0} (test : X → Bool) (xs : List X) → list_any test xs ≡ true → (x : X) × Contains xs x × (test x ≡ true)
any_passes test xs e = contained (λ x. test x ≡ true) xs (Any-from_list_any test xs e)

pub map_contained : {X : Type 0} (f : X → ℕ) (xs : List X) (n : ℕ) → Contains (map f xs) n → (x : X) × Contains xs x × (f x ≡ n)
map_contained f [] n c = absurd (contains_none n c)
map_contained f (x ∷ xs) n c = elim (contains_cases (f x) (map f xs) n c) [
  | inl here ↦ (x, contains_head x xs, here)
  | inr there ↦ (let more = map_contained f xs n there in (more.0, contains_more x xs more.0 more.1, more.2))
]

pub contains_one : {X : Type 0} (x y : X) → Contains (x ∷ []) y → y ≡ x
contains_one x y (zero, m, e) = sym e
contains_one x y (suc k, m, e) = absurd (omega (arith, m))

pub contains_flat : {X Y : Type 0} (f : X → List Y) (xs : List X) (x : X) (y : Y) → Contains xs x → Contains (f x) y → Contains (flat_map f xs) y
contains_flat f [] x y c d = absurd (contains_none x c)
contains_flat f (z ∷ xs) x y c d = elim (contains_cases z xs x c) [
  | inl e ↦ Contains-append_left (f z) (flat_map f xs) y (subst (λ k. Contains (f k) y) (sym e) d)
  | inr later ↦ Contains-append_right (f z) (flat_map f xs) y (contains_flat f xs x y later d)
]

-- none of them passes a test
pub none_passes : {X : Type 0} (p : X → Bool) (xs : List X) → list_any p xs ≡ false → (k : ℕ) (d : X) → k < length xs → p (get_or xs k d) ≡ true → ⊥
none_passes p xs e k d within h = true≢false (sym (list_any_at p xs k d within h) ∙ e)
