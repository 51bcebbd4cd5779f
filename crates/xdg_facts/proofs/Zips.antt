-- Two lists side by side, where a relation holds at each place.
use Rattle.std.proofs.Common.{ap₂, zero, inl, inr, Some, List, suc, map, sym, refl, ℕ, subst, ◌≡◌, [], ◌∷◌, ◌∙◌, arith, get_or, length, ◌<◌, slice_set, take, ◌+◌, ◌++◌}
use Rattle.std.specs.Prelude.{slice_get}
use Rattle.std.proofs.lemmas.List.{map-id}
use Rattle.std.specs.List.{AllZip}
use Rattle.xdg_facts.specs.Membership.{In}
use Rattle.xdg_facts.proofs.Lists.{same_got}

module _ {A B : Type 0} (R : A → B → Type 0) where
  -- it holds of each element and what is made of it
  pub zip_map : (f : A → B) (xs : List A) → ((x : A) → In xs x → R x (f x)) → AllZip R xs (map f xs)
  zip_map f [] h = tt
  zip_map f (x ∷ xs) h = (h x (inl refl), zip_map f xs (λ y i. h y (inr i)))

  -- what is seen of the one is what is seen of the other
  pub zip_seen : {C : Type 0} (f : A → C) (g : B → C) (xs : List A) (ys : List B) → ((x : A) (y : B) → R x y → g y ≡ f x) → AllZip R xs ys → map g ys ≡ map f xs
  zip_seen f g [] [] one h = refl
  zip_seen f g (x ∷ xs) (y ∷ ys) one h = ap₂ (λ z zs. z ∷ zs) (one x y h.0) (zip_seen f g xs ys one h.1)
  zip_seen f g _ _ one h = absurd h

  -- where nothing but this stands beside an element, there is one such list
  pub zip_once : (f : A → B) (xs : List A) (ys : List B) → ((x : A) (y : B) → R x y → y ≡ f x) → AllZip R xs ys → ys ≡ map f xs
  zip_once f xs ys one h = sym (map-id ys) ∙ zip_seen f (λ y. y) xs ys one h

  pub zip_weaker : (S : A → B → Type 0) (xs : List A) (ys : List B) → ((x : A) → In xs x → (y : B) → R x y → S x y) → AllZip R xs ys → AllZip S xs ys
  zip_weaker S [] [] each h = tt
  zip_weaker S (x ∷ xs) (y ∷ ys) each h = (each x (inl refl) y h.0, zip_weaker S xs ys (λ z i. each z (inr i)) h.1)
  zip_weaker S _ _ each h = absurd h

  -- something stands beside each element of the first list
  pub zip_first : (xs : List A) (ys : List B) → AllZip R xs ys → (x : A) → In xs x → (y : B) × (In ys y × R x y)
  zip_first [] [] h x i = absurd i
  zip_first (z ∷ xs) (y ∷ ys) h x i = elim i [
    | inl e ↦ (y, (inl refl, subst (λ w. R w y) e h.0))
    | inr k ↦ (let r = zip_first xs ys h.1 x k in (r.0, (inr r.1.0, r.1.1)))
  ]
  zip_first _ _ h x i = absurd h

  -- and of the second
  pub zip_second : (xs : List A) (ys : List B) → AllZip R xs ys → (y : B) → In ys y → (x : A) × (In xs x × R x y)
  zip_second [] [] h y i = absurd i
  zip_second (x ∷ xs) (z ∷ ys) h y i = elim i [
    | inl e ↦ (x, (inl refl, subst (R x) e h.0))
    | inr k ↦ (let r = zip_second xs ys h.1 y k in (r.0, (inr r.1.0, r.1.1)))
  ]
  zip_second _ _ h y i = absurd h

  -- at the same place
  pub zip_place : (xs : List A) (ys : List B) → AllZip R xs ys → (k : ℕ) (y : B) → slice_get ys k ≡ Some y → (x : A) × ((slice_get xs k ≡ Some x) × R x y)
  zip_place [] [] h k y stands = absurd (cc)
  zip_place (x ∷ xs) (z ∷ ys) h zero y stands = (x, (refl, subst (R x) (let e : z ≡ y = cc in e) h.0))
  zip_place (x ∷ xs) (z ∷ ys) h (suc k) y stands = zip_place xs ys h.1 k y stands
  zip_place _ _ h k y stands = absurd h

-- what holds of two lists side by side holds at each place
pub zip_at : {A B : Type 0} (R : A → B → Type 0) (xs : List A) (ys : List B) (i : ℕ) (d : A) (e : B) → AllZip R xs ys → i < length xs → R (get_or xs i d) (get_or ys i e)
zip_at R [] ys i d e zip l = absurd (omega (arith, l))
zip_at R (x ∷ xs) [] i d e zip l = absurd zip
zip_at R (x ∷ xs) (y ∷ ys) zero d e zip l = zip.0
zip_at R (x ∷ xs) (y ∷ ys) (suc i) d e zip l = zip_at R xs ys i d e zip.1 (omega (arith, l))

-- what is put into a place has to fit what stands at that place of the other list
pub zip_set : {A B : Type 0} (R : A → B → Type 0) (xs : List A) (ys : List B) (k : ℕ) (y : B) → ((x : A) → slice_get xs k ≡ Some x → R x y) → AllZip R xs ys → AllZip R xs (slice_set ys k y)
zip_set R [] [] k y fits zip = tt
zip_set R [] (z ∷ ys) k y fits zip = absurd zip
zip_set R (x ∷ xs) [] k y fits zip = absurd zip
zip_set R (x ∷ xs) (z ∷ ys) zero y fits zip = (fits x refl, zip.1)
zip_set R (x ∷ xs) (z ∷ ys) (suc k) y fits zip = (zip.0, zip_set R xs ys k y fits zip.1)

-- one place more
zip_taken : {A B : Type 0} (R : A → B → Type 0) (xs : List A) (ys : List B) (k : ℕ) (x : A) (y : B) → k < length xs → x ≡ get_or xs k x → AllZip R (take k xs) ys → R x y → AllZip R (take (suc k) xs) (ys ++ y ∷ [])
zip_taken R [] ys k x y within is zip one = absurd (omega (arith, within))
zip_taken R (z ∷ xs) [] zero x y within is zip one = (subst (λ w. R w y) is one, tt)
zip_taken R (z ∷ xs) (w ∷ ys) zero x y within is zip one = absurd zip
zip_taken R (z ∷ xs) [] (suc k) x y within is zip one = absurd zip
zip_taken R (z ∷ xs) (w ∷ ys) (suc k) x y within is zip one = (zip.0, zip_taken R xs ys k x y (omega (arith, within)) is zip.1 one)

pub zip_turn : {A B : Type 0} (R : A → B → Type 0) (xs : List A) (ys more : List B) (k : ℕ) (x : A) (y : B) → k < length xs → x ≡ get_or xs k x → AllZip R (take k xs) ys → R x y → more ≡ ys ++ y ∷ [] → AllZip R (take (k + 1) xs) more
zip_turn R xs ys more k x y within is zip one grown =
    let next : suc k ≡ k + 1 = omega arith in
    subst (λ n. AllZip R (take n xs) more) next (subst (AllZip R (take (suc k) xs)) (sym grown) (zip_taken R xs ys k x y within is zip one))

-- an element that fits, put beside the one that was read at its place
pub zip_put : {A B : Type 0} (R : A → B → Type 0) (xs : List A) (ys : List B) (k : ℕ) (x : A) (y : B) → k < length xs → x ≡ get_or xs k x → R x y → AllZip R xs ys → AllZip R xs (slice_set ys k y)
zip_put R xs ys k x y within is one zip = zip_set R xs ys k y (λ z stands. subst (λ a. R a y) (same_got xs k x z is stands) one) zip
