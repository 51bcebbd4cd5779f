-- What two lists say together, item by item, put down behind what stood.
use Rattle.std.proofs.Common.{◌≡◌, ℕ, ◌<◌, ◌≤◌, ◌+◌, List, [], ◌∷◌, ◌++◌, length, get_or, take, drop, ap, sym, ◌∙◌, arith, append_assoc, length-append}
use Rattle.std.proofs.lemmas.List.{append-nil, length-take-le, take-append-drop, take_more}

-- as long as both have items, what each two say: one item at most
pub record Zips (A B C : Type 0) (f : A → B → List C) (F : List A → List B → List C) : Type 0 where
  pub few : (x : A) (y : B) → length (f x y) ≤ 1
  pub none : (xs : List A) → F xs [] ≡ []
  pub past : (ys : List B) → F [] ys ≡ []
  pub both : (x : A) (xs : List A) (y : B) (ys : List B) → F (x ∷ xs) (y ∷ ys) ≡ f x y ++ F xs ys

module _ {A B C : Type 0} {f : A → B → List C} {F : List A → List B → List C} (z : Zips A B C f F) where
  push : (xs : List A) (ys : List B) (y : B) (d : A) → length ys < length xs → F xs (ys ++ y ∷ []) ≡ F xs ys ++ f (get_or xs (length ys) d) y
  push [] ys y d l = absurd (omega (arith, l))
  push (x ∷ xs) [] y d l = z.both x xs y [] ∙ ap (λ r. f x y ++ r) (z.none xs) ∙ append-nil (f x y) ∙ sym (ap (λ r. r ++ f x y) (z.none (x ∷ xs)))
  push (x ∷ xs) (w ∷ ys) y d l =
      let last : List C = f (get_or xs (length ys) d) y in
      z.both x xs w (ys ++ y ∷ []) ∙ ap (λ r. f x w ++ r) (push xs ys y d (omega (arith, l))) ∙ sym (ap (λ r. r ++ last) (z.both x xs w ys) ∙ append_assoc (f x w) (F xs ys) last)

  full : (xs : List A) (ys more : List B) → length xs ≤ length ys → F xs (ys ++ more) ≡ F xs ys
  full [] ys more l = z.past (ys ++ more) ∙ sym (z.past ys)
  full (x ∷ xs) [] more l = absurd (omega (arith, l))
  full (x ∷ xs) (y ∷ ys) more l = z.both x xs y (ys ++ more) ∙ ap (λ r. f x y ++ r) (full xs ys more (omega (arith, l))) ∙ sym (z.both x xs y ys)

  fewer : (xs : List A) (ys : List B) → length (F xs ys) ≤ length ys
  fewer xs [] = let e = ap length (z.none xs) in omega (arith, e)
  fewer [] (y ∷ ys) = let e = ap length (z.past (y ∷ ys)) in omega (arith, e)
  fewer (x ∷ xs) (y ∷ ys) =
      let e = ap length (z.both x xs y ys) ∙ length-append (f x y) (F xs ys) in
      let one = z.few x y in
      let rest = fewer xs ys in
      omega (arith, e, one, rest)

  module _ (old : List C) (xs : List A) (ys : List B) (i : ℕ) (l : i < length ys) where
    taken : length (take i ys) ≡ i
    taken = length-take-le i ys (omega (arith, l))

    pub zip_turn : (items items' : List C) (x : A) (y : B) → items ≡ old ++ F xs (take i ys) → i < length xs → x ≡ get_or xs i x → y ≡ get_or ys i y → items' ≡ items ++ f x y → items' ≡ old ++ F xs (take (i + 1) ys)
    zip_turn items items' x y so_far within is_x is_y grown =
        let t = taken in
        let next : F xs (take (i + 1) ys) ≡ F xs (take i ys) ++ f x y =
        ap (F xs) (take_more ys i y l ∙ ap (λ r. take i ys ++ r ∷ []) (sym is_y))
        ∙ push xs (take i ys) y x (omega (arith, t, within))
        ∙ ap (λ r. F xs (take i ys) ++ f r y) (ap (λ k. get_or xs k x) t ∙ sym is_x) in
        grown ∙ ap (λ r. r ++ f x y) so_far ∙ append_assoc old (F xs (take i ys)) (f x y) ∙ ap (λ r. old ++ r) (sym next)

    pub zip_rest : (items : List C) → items ≡ old ++ F xs (take i ys) → length xs ≤ i → items ≡ old ++ F xs ys
    zip_rest items so_far past =
        let t = taken in
        so_far ∙ ap (λ r. old ++ r) (sym (full xs (take i ys) (drop i ys) (omega (arith, t, past))) ∙ ap (F xs) (take-append-drop i ys))

    pub zip_room : (items : List C) (room : ℕ) → items ≡ old ++ F xs (take i ys) → i < length xs → length old + length xs ≤ room → length items < room
    zip_room items room so_far within held = (let t = taken in let e = ap length so_far ∙ length-append old (F xs (take i ys)) in let h = fewer xs (take i ys) in omega (arith, t, e, h, within, held))
