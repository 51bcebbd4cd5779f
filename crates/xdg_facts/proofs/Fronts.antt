-- Fronts of lists, what is behind them, and lists put together.
use Rattle.std.proofs.Common.{ℕ, List, [], ◌∷◌, ◌++◌, ◌+◌, ◌<◌, length, arith, length-append, ◌≡◌, refl, zero, suc, get_or, Some, drop, add-one, sym, ap, map, reverse, ◌∙◌, take, ◌-◌, ap₂, ◌≤◌, subst, append_assoc}
use Rattle.std.specs.List.{range_with_len, flat_map, slice_range}
use Rattle.std.specs.Prelude.{slice_index, slice_get}
use Rattle.std.proofs.Math.Seq.{take-suc, take-append_seam, drop-append_seam}
use Rattle.std.proofs.lemmas.List.{reverse-append, append_cancel_right, map-append, take_more, flat_map_more, take-take, drop-take, take-append-drop, take_all}
use Rattle.std.proofs.lemmas.List.Folds.{flat_map-map}
use Rattle.std.proofs.lemmas.List.FromFn.{map-range_with_len_more}
use Rattle.xdg_facts.proofs.Lists.{kept, head_of, tail_of}

-- lists with one last element more that are equal
pub cut_last : {A : Type 0} (xs ys : List A) (x y : A) → xs ++ x ∷ [] ≡ ys ++ y ∷ [] → (xs ≡ ys) × (x ≡ y)
cut_last xs ys x y e =
    let last : x ≡ y = head_of x y (reverse xs) (reverse ys) (sym (reverse-append xs (x ∷ [])) ∙ ap reverse e ∙ reverse-append ys (y ∷ [])) in
    (append_cancel_right xs ys (x ∷ []) (e ∙ ap (λ z. ys ++ z ∷ []) (sym last)), last)

-- what a function makes of the first elements, and of one more
pub map_next : {A B : Type 0} (f : A → B) (xs : List A) (i : ℕ) (x : A) → i < length xs → x ≡ get_or xs i x → map f (take (i + 1) xs) ≡ map f (take i xs) ++ f x ∷ []
map_next f xs i x within is = ap (map f) (take_more xs i x within ∙ ap (λ y. take i xs ++ y ∷ []) (sym is)) ∙ map-append f (take i xs) (x ∷ [])

-- texts of one length
pub fronts_same : (a b r s : List ℕ) → length a ≡ length b → a ++ r ≡ b ++ s → (a ≡ b) × (r ≡ s)
fronts_same [] [] r s same e = (refl, e)
fronts_same (x ∷ a) (y ∷ b) r s same e =
    let shorter : length a ≡ length b = omega (arith, same) in
    let rest = fronts_same a b r s shorter (tail_of x y (a ++ r) (b ++ s) e) in
    (ap₂ (λ d ds. d ∷ ds) (head_of x y (a ++ r) (b ++ s) e) rest.0, rest.1)
fronts_same _ _ r s same e = absurd (omega (arith, same))

pub record IsPart {A : Type 0} (xs : List A) (x : A) : Type 0 where
  pub before : List A
  pub after : List A
  pub parts : xs ≡ before ++ x ∷ after

-- the element at a place, and how many stand before it
pub record IsPartAt {A : Type 0} (xs : List A) (n : ℕ) : Type 0 where
  pub before : List A
  pub one : A
  pub after : List A
  pub parts : xs ≡ before ++ one ∷ after
  pub len : length before ≡ n

pub part_at : {A : Type 0} (xs : List A) (n : ℕ) → n < length xs → IsPartAt xs n
part_at [] n h = absurd (omega arith)
part_at (x ∷ xs) zero h = record { before = []; one = x; after = xs; parts = refl; len = refl }
part_at (x ∷ xs) (suc n) h = let r = part_at xs n (omega arith) in record { before = x ∷ r.before; one = r.one; after = r.after; parts = ap (λ ys. x ∷ ys) r.parts; len = omega (arith, r.len) }

pub place_between : {A : Type 0} (before : List A) (x : A) (after : List A) → slice_get (before ++ x ∷ after) (length before) ≡ Some x
place_between [] x after = refl
place_between (y ∷ before) x after = place_between before x after

-- what stands at a place stands parts_between others
pub parts_between : {A : Type 0} (xs : List A) (k : ℕ) (x : A) → slice_get xs k ≡ Some x → (before : List A) × ((after : List A) × ((xs ≡ before ++ x ∷ after) × (length before ≡ k)))
parts_between [] k x h = absurd cc
parts_between (y ∷ xs) zero x h = let e : y ≡ x = cc in ([], (xs, (ap (λ z. z ∷ xs) e, refl)))
parts_between (y ∷ xs) (suc k) x h = let r = parts_between xs k x h in (y ∷ r.0, (r.1.0, (ap (λ ys. y ∷ ys) r.1.1.0, ap suc r.1.1.1)))

pub first_none : {A : Type 0} (xs ys : List A) → xs ++ ys ≡ [] → xs ≡ []
first_none [] ys h = refl
first_none (x ∷ xs) ys h = absurd (cc)

pub second_none : {A : Type 0} (xs ys : List A) → xs ++ ys ≡ [] → ys ≡ []
second_none [] ys h = h
second_none (x ∷ xs) ys h = absurd (cc)

pub taken : {A : Type 0} (xs : List A) (i : ℕ) (x : A) → i < length xs → x ≡ get_or xs i x → take (i + 1) xs ≡ take i xs ++ x ∷ []
taken xs i x within is = rw (add-one, take-suc xs i x) (ap (λ z. take i xs ++ z ∷ []) (sym is))

-- texts, one by one
pub same_text_turn : (xs ys : List (List ℕ)) (i : ℕ) (x y : List ℕ) → i < length xs → i < length ys → x ≡ get_or xs i x → y ≡ get_or ys i y → x ≡ y → take i xs ≡ take i ys → take (i + 1) xs ≡ take (i + 1) ys
same_text_turn xs ys i x y within below is at same so_far = taken xs i x within is ∙ ap₂ (λ (s : List (List ℕ)) (t : List ℕ). s ++ t ∷ []) so_far same ∙ sym (taken ys i y below at)

pub drop_joined : (n : ℕ) (xs ys : List ℕ) → drop n (xs ++ ys) ≡ drop n xs ++ drop (n - length xs) ys
drop_joined zero xs ys = let e : 0 - length xs ≡ 0 = omega arith in rw e refl
drop_joined (suc n) [] ys = let e : suc n - 0 ≡ suc n = omega arith in rw e refl
drop_joined (suc n) (x ∷ xs) ys = let e : suc n - suc (length xs) ≡ n - length xs = omega arith in rw e (drop_joined n xs ys)

pub pushed_front : (p t : List ℕ) (v : ℕ) → (p ++ v ∷ []) ++ t ≡ p ++ v ∷ t
pushed_front p t v = append_assoc p (v ∷ []) t

pub front_length : (bytes front left : List ℕ) → bytes ≡ front ++ left → length bytes - length left ≡ length front
front_length bytes front left e = let size : length bytes ≡ length (front ++ left) = ap length e in omega (arith, size, length-append front left)

pub one_more_piece : (f : ℕ → List ℕ) (count : ℕ) → flat_map f (range_with_len 1 (count + 1)) ≡ flat_map f (range_with_len 1 count) ++ f (count + 1)
one_more_piece f count =
    sym (flat_map-map f (λ x. x) (range_with_len 1 (count + 1)))
    ∙ ap (flat_map f) (map-range_with_len_more (λ x. x) 1 count (count + 1) (omega arith))
    ∙ sym (flat_map_more f [] (map (λ x. x) (range_with_len 1 count)) (count + 1))
    ∙ ap (λ z. z ++ f (count + 1)) (flat_map-map f (λ x. x) (range_with_len 1 count))

pub slice_is : (bytes front piece behind : List ℕ) (at : ℕ) → bytes ≡ front ++ (piece ++ behind) → length front ≡ at → piece ≡ slice_range bytes at (at + length piece)
slice_is bytes front piece behind at is place =
    let size : (at + length piece) - at ≡ length piece = omega arith in
    sym (ap (λ n. take n (drop at bytes)) size ∙ ap (λ n. take (length piece) (drop n bytes)) (sym place) ∙ ap (λ l. take (length piece) (drop (length front) l)) is
    ∙ ap (take (length piece)) (drop-append_seam front (piece ++ behind)) ∙ take-append_seam piece behind)

pub take_further : (d k : ℕ) (xs : List ℕ) → take d xs ++ take k (drop d xs) ≡ take (d + k) xs
take_further d k xs = ap₂ (λ a b. a ++ b) (sym (take-take d (d + k) xs (omega arith))) (sym (drop-take d k xs)) ∙ take-append-drop d (take (d + k) xs)

-- a list by one of its elements
pub around : (numbers : List ℕ) (d : ℕ) → 0 < d → d ≤ length numbers → take d numbers ≡ take (d - 1) numbers ++ slice_index numbers (d - 1) ∷ []
around numbers d some short =
    let e : d ≡ (d - 1) + 1 = omega (arith, some) in
    ap (λ k. take k numbers) e ∙ take_more numbers (d - 1) 0 (omega (arith, some, short))

-- the front of what is kept, where its last numbers go
pub begins_back : (numbers r t kept : List ℕ) → take (length numbers) kept ≡ numbers → numbers ≡ r ++ t → take (length r) kept ≡ r
begins_back numbers r t kept h e =
    let n = ap length e in
    let m = length-append r t in
    sym (take-take (length r) (length numbers) kept (omega (arith, n, m))) ∙ ap (take (length r)) (h ∙ e) ∙ take-append_seam r t

-- more numbers are their own front
pub begins_taken : (grown now : List ℕ) → now ≡ grown → take (length grown) now ≡ grown
begins_taken grown now e = ap (take (length grown)) e ∙ take_all (length grown) grown (omega arith)

pub front_more : (start numbers : List ℕ) (k v : ℕ) → k < length start → numbers ≡ take k start → v ≡ get_or start k 0 → numbers ++ v ∷ [] ≡ take (k + 1) start
front_more start numbers k v h e w = ap (λ z. z ++ v ∷ []) e ∙ ap (λ i. take k start ++ i ∷ []) w ∙ sym (take_more start k 0 h)

pub start_more : (start numbers grown : List ℕ) (k v : ℕ) → k < length start → numbers ≡ take k start → v ≡ get_or start k 0 → grown ≡ numbers ++ v ∷ [] → grown ≡ take (k + 1) start
start_more start numbers grown k v h e w g = g ∙ front_more start numbers k v h e w

pub five : (a b c d e : List ℕ) → (((a ++ b) ++ c) ++ d) ++ e ≡ a ++ (b ++ (c ++ (d ++ e)))
five a b c d e = append_assoc ((a ++ b) ++ c) d e ∙ append_assoc (a ++ b) c (d ++ e) ∙ append_assoc a b (c ++ (d ++ e))

pub first_number : (numbers : List ℕ) (len : ℕ) → 0 < len → 0 < length numbers → take len numbers ≡ get_or numbers 0 0 ∷ take (len - 1) (drop 1 numbers)
first_number [] len some within = absurd (omega (arith, within))
first_number (x ∷ numbers) zero some within = absurd (omega (arith, some))
first_number (x ∷ numbers) (suc len) some within = (let e : len ≡ suc len - 1 = omega arith in ap (λ k. x ∷ take k numbers) e)

-- what begins with a word is not empty
pub front_said : (text first rest : List ℕ) → text ≡ first ++ rest → 0 < length first → 0 < length text
front_said text first rest is some = subst (λ z. 0 < length z) (sym is) (let l = length-append first rest in omega (arith, l, some))
