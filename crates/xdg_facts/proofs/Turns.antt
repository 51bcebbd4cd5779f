-- Turns of loops over lists.
use Rattle.std.proofs.Common.{take, get_or, List, sym, length, ℕ, ap, ◌≡◌, ◌<◌, ◌+◌, [], ◌∷◌, ◌++◌, ◌∙◌, true, drop, Bool, map, false, suc, add-one, reverse}
use Rattle.std.specs.Prelude.{flat_map, filter, cond}
use Rattle.std.proofs.Math.Seq.{drop-cons}
use Rattle.std.proofs.lemmas.Bool.{cond-true, cond-false}
use Rattle.std.proofs.lemmas.List.{flat_map_more, take_more, append_assoc, append-nil, reverse-append}
use Rattle.std.proofs.lemmas.List.Elements.{filter-append}
use Rattle.std.specs.List.{range_with_len}
use Rattle.xdg_facts.proofs.Lists.{from_place}
use Rattle.xdg_facts.proofs.Sorting.{range_more}
use Rattle.xdg_facts.specs.Rises.{numbers_below}

pub flat_turn : {X A : Type 0} (f : X → List A) (xs : List X) (i : ℕ) (x : X) (before after : List A) → i < length xs → x ≡ get_or xs i x → after ≡ before ++ f x → before ≡ flat_map f (take i xs) → after ≡ flat_map f (take (i + 1) xs)
flat_turn f xs i x before after within is grown so_far =
    grown ∙ ap (λ s. s ++ f x) so_far ∙ flat_map_more f [] (take i xs) x
    ∙ ap (λ y. flat_map f (take i xs ++ y ∷ [])) is ∙ ap (flat_map f) (sym (take_more xs i x within))

pub kept : {X Y : Type 0} (f : X → Y) (p : X → Bool) (xs : List X) (i : ℕ) (x : X) (now after whole : List Y) → i < length xs → x ≡ get_or xs i x → p x ≡ true → after ≡ now ++ f x ∷ []
    → now ++ map f (filter p (drop i xs)) ≡ whole → after ++ map f (filter p (drop (i + 1) xs)) ≡ whole
kept f p xs i x now after whole within is passes grown so_far =
    ap (λ l. l ++ map f (filter p (drop (i + 1) xs))) grown ∙ append_assoc now (f x ∷ []) (map f (filter p (drop (i + 1) xs)))
    ∙ ap (λ l. now ++ map f l) (sym (ap (filter p) (from_place xs i x within is) ∙ cond-true (p x) (x ∷ filter p (drop (i + 1) xs)) (filter p (drop (i + 1) xs)) passes)) ∙ so_far

pub skipped : {X Y : Type 0} (f : X → Y) (p : X → Bool) (xs : List X) (i : ℕ) (x : X) (now whole : List Y) → i < length xs → x ≡ get_or xs i x → p x ≡ false
    → now ++ map f (filter p (drop i xs)) ≡ whole → now ++ map f (filter p (drop (i + 1) xs)) ≡ whole
skipped f p xs i x now whole within is fails so_far =
    ap (λ l. now ++ map f l) (sym (ap (filter p) (from_place xs i x within is) ∙ cond-false (p x) (x ∷ filter p (drop (i + 1) xs)) (filter p (drop (i + 1) xs)) fails)) ∙ so_far

-- the text of a list of items from a place on begins with that of the item there
pub flat_place : {X : Type 0} (f : X → List ℕ) (xs : List X) (i : ℕ) (x : X) → i < length xs → x ≡ get_or xs i x → flat_map f (drop i xs) ≡ f x ++ flat_map f (drop (i + 1) xs)
flat_place f xs i x within is = rw (add-one) (ap (flat_map f) (drop-cons xs i x within) ∙ ap (λ z. f z ++ flat_map f (drop (suc i) xs)) (sym is))

more_by : (p : ℕ → Bool) (n : ℕ) → numbers_below (n + 1) p ≡ numbers_below n p ++ filter p (n ∷ [])
unfolding numbers_below
more_by p n = ap (filter p) (sym (range_more n)) ∙ filter-append p (range_with_len 0 n) (n ∷ [])

pub below_more : (p : ℕ → Bool) (n : ℕ) (made : List ℕ) → made ≡ numbers_below n p → p n ≡ true → made ++ n ∷ [] ≡ numbers_below (n + 1) p
below_more p n made is passes = ap (λ l. l ++ n ∷ []) is ∙ ap (λ b. numbers_below n p ++ cond b (n ∷ []) []) (sym passes) ∙ sym (more_by p n)

pub below_same : (p : ℕ → Bool) (n : ℕ) (made : List ℕ) → made ≡ numbers_below n p → p n ≡ false → made ≡ numbers_below (n + 1) p
below_same p n made is fails = is ∙ sym (append-nil (numbers_below n p)) ∙ ap (λ b. numbers_below n p ++ cond b (n ∷ []) []) (sym fails) ∙ sym (more_by p n)

pub turn_more : {A : Type 0} (turned more items rest start : List A) (last : A) → turned ++ reverse items ≡ start → items ≡ rest ++ last ∷ [] → more ≡ turned ++ last ∷ [] → more ++ reverse rest ≡ start
turn_more turned more items rest start last so_far is now =
    ap (λ z. z ++ reverse rest) now ∙ (append_assoc turned (last ∷ []) (reverse rest) ∙ (ap (λ z. turned ++ z) (sym (reverse-append rest (last ∷ []))) ∙ (ap (λ z. turned ++ reverse z) (sym is) ∙ so_far)))

pub turn_end : {A : Type 0} (turned items start : List A) → turned ++ reverse items ≡ start → items ≡ [] → turned ≡ start
turn_end turned items start so_far none = sym (append-nil turned) ∙ (ap (λ z. turned ++ reverse z) (sym none) ∙ so_far)
