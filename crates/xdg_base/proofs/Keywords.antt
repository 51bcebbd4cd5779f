-- The places at which keywords stand in their table.
use Rattle.std.proofs.Common.{◌≡◌, ℕ, List, [], ◌∷◌, Bool, true, false, ◌||◌, zero, suc, ◌<◌, arith, length, get_or, nat_lt, take, ◌+◌, ◌∙◌, bytes_eq, ap, subst, refl}
use Rattle.std.specs.List.{list_all, list_any}
use Rattle.std.proofs.lemmas.Bool.{false_from_ne_true, and_parts, or_from, or_right}
use Rattle.std.proofs.lemmas.Bool.Decides.{nat_tests}
use Rattle.std.proofs.lemmas.List.Folds.{list_any_more}
use Rattle.std.proofs.lemmas.List.Sums.{AllPass-from_list_all}
use Rattle.std.proofs.lemmas.Slice.Eq.{bytes_eq-Decides}
use Rattle.xdg_base.specs.Spelling.{is_keyword, keywords, places_of}
use Rattle.xdg_base.specs.Texts.{has_text}

abbrev pub stands_at : List ℕ → ℕ → Bool
stands_at text place = bytes_eq text (get_or keywords place [])

-- the word is met at one of the places of its length
abbrev is_met : List ℕ → Bool
is_met word = list_any (stands_at word) (places_of (length word))

all_met : list_all is_met keywords ≡ true
unfolding places_of
all_met = refl

met : (words : List (List ℕ)) (text : List ℕ) → list_all is_met words ≡ true → has_text words text ≡ true → is_met text ≡ true
met [] text all has = absurd cc
met (word ∷ words) text all has = by_word (bytes_eq word text) refl has (met words text parts.1) where
  parts : (is_met word ≡ true) × (list_all is_met words ≡ true)
  parts = and_parts (is_met word) (list_all is_met words) all

  by_word : (same : Bool) → bytes_eq word text ≡ same → (same || has_text words text) ≡ true → (has_text words text ≡ true → is_met text ≡ true) → is_met text ≡ true
  by_word true same has others = subst (λ z. is_met z ≡ true) ((bytes_eq-Decides word text).0 same) parts.0
  by_word false same has others = others has

pub no_keyword : (text : List ℕ) → is_met text ≡ false → is_keyword text ≡ false
unfolding is_keyword
no_keyword text none = false_from_ne_true (has_text keywords text) (λ has. (let is : is_met text ≡ true = met keywords text all_met has in absurd cc))

pub at_place : (words : List (List ℕ)) (place : ℕ) → place < length words → has_text words (get_or words place []) ≡ true
at_place [] place within = absurd (omega arith)
at_place (word ∷ words) zero within = ap (λ b. b || has_text words word) ((bytes_eq-Decides word word).1 refl)
at_place (word ∷ words) (suc place) within = or_right (bytes_eq word (get_or words place [])) (has_text words (get_or words place [])) (at_place words place (omega arith))

pub none_so_far : (text : List ℕ) (places : List ℕ) (k : ℕ) → k < length places → list_any (stands_at text) (take k places) ≡ false → stands_at text (get_or places k 0) ≡ false → list_any (stands_at text) (take (k + 1) places) ≡ false
none_so_far text places k within before here = list_any_more (stands_at text) places k 0 within ∙ or_from (list_any (stands_at text) (take k places)) (stands_at text (get_or places k 0)) before here

pub in_table : (places : List ℕ) (k : ℕ) → k < length places → list_all (λ place. nat_lt place (length keywords)) places ≡ true → get_or places k 0 < length keywords
in_table places k within all = (let low = AllPass-from_list_all (λ place. nat_lt place (length keywords)) places all k 0 within in grind (arith, nat_tests, low))
