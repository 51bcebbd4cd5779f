-- What is told of texts by number: where a text stands, and what one text more changes.
use Rattle.std.proofs.Common.{◌≡◌, ℕ, zero, suc, ◌<◌, ◌≤◌, ◌+◌, Bool, true, false, cond, ◌||◌, if◌then◌else◌, List, [], ◌∷◌, ◌++◌, length, get_or, map, position, Option, None, Some, is_some, option_map, unwrap_or, refl, sym, ap, subst, ◌∙◌, inl, inr, arith, true≢false}
use Rattle.std.specs.List.{list_any, position_from}
use Rattle.std.specs.Str.{bytes_eq}
use Rattle.std.proofs.lemmas.Bool.{cases_Bool, or_cases, or_left, or_right, false_from_ne_true}
use Rattle.std.proofs.lemmas.Iterator.Adapters.{position_from-zero}
use Rattle.std.proofs.lemmas.List.{map-append}
use Rattle.std.proofs.lemmas.Slice.Eq.{bytes_eq-Decides}
use Rattle.xdg_names.specs.Texts.{has_text, place_of}
use Rattle.xdg_facts.proofs.Texts.{either_way, equal}
use Rattle.xdg_facts.specs.Membership.{In, Differ}
use Rattle.xdg_facts.proofs.Truths.{none_or}
use Rattle.xdg_facts.proofs.Options.{some_later}
use Rattle.xdg_facts.proofs.In.{differ_append, in_get}

-- ---- tests and places

later : (found : Option ℕ) (place : ℕ) → option_map suc found ≡ Some place → (before : ℕ) × (found ≡ Some before) × (suc before ≡ place)
later None place e = absurd (true≢false (sym (ap is_some e)))
later (Some before) place e = (before, refl, cc)

-- the place, counted from the text with that number
abbrev pub counted_from : ℕ → Option ℕ → Option ℕ
counted_from start None = None
counted_from start (Some n) = Some (start + n)

-- ---- one list

-- what the test finds stands there, and the other way round
pub has_among : (texts : List (List ℕ)) (text : List ℕ) → has_text texts text ≡ true → In texts text
has_among [] text h = absurd (true≢false (sym h))
has_among (first ∷ texts) text h = elim (or_cases (bytes_eq first text) (has_text texts text) h) [
  | inl same ↦ inl ((bytes_eq-Decides first text).0 same)
  | inr later ↦ inr (has_among texts text later)
]

pub among_has : (texts : List (List ℕ)) (text : List ℕ) → In texts text → has_text texts text ≡ true
among_has [] text h = absurd h
among_has (first ∷ texts) text h = elim h [
  | inl same ↦ or_left (bytes_eq first text) (has_text texts text) ((bytes_eq-Decides first text).1 same)
  | inr later ↦ or_right (bytes_eq first text) (has_text texts text) (among_has texts text later)
]

pub not_among : (texts : List (List ℕ)) (text : List ℕ) → has_text texts text ≡ false → In texts text → ⊥
not_among texts text none h = true≢false (sym (among_has texts text h) ∙ none)

pub no_text : (texts : List (List ℕ)) (text : List ℕ) → (In texts text → ⊥) → has_text texts text ≡ false
no_text texts text none = false_from_ne_true (has_text texts text) (λ e. none (has_among texts text e))

-- a text has a place just if it stands there
pub is_some-place_of : (texts : List (List ℕ)) (text : List ℕ) → is_some (place_of texts text) ≡ has_text texts text
is_some-place_of [] text = refl
is_some-place_of (first ∷ texts) text = by (bytes_eq first text) (is_some-place_of texts text)
  where
    by : (b : Bool) → is_some (place_of texts text) ≡ has_text texts text → is_some (if b then Some 0 else option_map suc (place_of texts text)) ≡ (b || has_text texts text)
    by true rest = refl
    by false rest = some_later (place_of texts text) ∙ rest

-- at the place of a text stands that text
pub place_of-Some : (texts : List (List ℕ)) (text : List ℕ) (place : ℕ) → place_of texts text ≡ Some place → (place < length texts) × (get_or texts place [] ≡ text)
place_of-Some [] text place e = absurd (true≢false (sym (ap is_some e)))
place_of-Some (first ∷ texts) text place e = by (bytes_eq first text) refl (place_of-Some texts text) e
  where
    by : (b : Bool) → bytes_eq first text ≡ b → ((k : ℕ) → place_of texts text ≡ Some k → (k < length texts) × (get_or texts k [] ≡ text))
        → (if b then Some 0 else option_map suc (place_of texts text)) ≡ Some place → (place < length (first ∷ texts)) × (get_or (first ∷ texts) place [] ≡ text)
    by true here rest e =
        let z : 0 ≡ place = cc in
        (omega (arith, z), ap (λ k. get_or (first ∷ texts) k []) (sym z) ∙ (bytes_eq-Decides first text).0 here)
    by false other rest e =
        let l = later (place_of texts text) place e in
        let r = rest l.0 l.1 in
        (omega (arith, r.0, l.2), ap (λ k. get_or (first ∷ texts) k []) (sym l.2) ∙ r.1)

-- and no place is past the last
pub place_of-most : (texts : List (List ℕ)) (text : List ℕ) → unwrap_or (place_of texts text) 0 ≤ length texts
place_of-most texts text = by (place_of texts text) refl
  where
    by : (found : Option ℕ) → place_of texts text ≡ found → unwrap_or found 0 ≤ length texts
    by None e = omega arith
    by (Some place) e = let stands = place_of-Some texts text place e in omega (arith, stands.0)

pub place_of-None : (texts : List (List ℕ)) (text : List ℕ) → place_of texts text ≡ None → has_text texts text ≡ false
place_of-None texts text e = sym (is_some-place_of texts text) ∙ ap is_some e

pub None-place_of : (texts : List (List ℕ)) (text : List ℕ) → has_text texts text ≡ false → place_of texts text ≡ None
None-place_of texts text e = by (place_of texts text) (is_some-place_of texts text ∙ e)
  where
    by : (found : Option ℕ) → is_some found ≡ false → found ≡ None
    by None e = refl
    by (Some n) e = absurd (true≢false e)

-- a text that stands there has a place
pub place_of-has_text : (texts : List (List ℕ)) (text : List ℕ) → has_text texts text ≡ true → (place : ℕ) × (place_of texts text ≡ Some place)
place_of-has_text texts text e = by (place_of texts text) (is_some-place_of texts text ∙ e)
  where
    by : (found : Option ℕ) → is_some found ≡ true → (place : ℕ) × (found ≡ Some place)
    by None e = absurd (true≢false (sym e))
    by (Some n) e = (n, refl)

-- and a place at which it stands
pub has_text-stands : (texts : List (List ℕ)) (text : List ℕ) → has_text texts text ≡ true → (place : ℕ) × (place < length texts) × (get_or texts place [] ≡ text)
has_text-stands texts text e =
    let p = place_of-has_text texts text e in
    let s = place_of-Some texts text p.0 p.1 in
    (p.0, s.0, s.1)

-- what stands at a place is found
pub stands-has_text : (texts : List (List ℕ)) (text : List ℕ) (place : ℕ) → place < length texts → get_or texts place [] ≡ text → has_text texts text ≡ true
stands-has_text [] text place within is = absurd (omega (arith, within))
stands-has_text (first ∷ texts) text zero within is = ap (λ b. b || has_text texts text) ((bytes_eq-Decides first text).1 is)
stands-has_text (first ∷ texts) text (suc place) within is =
    ap (λ b. bytes_eq first text || b) (stands-has_text texts text place (omega (arith, within)) is) ∙ by (bytes_eq first text)
  where
    by : (b : Bool) → (b || true) ≡ true
    by true = refl
    by false = refl

-- ---- more texts

pub has_text-append : (texts more : List (List ℕ)) (text : List ℕ) → has_text (texts ++ more) text ≡ (has_text texts text || has_text more text)
has_text-append [] more text = refl
has_text-append (first ∷ texts) more text = by (bytes_eq first text) (has_text-append texts more text)
  where
    by : (b : Bool) → has_text (texts ++ more) text ≡ (has_text texts text || has_text more text)
        → (b || has_text (texts ++ more) text) ≡ ((b || has_text texts text) || has_text more text)
    by true rest = refl
    by false rest = rest

-- the place of a text stays where more are added
pub place_of-append_left : (texts more : List (List ℕ)) (text : List ℕ) → has_text texts text ≡ true → place_of (texts ++ more) text ≡ place_of texts text
place_of-append_left [] more text e = absurd (true≢false (sym e))
place_of-append_left (first ∷ texts) more text e = by (bytes_eq first text) (place_of-append_left texts more text) e
  where
    by : (b : Bool) → (has_text texts text ≡ true → place_of (texts ++ more) text ≡ place_of texts text) → (b || has_text texts text) ≡ true
        → (if b then Some 0 else option_map suc (place_of (texts ++ more) text)) ≡ (if b then Some 0 else option_map suc (place_of texts text))
    by true rest e = refl
    by false rest e = ap (option_map suc) (rest e)

from_zero : (found : Option ℕ) → found ≡ option_map (λ place. 0 + place) found
from_zero None = refl
from_zero (Some n) = let e : n ≡ 0 + n = omega arith in ap Some e

past_one : (count : ℕ) (found : Option ℕ) → option_map suc (option_map (λ place. count + place) found) ≡ option_map (λ place. suc count + place) found
past_one count None = refl
past_one count (Some n) = let e : suc (count + n) ≡ suc count + n = omega arith in ap Some e

-- a text that is not among the first ones is counted from their number on
pub place_of-append_right : (texts more : List (List ℕ)) (text : List ℕ) → has_text texts text ≡ false → place_of (texts ++ more) text ≡ option_map (λ place. length texts + place) (place_of more text)
place_of-append_right [] more text e = from_zero (place_of more text)
place_of-append_right (first ∷ texts) more text e =
    let n = none_or (bytes_eq first text) (has_text texts text) e in
    ap (λ b. if b then Some 0 else option_map suc (place_of (texts ++ more) text)) n.0
    ∙ ap (option_map suc) (place_of-append_right texts more text n.1)
    ∙ past_one (length texts) (place_of more text)

-- ---- texts that differ

-- they differ where a new one is added
pub differ_more : (texts : List (List ℕ)) (text : List ℕ) → Differ texts → has_text texts text ≡ false → Differ (texts ++ text ∷ [])
differ_more texts text differ none = differ_append texts (text ∷ []) differ (λ n. n, tt) (λ t i j. elim j [ inl e ↦ not_among texts text none (subst (In texts) (sym e) i) | inr n ↦ n ])

-- the place of what stands at a place is that place
pub place_of-at : (texts : List (List ℕ)) (place : ℕ) → Differ texts → place < length texts → place_of texts (get_or texts place []) ≡ Some place
place_of-at [] place differ within = absurd (omega (arith, within))
place_of-at (first ∷ texts) zero differ within = ap (λ b. if b then Some 0 else option_map suc (place_of texts first)) (equal first)
place_of-at (first ∷ texts) (suc place) differ within =
    let inside : place < length texts = omega (arith, within) in
    let text = get_or texts place [] in
    let other : bytes_eq first text ≡ false = elim (cases_Bool (bytes_eq first text)) [
      | inl e ↦ absurd (differ.0 (subst (In texts) (sym ((bytes_eq-Decides first text).0 e)) (in_get texts place [] inside)))
      | inr e ↦ e
    ] in
    ap (λ b. if b then Some 0 else option_map suc (place_of texts text)) other ∙ ap (option_map suc) (place_of-at texts place differ.1 inside)

-- they still differ where a new one is added
pub still_differ : (texts more : List (List ℕ)) (text : List ℕ) → Differ texts → has_text texts text ≡ false → more ≡ texts ++ text ∷ [] → Differ more
still_differ texts more text differ new e = subst Differ (sym e) (differ_more texts text differ new)

-- ---- keys that own texts

module _ {K : Type 0} (bytes : K → List ℕ) where
  found : (keys : List K) (text : List ℕ) → list_any (λ key. bytes_eq text (bytes key)) keys ≡ has_text (map bytes keys) text
  found [] text = refl
  found (key ∷ keys) text =
      ap (λ b. b || list_any (λ k. bytes_eq text (bytes k)) keys) (either_way text (bytes key))
      ∙ ap (λ b. bytes_eq (bytes key) text || b) (found keys text)

  counted : (keys : List K) (text : List ℕ) (start : ℕ) → position_from (λ key. bytes_eq text (bytes key)) start keys ≡ option_map (λ place. start + place) (place_of (map bytes keys) text)
  counted [] text start = refl
  counted (key ∷ keys) text start =
      ap (λ b. cond b (Some start) (position_from (λ k. bytes_eq text (bytes k)) (start + 1) keys)) (either_way text (bytes key))
      ∙ by (bytes_eq (bytes key) text) (counted keys text (start + 1))
    where
      shifted : (place : Option ℕ) → option_map (λ k. (start + 1) + k) place ≡ option_map (λ k. start + k) (option_map suc place)
      shifted None = refl
      shifted (Some n) = let e : (start + 1) + n ≡ start + suc n = omega arith in ap Some e

      by : (b : Bool) → position_from (λ k. bytes_eq text (bytes k)) (start + 1) keys ≡ option_map (λ place. (start + 1) + place) (place_of (map bytes keys) text)
          → cond b (Some start) (position_from (λ k. bytes_eq text (bytes k)) (start + 1) keys) ≡ option_map (λ place. start + place) (if b then Some 0 else option_map suc (place_of (map bytes keys) text))
      by true rest = let e : start ≡ start + 0 = omega arith in ap Some e
      by false rest = rest ∙ shifted (place_of (map bytes keys) text)

  -- where the keys own these texts
  module _ (keys : List K) (texts : List (List ℕ)) (text : List ℕ) (own : map bytes keys ≡ texts) where
    -- some key has a text just if it is one of the texts
    pub text_found : list_any (λ key. bytes_eq text (bytes key)) keys ≡ has_text texts text
    text_found = found keys text ∙ ap (λ t. has_text t text) own

    -- the place of the key that has a text
    pub text_placed : position (λ key. bytes_eq text (bytes key)) keys ≡ place_of texts text
    text_placed =
        position_from-zero (λ key. bytes_eq text (bytes key)) keys ∙ counted keys text 0
        ∙ sym (from_zero (place_of (map bytes keys) text)) ∙ ap (λ t. place_of t text) own

    -- a key with a new text goes last
    pub text_added : (more : List K) (key : K) → bytes key ≡ text → has_text texts text ≡ false
        → more ≡ (if list_any (λ k. bytes_eq (bytes key) (bytes k)) keys then keys else keys ++ key ∷ []) → map bytes more ≡ texts ++ text ∷ []
    text_added more key is new e =
        let none : list_any (λ k. bytes_eq (bytes key) (bytes k)) keys ≡ false = ap (λ t. list_any (λ k. bytes_eq t (bytes k)) keys) is ∙ text_found ∙ new in
        ap (map bytes) (e ∙ ap (λ b. if b then keys else keys ++ key ∷ []) none)
        ∙ map-append bytes keys (key ∷ [])
        ∙ ap (λ t. map bytes keys ++ t ∷ []) is
        ∙ ap (λ t. t ++ text ∷ []) own
