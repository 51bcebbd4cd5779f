-- What an escaped text is made of.
use Rattle.std.proofs.Common.{◌≡◌, ◌<◌, ◌∙◌, ℕ, List, true, false, [], ◌∷◌, ◌++◌, length, get_or, ap, sym, arith, append_assoc, append-nil}
use Rattle.std.specs.Char.{encode_utf8}
use Rattle.std.specs.List.{flat_map}
use Rattle.std.proofs.lemmas.Bool.{true≢false, false_from_ne_true}
use Rattle.std.proofs.lemmas.List.Folds.{list_any_none}
use Rattle.std.proofs.lemmas.Grind.{flat_map-append}
use Rattle.std.proofs.lemmas.Str.{inside_one}
use Rattle.xdg_base.specs.Spelling.{is_escaped, escaped}
use Rattle.xdg_base.proofs.Names.{escaped_is, unescaped, nothing_escaped}
use Rattle.xdg_facts.proofs.Lists.{any_default}

-- a text with a backslash before each quotation mark and each backslash
abbrev pub escape : List ℕ → List ℕ
escape = flat_map escaped

pub escapable_low : (c : ℕ) → is_escaped c ≡ true → c < 128
escapable_low c e = grind (arith, e)

pub escape_taken : (c : ℕ) (cs : List ℕ) → is_escaped c ≡ true → escape (c ∷ cs) ≡ 92 ∷ c ∷ escape cs
escape_taken c cs e = ap (λ l. l ++ escape cs) (escaped_is c e)

pub escape_left : (c : ℕ) (cs : List ℕ) → is_escaped c ≡ false → escape (c ∷ cs) ≡ c ∷ escape cs
escape_left c cs e = ap (λ l. l ++ escape cs) (unescaped c e)

no_escape_inside : (c i : ℕ) → is_escaped c ≡ false → i < length (encode_utf8 c) → is_escaped (get_or (encode_utf8 c) i 0) ≡ false
no_escape_inside c i e within =
    false_from_ne_true (is_escaped (get_or (encode_utf8 c) i 0)) (λ t.
    let same : c ≡ get_or (encode_utf8 c) i 0 = inside_one c [] (encode_utf8 c) i (sym (append-nil (encode_utf8 c))) within (escapable_low (get_or (encode_utf8 c) i 0) t) in
    true≢false (sym t ∙ ap is_escaped (sym same) ∙ e))

-- a character that is neither a quotation mark nor a backslash stands as it is
pub character_kept : (c : ℕ) → is_escaped c ≡ false → escape (encode_utf8 c) ≡ encode_utf8 c
character_kept c e = nothing_escaped (encode_utf8 c) (list_any_none is_escaped (encode_utf8 c) (λ i d within. (let same = any_default (encode_utf8 c) i d 0 within in ap is_escaped same ∙ no_escape_inside c i e within)))

-- one more character was added
pub next_character : (start made new text rest after : List ℕ) (c : ℕ) → new ≡ made ++ escape (encode_utf8 c) → made ++ escape rest ≡ start ++ escape text → rest ≡ encode_utf8 c ++ after → new ++ escape after ≡ start ++ escape text
next_character start made new text rest after c added so_far parts =
    ap (λ z. z ++ escape after) added ∙ append_assoc made (escape (encode_utf8 c)) (escape after)
    ∙ ap (λ z. made ++ z) (sym (ap escape parts ∙ flat_map-append escaped (encode_utf8 c) after)) ∙ so_far

pub all_escaped : (start made text rest : List ℕ) → made ++ escape rest ≡ start ++ escape text → length rest ≡ 0 → made ≡ start ++ escape text
all_escaped start made text [] so_far none = sym (append-nil made) ∙ so_far
all_escaped start made text (c ∷ rest) so_far none = absurd (omega (arith, none))
