-- Quoted texts, as they are read.
use Rattle.std.proofs.Common.{◌≡◌, ℕ, ◌+◌, ◌≤◌, ◌==◌, true, false, Option, None, List, [], ◌∷◌, ◌++◌, length, refl, sym, ◌∙◌, ap, subst, arith, append_assoc, append-nil, length-append}
use Rattle.std.specs.Char.{encode_utf8, len_utf8}
use Rattle.std.specs.Str.{all_scalars, encode_utf8_all}
use Rattle.std.proofs.lemmas.Bool.{and_parts, and_from, or_parts, cond_both, cond-false, cases_Bool}
use Rattle.std.proofs.lemmas.Grind.{flat_map-append}
use Rattle.std.proofs.lemmas.Option.{none-some}
use Rattle.std.proofs.lemmas.Str.{chars-encodes, encode_ascii, encodes-append, length-encode, len_utf8_ascii}
use Rattle.xdg_base.specs.Spelling.{is_escaped, escaped as escaped_byte, quoted as quote}
use Rattle.xdg_ast.specs.declared.token.Kind.TheVariants as k
use Rattle.xdg_ast.specs.Contents.{undone, unquoted}
use Rattle.xdg_ast.specs.Lexemes.{lexeme}
use Rattle.xdg_ast.specs.Tokenizes.{size_of, IsInside, nothing, plain, escaped, stray, IsToken, quoted}
use Rattle.std.proofs.Math.Logic.{inl, inr}
use Rattle.xdg_ast.specs.Words.{Word, word_of, IsShortText, IsSpellable}
use Rattle.xdg_print.proofs.Escaping.{escape, escapable_low, escape_taken, escape_left, character_kept}
use Rattle.xdg_print.proofs.SpelledNames.{Says, says_more}
use Rattle.xdg_facts.proofs.Encoded.{AreBytesOf, scalars_append, scalars_split}

-- ---- characters that are escaped

-- the bytes of escaped characters are the escaped bytes
encode_escape : (cs : List ℕ) → encode_utf8_all (escape cs) ≡ escape (encode_utf8_all cs)
unfolding encode_utf8
encode_escape [] = refl
encode_escape (c ∷ cs) = elim (cases_Bool (is_escaped c)) as (λ _. encode_utf8_all (escape (c ∷ cs)) ≡ escape (encode_utf8_all (c ∷ cs))) [
  | inl t ↦
      let one : encode_utf8 c ≡ c ∷ [] = encode_ascii c (escapable_low c t) in
      ap encode_utf8_all (escape_taken c cs t) ∙ ap (λ l. 92 ∷ (l ++ encode_utf8_all (escape cs))) one ∙ ap (λ l. 92 ∷ c ∷ l) (encode_escape cs)
      ∙ sym (ap (λ l. escape (l ++ encode_utf8_all cs)) one ∙ escape_taken c (encode_utf8_all cs) t)
  | inr f ↦ ap encode_utf8_all (escape_left c cs f) ∙ ap (λ l. encode_utf8 c ++ l) (encode_escape cs)
      ∙ sym (flat_map-append escaped_byte (encode_utf8 c) (encode_utf8_all cs) ∙ ap (λ l. l ++ escape (encode_utf8_all cs)) (character_kept c f))
]

scalars_escape : (cs : List ℕ) → all_scalars cs ≡ true → all_scalars (escape cs) ≡ true
scalars_escape [] a = refl
scalars_escape (c ∷ cs) a =
    let parts = and_parts _ (all_scalars cs) a in
    let one : all_scalars (c ∷ []) ≡ true = and_from _ true parts.0 refl in
    scalars_append (escaped_byte c) (escape cs) (cond_both (is_escaped c) (92 ∷ c ∷ []) (c ∷ []) (λ l. all_scalars l ≡ true) (λ _. one) (λ _. one)) (scalars_escape cs parts.1)

-- ---- what escaped characters stand for

inside_next : (start : ℕ) (before added : List ℕ) (content size c : ℕ) (cs : List ℕ) → escape (c ∷ cs) ≡ added ++ escape cs → len_utf8 c ≡ size → IsInside start ((before ++ added) ++ escape cs) ((content + size) + size_of cs) None
    → IsInside start (before ++ escape (c ∷ cs)) (content + size_of (c ∷ cs)) None
inside_next start before added content size c cs is long more =
    let all : (content + size) + size_of cs ≡ content + size_of (c ∷ cs) = omega (arith, length-append (encode_utf8 c) (encode_utf8_all cs), length-encode c, long) in
    subst (λ n. IsInside start (before ++ escape (c ∷ cs)) n None) all
    (subst (λ l. IsInside start l ((content + size) + size_of cs) None) (append_assoc before added (escape cs) ∙ ap (λ l. before ++ l) (sym is)) more)

-- escaped characters go on the inside of a quoted text
inside_more : (start : ℕ) (before : List ℕ) (content : ℕ) (cs : List ℕ) → IsInside start before content None → IsInside start (before ++ escape cs) (content + size_of cs) None
inside_more start before content [] is = subst (λ l. IsInside start l (content + 0) None) (sym (append-nil before)) (subst (λ n. IsInside start before n None) (omega arith) is)
inside_more start before content (c ∷ cs) is = elim (cases_Bool (is_escaped c)) as (λ _. IsInside start (before ++ escape (c ∷ cs)) (content + size_of (c ∷ cs)) None) [
  | inl t ↦ inside_next start before (92 ∷ c ∷ []) content 1 c cs (escape_taken c cs t) (len_utf8_ascii c (escapable_low c t)) (inside_more start (before ++ 92 ∷ c ∷ []) (content + 1) cs (escaped before content None c is t))
  | inr f ↦ inside_next start before (c ∷ []) content (len_utf8 c) c cs (escape_left c cs f) refl (inside_more start (before ++ c ∷ []) (content + len_utf8 c) cs (plain before content None c is f))
]

undone_plain : (c : ℕ) (cs : List ℕ) → is_escaped c ≡ false → undone false (c ∷ cs) ≡ c ∷ undone false cs
undone_plain c cs f =
    let parts = or_parts (c == 34) (c == 92) f in
    cond-false (c == 34) _ _ parts.0 ∙ cond-false (c == 92) _ _ parts.1

undone_escape : (cs behind : List ℕ) → undone false (escape cs ++ behind) ≡ cs ++ undone false behind
undone_escape [] behind = refl
undone_escape (c ∷ cs) behind = elim (cases_Bool (is_escaped c)) as (λ _. undone false (escape (c ∷ cs) ++ behind) ≡ c ∷ (cs ++ undone false behind)) [
  | inl t ↦ ap (λ l. undone false (l ++ behind)) (escape_taken c cs t) ∙ ap (λ l. c ∷ l) (undone_escape cs behind)
  | inr f ↦ ap (λ l. undone false (l ++ behind)) (escape_left c cs f) ∙ undone_plain c (escape cs ++ behind) f ∙ ap (λ l. c ∷ l) (undone_escape cs behind)
]

-- ---- quoted texts

scalars_quote : (cs : List ℕ) → all_scalars cs ≡ true → all_scalars (quote cs) ≡ true
scalars_quote cs a = scalars_append (escape cs) (34 ∷ []) (scalars_escape cs a) refl

pub quote_bytes : (cs bytes : List ℕ) → AreBytesOf cs bytes → AreBytesOf (quote cs) (quote bytes)
unfolding encode_utf8
quote_bytes cs bytes a = record {
  scalars = scalars_quote cs a.scalars;
  encoded = ap (λ l. 34 ∷ l) (encodes-append (escape cs) (34 ∷ []) ∙ ap (λ l. l ++ 34 ∷ []) (encode_escape cs ∙ ap escape a.encoded));
}

unquoted_quote : (cs : List ℕ) → all_scalars cs ≡ true → unquoted (encode_utf8_all (quote cs)) ≡ encode_utf8_all cs
unquoted_quote cs a =
    ap (λ l. encode_utf8_all (undone false l)) (chars-encodes (quote cs) (scalars_quote cs a)) ∙ ap encode_utf8_all (undone_escape cs (34 ∷ []) ∙ append-nil cs)

quote_token : (cs behind : List ℕ) (at : ℕ) → IsToken at k.Quoted (quote cs) (size_of cs) behind
quote_token cs behind at = quoted (escape cs) (size_of cs) behind (subst (λ n. IsInside (at + 1) (escape cs) n None) (omega arith) (inside_more (at + 1) [] 0 cs nothing))

-- a quoted text is read
pub quoted_says : (cs content behind : List ℕ) (words : List Word) → AreBytesOf cs content → length content ≤ 127 → Says behind words
    → Says (quote cs ++ behind) (record { kind = k.Quoted; content = content; value = 0 } ∷ words)
quoted_says cs content behind words a short more =
    says_more k.Quoted (quote cs) behind (size_of cs) (record { kind = k.Quoted; content = content; value = 0 }) words (quote_token cs behind) (omega (arith, short, ap length a.encoded))
    (λ at. ap (λ text. record { kind = k.Quoted; content = text; value = 0 }) (unquoted_quote cs a.scalars ∙ a.encoded)) more

-- ---- what is said by a token of a quoted text

-- what the inside of a quoted text stands for, with anything behind it
record StandsFor (inside : List ℕ) (content : ℕ) : Type 0 where
  made : List ℕ
  makes : (behind : List ℕ) → undone false (inside ++ behind) ≡ made ++ undone false behind
  size : size_of made ≡ content
  kept : all_scalars inside ≡ true → all_scalars made ≡ true

one_stands : (inside : List ℕ) (content : ℕ) (c : ℕ) (added : List ℕ) (bytes : ℕ) → StandsFor inside content → ((behind : List ℕ) → undone false (added ++ behind) ≡ c ∷ undone false behind) → len_utf8 c ≡ bytes
    → (all_scalars added ≡ true → all_scalars (c ∷ []) ≡ true) → StandsFor (inside ++ added) (content + bytes)
one_stands inside content c added bytes s makes size kept = record {
  made = s.made ++ c ∷ [];
  makes = λ behind. ap (undone false) (append_assoc inside added behind) ∙ s.makes (added ++ behind) ∙ ap (λ l. s.made ++ l) (makes behind) ∙ sym (append_assoc s.made (c ∷ []) (undone false behind));
  size = omega (arith, ap length (encodes-append s.made (c ∷ [])), length-append (encode_utf8_all s.made) (encode_utf8_all (c ∷ [])), length-append (encode_utf8 c) [], length-encode c, s.size, size);
  kept = λ a. scalars_append s.made (c ∷ []) (s.kept (scalars_split inside added a).0) (kept (scalars_split inside added a).1);
}

stands_for : (start : ℕ) (inside : List ℕ) (content : ℕ) (wrong : Option ℕ) → IsInside start inside content wrong → wrong ≡ None → StandsFor inside content
stands_for start inside content wrong nothing = λ none. record { made = []; makes = λ behind. refl; size = refl; kept = λ a. refl }
stands_for start inside content wrong (plain cs n other c is e) = λ none. one_stands cs n c (c ∷ []) (len_utf8 c) (stands_for start cs n other is none) (λ behind. undone_plain c behind e) refl (λ a. a)
stands_for start inside content wrong (escaped cs n other c is e) = λ none.
    one_stands cs n c (92 ∷ c ∷ []) 1 (stands_for start cs n other is none) (λ behind. refl) (len_utf8_ascii c (escapable_low c e)) (λ a. a)
stands_for start inside content wrong (stray cs n other c is e) = λ none. absurd (none-some _ (sym none))

-- the word of a quoted text can be spelled
pub quoted_spelled : (at : ℕ) (inside : List ℕ) (content : ℕ) → IsInside (at + 1) inside content None → content ≤ 127 → all_scalars (34 ∷ inside ++ 34 ∷ []) ≡ true
    → IsSpellable (word_of (lexeme k.Quoted at (encode_utf8_all (34 ∷ inside ++ 34 ∷ []))))
quoted_spelled at inside content is short a =
    let s = stands_for (at + 1) inside content None is refl in
    let same : unquoted (encode_utf8_all (34 ∷ inside ++ 34 ∷ [])) ≡ encode_utf8_all s.made =
    ap (λ l. encode_utf8_all (undone false l)) (chars-encodes (34 ∷ inside ++ 34 ∷ []) a) ∙ ap encode_utf8_all (s.makes (34 ∷ []) ∙ append-nil s.made) in
    let good : IsShortText (encode_utf8_all s.made) = ((s.made, (s.kept (scalars_split inside (34 ∷ []) a).0, refl)), omega (arith, s.size, short)) in
    (subst IsShortText (sym same) good, refl)
