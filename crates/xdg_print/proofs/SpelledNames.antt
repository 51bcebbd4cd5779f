-- Names and keywords, as they are read.
use Rattle.std.proofs.Common.{◌≡◌, ℕ, ◌+◌, ◌≤◌, Bool, true, false, ◌&&◌, Option, Some, None, List, [], ◌∷◌, ◌++◌, length, map, refl, sym, ◌∙◌, ap, subst, arith}
use Rattle.std.specs.Prelude.{◌||◌, if◌then◌else◌, not, nat_lt, is_none, unwrap_or, bytes_eq}
use Rattle.std.specs.Char.{is_ascii, is_ascii_digit}
use Rattle.std.specs.List.{list_all}
use Rattle.std.specs.Str.{encode_utf8_all}
use Rattle.std.proofs.lemmas.Bool.{and_parts, and_from, cond_both, true≢false}
use Rattle.xdg_ast.specs.declared.token.Kind.{Kind}
use Rattle.xdg_ast.specs.declared.token.Kind.TheVariants as k
use Rattle.xdg_base.specs.Spelling.{keywords, is_keyword, begins_name, continues_name, is_name}
use Rattle.xdg_base.specs.Texts.{has_text}
use Rattle.xdg_ast.specs.Kinds.{keyword_kinds, kind_among, keyword_of, refined}
use Rattle.xdg_ast.specs.Language.{number}
use Rattle.xdg_ast.specs.Lexemes.{Lexeme, lexeme}
use Rattle.xdg_ast.specs.Tokenizes.{size_of, StopsBefore, IsToken, name, Tokenizes, token}
use Rattle.xdg_ast.specs.Words.{Word, word_of, IsSpellable}
use Rattle.xdg_facts.proofs.Texts.{either_way}
use Rattle.xdg_print.proofs.SpelledTexts.{each_passes}
use Rattle.xdg_facts.proofs.Encoded.{AreBytesOf, ascii_bytes, weaker_test, bytes_utf8}

-- ---- the tokens of characters that begin at a place

-- the characters spell tokens that say these words
abbrev pub Says : List ℕ → List Word → Type 0
Says cs words = (at : ℕ) → (us : List Lexeme) × Tokenizes 127 at cs us × (map word_of us ≡ words)

-- one more token in front
pub says_more : (kind : Kind) (piece behind : List ℕ) (content : ℕ) (word : Word) (words : List Word) → ((at : ℕ) → IsToken at kind piece content behind) → content ≤ 127
    → ((at : ℕ) → word_of (lexeme kind at (encode_utf8_all piece)) ≡ word) → Says behind words → Says (piece ++ behind) (word ∷ words)
says_more kind piece behind content word words is short said more at =
    let rest = more (at + size_of piece) in
    (lexeme kind at (encode_utf8_all piece) ∷ rest.0, token at kind piece content behind rest.0 (is at) short rest.1, ap (λ w. w ∷ map word_of rest.0) (said at) ∙ ap (λ ws. word ∷ ws) rest.2)

-- ---- the characters of names

pub begin_ascii : (c : ℕ) → begins_name c ≡ true → is_ascii c ≡ true
begin_ascii c b = grind (arith, b)

pub continue_ascii : (c : ℕ) → continues_name c ≡ true → is_ascii c ≡ true
continue_ascii c b = grind (arith, b)

pub digit_continues : (c : ℕ) → is_ascii_digit c ≡ true → continues_name c ≡ true
digit_continues c b = grind (arith, b)

-- characters as those of names
abbrev pub is_named : List ℕ → Bool
is_named [] = false
is_named (c ∷ cs) = begins_name c && list_all continues_name cs

pub named_bytes : (cs : List ℕ) → is_named cs ≡ true → AreBytesOf cs cs
named_bytes [] a = absurd (true≢false (sym a))
named_bytes (c ∷ cs) a =
    let parts = and_parts (begins_name c) (list_all continues_name cs) a in
    ascii_bytes (c ∷ cs) (and_from (is_ascii c) (list_all is_ascii cs) (begin_ascii c parts.0) (weaker_test continues_name is_ascii continue_ascii cs parts.1))

-- a name or a keyword with no character of a name behind it
pub named_token : (kind : Kind) (cs behind : List ℕ) → is_named cs ≡ true → refined k.Name cs ≡ kind → StopsBefore continues_name behind → (at : ℕ) → IsToken at kind cs (length cs) behind
named_token kind [] behind a is stops at = absurd (true≢false (sym a))
named_token kind (c ∷ cs) behind a is stops at =
    let parts = and_parts (begins_name c) (list_all continues_name cs) a in
    let same : encode_utf8_all (c ∷ cs) ≡ c ∷ cs = (named_bytes (c ∷ cs) a).encoded in
    subst (λ n. IsToken at kind (c ∷ cs) n behind) (ap length same)
    (subst (λ kind. IsToken at kind (c ∷ cs) (size_of (c ∷ cs)) behind) (ap (refined k.Name) same ∙ is)
    (name c cs behind parts.0 (each_passes continues_name cs parts.1) stops))

-- a name or a keyword is read
pub named_says : (kind : Kind) (cs behind : List ℕ) (word : Word) (words : List Word) → is_named cs ≡ true → refined k.Name cs ≡ kind → length cs ≤ 127 → ((at : ℕ) → word_of (lexeme kind at cs) ≡ word)
    → StopsBefore continues_name behind → Says behind words → Says (cs ++ behind) (word ∷ words)
named_says kind cs behind word words a is short said stops =
    says_more kind cs behind (length cs) word words (named_token kind cs behind a is stops) short
    (λ at. subst (λ text. word_of (lexeme kind at text) ≡ word) (sym (named_bytes cs a).encoded) (said at))

-- ---- names

one_among : (test : Bool) (kind : Kind) (found : Option Kind) (other : Bool) → is_none found ≡ not other → is_none (if test then Some kind else found) ≡ not (test || other)
one_among true kind found other e = refl
one_among false kind found other e = e

-- a text has no kind where it stands nowhere among the texts
none_among : (texts : List (List ℕ)) (kinds : List Kind) (text : List ℕ) → length texts ≡ length kinds → is_none (kind_among texts kinds text) ≡ not (has_text texts text)
none_among [] kinds text e = refl
none_among (word ∷ words) [] text e = absurd (omega (arith, e))
none_among (word ∷ words) (kind ∷ kinds) text e =
    one_among (bytes_eq text word) kind (kind_among words kinds text) (has_text words text) (none_among words kinds text (omega (arith, e)))
    ∙ ap (λ b. not (b || has_text words text)) (either_way text word)

no_kind : (text : List ℕ) → is_none (keyword_of text) ≡ not (is_keyword text)
unfolding keyword_of is_keyword
no_kind text = none_among keywords keyword_kinds text refl

name_parts : (cs : List ℕ) → is_name cs ≡ true → (is_named cs ≡ true) × (is_none (keyword_of cs) ≡ true)
name_parts [] a = absurd (true≢false (sym a))
name_parts (c ∷ cs) a = let parts = and_parts (is_named (c ∷ cs)) (not (is_keyword (c ∷ cs))) a in (parts.0, no_kind (c ∷ cs) ∙ parts.1)

name_from : (cs : List ℕ) → is_named cs ≡ true → is_none (keyword_of cs) ≡ true → is_name cs ≡ true
name_from [] a none = a
name_from (c ∷ cs) a none = and_from (is_named (c ∷ cs)) (not (is_keyword (c ∷ cs))) a (sym (no_kind (c ∷ cs)) ∙ none)

no_keyword : (found : Option Kind) → is_none found ≡ true → unwrap_or found k.Name ≡ k.Name
no_keyword None none = refl
no_keyword (Some kind) none = absurd (true≢false (sym none))

pub name_bytes : (text : List ℕ) → is_name text ≡ true → AreBytesOf text text
name_bytes text is = named_bytes text (name_parts text is).0

-- a name that is no keyword is read
pub name_says : (text behind : List ℕ) (words : List Word) → is_name text ≡ true → length text ≤ 127 → StopsBefore continues_name behind → Says behind words
    → Says (text ++ behind) (record { kind = k.Name; content = text; value = 0 } ∷ words)
name_says text behind words is short stops more =
    let parts = name_parts text is in
    named_says k.Name text behind (record { kind = k.Name; content = text; value = 0 }) words parts.0 (no_keyword (keyword_of text) parts.1) short (λ at. refl) stops more

-- ---- what is said by a token of a name

-- the word of a token of this kind, if there is one, can be spelled whatever its characters
abbrev pub IsMark : Option Kind → Type 0
IsMark None = Unit {0}
IsMark (Some kind) = (at : ℕ) (text : List ℕ) → IsSpellable (word_of (lexeme kind at text))

mark_spelled : (kind : Kind) → nat_lt 2 (number kind) ≡ true → IsMark (Some kind)
mark_spelled k.Name e = absurd (true≢false (sym e))
mark_spelled k.Quoted e = absurd (true≢false (sym e))
mark_spelled k.Number e = absurd (true≢false (sym e))
mark_spelled kind e = λ at text. (refl, refl)

mark_among : (texts : List (List ℕ)) (kinds : List Kind) (text : List ℕ) → list_all (λ kind. nat_lt 2 (number kind)) kinds ≡ true → IsMark (kind_among texts kinds text)
mark_among [] kinds text e = tt
mark_among (word ∷ words) [] text e = tt
mark_among (word ∷ words) (kind ∷ kinds) text e =
    let parts = and_parts (nat_lt 2 (number kind)) (list_all (λ kind. nat_lt 2 (number kind)) kinds) e in
    cond_both (bytes_eq text word) _ _ IsMark (λ _. mark_spelled kind parts.0) (λ _. mark_among words kinds text parts.1)

keyword_mark : (text : List ℕ) → IsMark (keyword_of text)
unfolding keyword_of
keyword_mark text = mark_among keywords keyword_kinds text refl

found_spelled : (found : Option Kind) (at : ℕ) (text : List ℕ) → keyword_of text ≡ found → IsMark found → is_named text ≡ true → length text ≤ 127 → IsSpellable (word_of (lexeme (unwrap_or found k.Name) at text))
found_spelled None at text is marked named short =
    (name_from text named (ap is_none is), (bytes_utf8 text text (named_bytes text named), short), refl)
found_spelled (Some kind) at text is marked named short = marked at text

-- the word of a token with the characters of a name can be spelled
pub named_spelled : (at : ℕ) (cs : List ℕ) → is_named cs ≡ true → size_of cs ≤ 127 → IsSpellable (word_of (lexeme (refined k.Name (encode_utf8_all cs)) at (encode_utf8_all cs)))
named_spelled at cs named short =
    let same : encode_utf8_all cs ≡ cs = (named_bytes cs named).encoded in
    subst (λ text. IsSpellable (word_of (lexeme (refined k.Name text) at text))) (sym same)
    (found_spelled (keyword_of cs) at cs refl (keyword_mark cs) named (omega (arith, short, ap length same)))
