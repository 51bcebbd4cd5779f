-- Words, as they are read.
use Rattle.std.proofs.Common.{◌≡◌, ℕ, ◌≤◌, Bool, true, false, ◌&&◌, ◌||◌, Some, List, [], ◌∷◌, ◌++◌, length, refl, sym, ◌∙◌, subst, arith}
use Rattle.std.specs.Prelude.{decimal}
use Rattle.std.specs.Char.{is_ascii_digit}
use Rattle.std.specs.Str.{chars}
use Rattle.std.proofs.Math.Logic.{inl, inr}
use Rattle.std.proofs.lemmas.Bool.{and_parts, or_cases, or_left, or_right, true≢false, false_from_ne_true}
use Rattle.xdg_ast.specs.declared.token.Kind.{Kind}
use Rattle.xdg_ast.specs.declared.token.Kind.TheVariants as k
use Rattle.xdg_base.specs.Spelling.{continues_name, quoted as quote}
use Rattle.xdg_ast.specs.Kinds.{sign_of, keyword_of, refined}
use Rattle.xdg_ast.specs.Lexemes.{lexeme}
use Rattle.xdg_ast.specs.Tokenizes.{StopsBefore, sign}
use Rattle.xdg_ast.specs.Language.{is}
use Rattle.xdg_ast.specs.Words.{Word, word_of, mark, IsSpellable}
use Rattle.xdg_ast.specs.Canon.{text_of, spelling, is_tight_behind, is_tight_before, takes_types, is_tight}
use Rattle.xdg_print.proofs.SpelledNames.{Says, says_more, is_named, named_says, name_says, name_bytes, digit_continues}
use Rattle.xdg_print.proofs.SpelledNumbers.{decimal_bytes, number_says}
use Rattle.xdg_print.proofs.SpelledQuotes.{quote_bytes, quoted_says}
use Rattle.xdg_facts.proofs.Encoded.{AreBytesOf, ascii_bytes, utf8_bytes}

-- the characters of a word
abbrev pub characters : Kind → List ℕ → ℕ → List ℕ
characters k.Name content value = content
characters k.Quoted content value = quote (chars content)
characters k.Number content value = decimal value
characters kind content value = text_of kind

abbrev pub word : Kind → List ℕ → ℕ → Word
word kind content value = record { kind = kind; content = content; value = value }

pub word_bytes : (kind : Kind) (content : List ℕ) (value : ℕ) → IsSpellable (word kind content value) → AreBytesOf (characters kind content value) (spelling (word kind content value))
unfolding spelling
word_bytes k.Name content value s = name_bytes content s.0
word_bytes k.Quoted content value s = quote_bytes (chars content) content (utf8_bytes content s.0.0)
word_bytes k.Number content value s = decimal_bytes value s.1
word_bytes kind content value s = ascii_bytes (text_of kind) refl

-- ---- each word is read

-- a word with no content and no number
says_mark : (kind : Kind) (content : List ℕ) (value : ℕ) (cs : List ℕ) (words : List Word) → content ≡ [] → value ≡ 0 → Says cs (mark kind ∷ words) → Says cs (word kind content value ∷ words)
says_mark kind content value cs words no_content no_value said =
    subst (λ c. Says cs (word kind c value ∷ words)) (sym no_content) (subst (λ v. Says cs (word kind [] v ∷ words)) (sym no_value) said)

sign_says : (kind : Kind) (c : ℕ) (content : List ℕ) (value : ℕ) (behind : List ℕ) (words : List Word) → (content ≡ []) × (value ≡ 0) → sign_of c ≡ Some kind → ((at : ℕ) (text : List ℕ) → word_of (lexeme kind at text) ≡ mark kind)
    → Says behind words → Says (c ∷ behind) (word kind content value ∷ words)
sign_says kind c content value behind words s is said more =
    says_mark kind content value (c ∷ behind) words s.0 s.1
    (says_more kind (c ∷ []) behind 0 (mark kind) words (λ at. sign c kind behind is) (omega arith) (λ at. said at _) more)

keyword_says : (kind : Kind) (text content : List ℕ) (value : ℕ) (behind : List ℕ) (words : List Word) → (content ≡ []) × (value ≡ 0) → is_named text ≡ true → refined k.Name text ≡ kind → length text ≤ 127
    → ((at : ℕ) → word_of (lexeme kind at text) ≡ mark kind) → StopsBefore continues_name behind → Says behind words → Says (text ++ behind) (word kind content value ∷ words)
keyword_says kind text content value behind words s named is short said stops more =
    says_mark kind content value (text ++ behind) words s.0 s.1 (named_says kind text behind (mark kind) words named is short said stops more)

no_digit : (behind : List ℕ) → StopsBefore continues_name behind → StopsBefore is_ascii_digit behind
no_digit [] stops = tt
no_digit (c ∷ cs) stops = false_from_ne_true (is_ascii_digit c) (λ t. true≢false (sym (digit_continues c t) ∙ stops))

-- a word is read where no name goes on behind it, if it could
pub word_says : (kind : Kind) (content : List ℕ) (value : ℕ) (behind : List ℕ) (words : List Word) → IsSpellable (word kind content value) → (is_tight_behind kind ≡ false → StopsBefore continues_name behind)
    → Says behind words → Says (characters kind content value ++ behind) (word kind content value ∷ words)
unfolding keyword_of sign_of
word_says k.Name content value behind words s stops more =
    subst (λ v. Says (content ++ behind) (word k.Name content v ∷ words)) (sym s.2) (name_says content behind words s.0 s.1.1 (stops refl) more)
word_says k.Quoted content value behind words s stops more =
    subst (λ v. Says (quote (chars content) ++ behind) (word k.Quoted content v ∷ words)) (sym s.1) (quoted_says (chars content) content behind words (utf8_bytes content s.0.0) s.0.1 more)
word_says k.Number content value behind words s stops more =
    subst (λ c. Says (decimal value ++ behind) (word k.Number c value ∷ words)) (sym s.0) (number_says value behind words s.1 (no_digit behind (stops refl)) more)
word_says k.LeftBrace content value behind words s stops more = sign_says k.LeftBrace 123 content value behind words s refl (λ at text. refl) more
word_says k.RightBrace content value behind words s stops more = sign_says k.RightBrace 125 content value behind words s refl (λ at text. refl) more
word_says k.LeftParenthesis content value behind words s stops more = sign_says k.LeftParenthesis 40 content value behind words s refl (λ at text. refl) more
word_says k.RightParenthesis content value behind words s stops more = sign_says k.RightParenthesis 41 content value behind words s refl (λ at text. refl) more
word_says k.LeftBracket content value behind words s stops more = sign_says k.LeftBracket 91 content value behind words s refl (λ at text. refl) more
word_says k.RightBracket content value behind words s stops more = sign_says k.RightBracket 93 content value behind words s refl (λ at text. refl) more
word_says k.Colon content value behind words s stops more = sign_says k.Colon 58 content value behind words s refl (λ at text. refl) more
word_says k.Ampersand content value behind words s stops more = sign_says k.Ampersand 38 content value behind words s refl (λ at text. refl) more
word_says k.Bar content value behind words s stops more = sign_says k.Bar 124 content value behind words s refl (λ at text. refl) more
word_says k.Dollar content value behind words s stops more = sign_says k.Dollar 36 content value behind words s refl (λ at text. refl) more
word_says k.Hash content value behind words s stops more = sign_says k.Hash 35 content value behind words s refl (λ at text. refl) more
word_says k.Exclamation content value behind words s stops more = sign_says k.Exclamation 33 content value behind words s refl (λ at text. refl) more
word_says k.Question content value behind words s stops more = sign_says k.Question 63 content value behind words s refl (λ at text. refl) more
word_says k.Star content value behind words s stops more = sign_says k.Star 42 content value behind words s refl (λ at text. refl) more
word_says k.Plus content value behind words s stops more = sign_says k.Plus 43 content value behind words s refl (λ at text. refl) more
word_says kind content value behind words s stops more = keyword_says kind (text_of kind) content value behind words s refl refl (omega arith) (λ at. refl) (stops refl) more

-- ---- what stands behind a word

-- the signs that stand behind other words with no space
abbrev pub is_closing : Kind → Bool
is_closing other = is_tight_before other || is k.LeftParenthesis other

pub tight_closing : (one other : Kind) → is_tight_behind one ≡ false → is_tight one other ≡ true → is_closing other ≡ true
tight_closing one other no_tight tight = elim (or_cases (is_tight_behind one || is_tight_before other) (takes_types one && is k.LeftParenthesis other) tight) as (λ _. is_closing other ≡ true) [
  | inl a ↦ elim (or_cases (is_tight_behind one) (is_tight_before other) a) as (λ _. is_closing other ≡ true) [
    | inl b ↦ absurd (true≢false (sym b ∙ no_tight))
    | inr b ↦ or_left (is_tight_before other) (is k.LeftParenthesis other) b
  ]
  | inr a ↦ or_right (is_tight_before other) (is k.LeftParenthesis other) (and_parts (takes_types one) (is k.LeftParenthesis other) a).1
]

-- no name goes on behind a word, where such a sign stands
pub closing_stops : (kind : Kind) (content : List ℕ) (value : ℕ) (behind : List ℕ) → is_closing kind ≡ true → StopsBefore continues_name (characters kind content value ++ behind)
closing_stops k.RightBrace content value behind e = refl
closing_stops _ content value behind e = cc
