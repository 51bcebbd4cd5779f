-- What tokens say, whatever their places and their spelling: their kinds, with the constants and the numbers that they stand for.
use Rattle.std.specs.Prelude.{◌≡◌, ◌≤◌, ℕ, true, if◌then◌else◌, List, [], ◌∷◌, length, IsUtf8}
use Rattle.xdg_ast.specs.declared.token.Kind.{Kind}
use Rattle.xdg_ast.specs.declared.token.Kind.TheVariants as k
use Rattle.xdg_ast.specs.Lexemes.{Lexeme}
use Rattle.xdg_ast.specs.Contents.{content_of, value_of}
use Rattle.xdg_base.specs.Spelling.{is_name}
use Rattle.xdg_ast.specs.Language.{is}
use Rattle.xdg_ast.specs.Grammar.{is_constant}

pub record Word : Type 0 where
  pub kind : Kind
  pub content : List ℕ
  pub value : ℕ

-- what a token says
abbrev pub word_of : Lexeme → Word
word_of token = record {
  kind = token.kind;
  content = if is_constant token.kind then content_of token.kind token.text else [];
  value = if is k.Number token.kind then value_of token.text else 0;
}

-- ---- words by what they say

-- a keyword or a sign
abbrev pub mark : Kind → Word
mark kind = record { kind = kind; content = []; value = 0 }

abbrev pub number : ℕ → Word
number n = record { kind = k.Number; content = []; value = n }

abbrev pub quoted : List ℕ → Word
quoted text = record { kind = k.Quoted; content = text; value = 0 }

-- a constant, as a name where it can be one
abbrev pub constant : List ℕ → Word
constant text = record { kind = if is_name text then k.Name else k.Quoted; content = text; value = 0 }

-- ---- words that can be written and read again

-- a text of characters, with at most 127 bytes
abbrev pub IsShortText : List ℕ → Type 0
IsShortText text = IsUtf8 text × (length text ≤ 127)

-- the constant or the number of a word is one that a token can have
abbrev pub IsSpellable : Word → Type 0
IsSpellable word = elim word.kind as (λ _. Type 0) [
  | k.Name ↦ (is_name word.content ≡ true) × IsShortText word.content × (word.value ≡ 0)
  | k.Quoted ↦ IsShortText word.content × (word.value ≡ 0)
  | k.Number ↦ (word.content ≡ []) × (word.value ≤ 4294967295)
  | kind ↦ (word.content ≡ []) × (word.value ≡ 0)
]

abbrev pub AreSpellable : List Word → Type 0
AreSpellable [] = Unit {0}
AreSpellable (word ∷ words) = IsSpellable word × AreSpellable words
