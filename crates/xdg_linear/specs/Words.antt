-- The words of a text.
use Rattle.std.specs.Prelude.{ℕ, ◌+◌, ◌<◌, ◌≤◌, ◌==◌, cond, List, [], ◌∷◌, ◌++◌, length}
use Rattle.std.specs.Char.{encode_utf8, is_whitespace, len_utf8}
use Rattle.std.specs.Str.{chars, NoCharPasses}
use Rattle.xdg_problem.specs.declared.parts.SentenceWord.{SentenceWord}

abbrev pub word : ℕ → List ℕ → SentenceWord
word at text = record { text = text; at = at }

-- the word that a text makes alone, and none where the text is empty
abbrev pub alone : ℕ → List ℕ → List SentenceWord
alone at [] = []
alone at (byte ∷ bytes) = word at (byte ∷ bytes) ∷ []

-- a piece of a word with the words behind it: it goes on in the first of them if that begins where the piece
-- ends, and else is a word of its own
abbrev pub joined : ℕ → List ℕ → List SentenceWord → List SentenceWord
joined at piece [] = word at piece ∷ []
joined at piece (next ∷ words) = cond (next.at == at + length piece) (word at (piece ++ next.text) ∷ words) (word at piece ∷ next ∷ words)

-- the words of the characters that stand at a byte place and behind it
abbrev pub words_from : ℕ → List ℕ → List SentenceWord
words_from at [] = []
words_from at (c ∷ cs) = cond (is_whitespace c) (words_from (at + len_utf8 c) cs) (joined at (encode_utf8 c) (words_from (at + len_utf8 c) cs))

-- the maximal runs of characters of a text that are not white space
abbrev pub words : List ℕ → List SentenceWord
words text = words_from 0 (chars text)

-- a word is not empty and has no white space
pub record IsWord (w : SentenceWord) : Type 0 where
  pub some : 0 < length w.text
  pub black : NoCharPasses is_whitespace w.text

-- a word stands in the text
abbrev pub StandsIn : List ℕ → SentenceWord → Type 0
StandsIn text w = w.at + length w.text ≤ length text

-- each word ends before the next begins, and something stands between
abbrev pub StandApart : List SentenceWord → Type 0
StandApart [] = Unit {0}
StandApart (w ∷ []) = Unit {0}
StandApart (w ∷ next ∷ more) = (w.at + length w.text < next.at) × StandApart (next ∷ more)
