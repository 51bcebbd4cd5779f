-- The words of a text by the Unicode rules of word boundaries.
use Rattle.std.specs.Prelude.{ℕ, Bool, List, [], ◌∷◌, ◌++◌, cond}
use Rattle.std.specs.Char.{is_whitespace}
use Rattle.std.specs.List.{list_all}
use Rattle.std.specs.Str.{chars}
use Rattle.unicode_segmentation.specs.Segments.{with_offsets}
use Rattle.unicode_segmentation.specs.Word.{word_bounds}
use Rattle.xdg_problem.specs.declared.parts.SentenceWord.{SentenceWord}
use Rattle.xdg_linear.specs.Words.{word, words}

-- a text has no character but white space
abbrev pub is_white : List ℕ → Bool
is_white text = list_all is_whitespace (chars text)

-- the word that a piece makes, and none where it is white space
abbrev pub dark : ℕ → List ℕ → List SentenceWord
dark at piece = cond (is_white piece) [] (word at piece ∷ [])

-- the same of pieces with their byte places
abbrev pub all_dark : List (ℕ × List ℕ) → List SentenceWord
all_dark [] = []
all_dark (piece ∷ pieces) = dark piece.0 piece.1 ++ all_dark pieces

-- the pieces of a text between its word boundaries that have a character which is not white space
abbrev pub segments : List ℕ → List SentenceWord
segments text = all_dark (with_offsets 0 (word_bounds text))

-- the words of a text: between white space, or between word boundaries
abbrev pub words_in : Bool → List ℕ → List SentenceWord
words_in segment text = cond segment (segments text) (words text)
