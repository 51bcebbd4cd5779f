-- The ranks of words, and the words at ranks.
use Rattle.std.specs.Prelude.{ℕ, ◌+◌, List, [], ◌∷◌, cond, map, filter_map, slice_get}
use Rattle.std.specs.Str.{bytes_eq}
use Rattle.xdg_problem.specs.declared.parts.SentenceWord.{SentenceWord}

-- how many words stand before the first with a text
abbrev pub rank_of : List SentenceWord → List ℕ → ℕ
rank_of [] text = 0
rank_of (word ∷ words) text = cond (bytes_eq word.text text) 0 (1 + rank_of words text)

-- the rank of each word, in the order of the input: how many stand before the first of its text
abbrev pub ranks_of : List SentenceWord → List ℕ
ranks_of words = map (λ word. rank_of words word.text) words

-- the words that stand at ranks, in the order of these
abbrev pub words_at : List SentenceWord → List ℕ → List SentenceWord
words_at words ranks = filter_map (λ rank. slice_get words rank) ranks
