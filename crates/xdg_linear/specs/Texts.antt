-- Arrangements as lists of texts: those that have each text as often as the words have it.
use Rattle.std.specs.Prelude.{◌≡◌, ℕ, ◌+◌, List, [], ◌∷◌, cond, length}
use Rattle.std.specs.Str.{bytes_eq}
use Rattle.xdg_problem.specs.declared.parts.SentenceWord.{SentenceWord}
use Rattle.xdg_linear.specs.Arrangements.{IsArrangement}
use Rattle.xdg_linear.specs.Ranks.{ranks_of, words_at}

-- the texts of words
abbrev pub texts_of : List SentenceWord → List (List ℕ)
texts_of [] = []
texts_of (word ∷ words) = word.text ∷ texts_of words

-- how often a text stands among others
abbrev pub text_times : List ℕ → List (List ℕ) → ℕ
text_times text [] = 0
text_times text (other ∷ others) = cond (bytes_eq other text) 1 0 + text_times text others

-- the texts have each one as often as the words have it, and so there are as many
pub record HasEachText (words : List SentenceWord) (texts : List (List ℕ)) : Type 0 where
  pub size : length texts ≡ length words
  pub each : (text : List ℕ) → text_times text texts ≡ text_times text (texts_of words)

-- the texts of an arrangement
abbrev pub texts_at : List SentenceWord → List ℕ → List (List ℕ)
texts_at words numbers = texts_of (words_at words numbers)

-- the texts of each arrangement have each one as often; any texts that do are those of an arrangement, and of no other
pub record ArrangesTexts (words : List SentenceWord) : Type 0 where
  pub right : (numbers : List ℕ) → IsArrangement (ranks_of words) numbers → HasEachText words (texts_at words numbers)
  pub every : (texts : List (List ℕ)) → HasEachText words texts → (numbers : List ℕ) × IsArrangement (ranks_of words) numbers × (texts_at words numbers ≡ texts)
  pub once : (one other : List ℕ) → IsArrangement (ranks_of words) one → IsArrangement (ranks_of words) other → texts_at words one ≡ texts_at words other
      → one ≡ other

-- any words do
abbrev pub TextsArranged : Type 0
TextsArranged = (words : List SentenceWord) → ArrangesTexts words
