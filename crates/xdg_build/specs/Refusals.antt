-- Which sentences a grammar refuses, and why.
use Rattle.std.specs.Prelude.{◌≡◌, ℕ, ◌+◌, List, [], ◌∷◌, Option, Some, None, slice_get}
use Rattle.xdg_base.specs.declared.ids.EntryNo.{EntryNo}
use Rattle.xdg_base.specs.declared.faults.Cause.{Cause}
use Rattle.xdg_base.specs.declared.faults.Cause.TheVariants as causes
use Rattle.xdg_base.specs.declared.faults.Fault.{Fault}
use Rattle.xdg_base.specs.declared.faults.Stop.{Stop}
use Rattle.xdg_base.specs.declared.faults.Stop.TheVariants as stops
use Rattle.xdg_packed.specs.Lexicon.{Lexicon, words_of, numbers_of}
use Rattle.xdg_problem.specs.declared.parts.SentenceWord.{SentenceWord}
use Rattle.xdg_build.specs.Grammars.{Grammar}
use Rattle.xdg_base.specs.Faults.{fault_reaching}

-- the fault of a word that has these entries, or what comes behind it
abbrev pub unknown_or : SentenceWord → List EntryNo → Option Fault → Option Fault
unknown_or word [] later = Some (fault_reaching causes.UnknownWord word.at 0)
unknown_or word (entry ∷ more) later = later

-- the first word that has no entry in the lexicon
abbrev pub first_unknown : Lexicon → List SentenceWord → Option Fault
first_unknown lexicon [] = None
first_unknown lexicon (word ∷ words) = unknown_or word (numbers_of (words_of lexicon) word.text) (first_unknown lexicon words)

-- the word that is one too many where that many may stand, or what else is wrong
abbrev pub too_many_or : ℕ → Cause → Option SentenceWord → Option Fault → Option Fault
too_many_or most too_many None other = other
too_many_or most too_many (Some word) other = Some (fault_reaching too_many word.at (most + 1))

-- there are words, at most that many, and each has an entry in the lexicon: the first of these that does not hold
abbrev pub refusal_within : ℕ → Cause → Lexicon → List SentenceWord → Option Fault
refusal_within most too_many lexicon [] = Some (fault_reaching causes.EmptySentence 0 0)
refusal_within most too_many lexicon (word ∷ words) = too_many_or most too_many (slice_get (word ∷ words) most) (first_unknown lexicon (word ∷ words))

-- the most words that a sentence has
abbrev pub most_words : ℕ
most_words = 128

-- why a sentence is refused
abbrev pub refusal : Grammar → List SentenceWord → Option Fault
refusal g words = refusal_within most_words causes.TooManyWords g.lexicon words

-- a sentence is refused for its fault, and for no other
abbrev pub IsRefused : Grammar → List SentenceWord → Stop → Type 0
IsRefused g words (stops.Fault f) = refusal g words ≡ Some f
IsRefused g words stops.OutOfMemory = Unit {0}
