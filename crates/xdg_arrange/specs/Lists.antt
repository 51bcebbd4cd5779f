-- Which inputs are words to arrange, and with which fault the others are refused.
use Rattle.std.specs.Prelude.{◌≡◌, ℕ, Bool, List, Option, Some}
use Rattle.xdg_base.specs.declared.faults.Cause.TheVariants as causes
use Rattle.xdg_base.specs.declared.faults.Fault.{Fault}
use Rattle.xdg_base.specs.declared.faults.Stop.{Stop}
use Rattle.xdg_base.specs.declared.faults.Stop.TheVariants as stops
use Rattle.xdg_build.specs.Refusals.{refusal_within}
use Rattle.xdg_packed.specs.Entries.{IsWordPlace}
use Rattle.xdg_inputs.specs.Meanings.{Meaning}
use Rattle.xdg_build.specs.Grammars.{Grammar}
use Rattle.xdg_inputs.specs.Sentences.{Refusing, IsInput, IsBadInput}
use Rattle.xdg_inputs.specs.Grammars.{with_words}
use Rattle.xdg_packed.specs.Lexicon.{Lexicon}
use Rattle.xdg_problem.specs.declared.parts.SentenceWord.{SentenceWord}
use Rattle.xdg_linear.specs.Segments.{words_in}

-- ---- words

-- how many words are arranged at most
abbrev pub word_limit : ℕ
word_limit = 8

-- why words are not arranged: there is none, or too many, or one has no entry
abbrev pub refusal : Lexicon → List SentenceWord → Option Fault
refusal lexicon words = refusal_within word_limit causes.ArrangeLimit lexicon words

-- words are refused for their fault, and for no other
abbrev pub IsRefused : Lexicon → List SentenceWord → Stop → Type 0
IsRefused lexicon words (stops.Fault f) = refusal lexicon words ≡ Some f
IsRefused lexicon words stops.OutOfMemory = Unit {0}

-- ---- an input

-- a grammar, and words to arrange
pub record Listed : Type 0 where
  pub grammar : Grammar
  pub words : List SentenceWord

-- why a grammar refuses words to arrange
abbrev pub refusing : Refusing
refusing g words = refusal g.lexicon words

-- the input has no words to arrange
abbrev pub IsBadList : Meaning → Bool → List ℕ → List ℕ → Fault → Type 0
IsBadList = IsBadInput refusing

-- the input has these words, each with an entry of this grammar
pub record HasList (m : Meaning) (segment : Bool) (input : List ℕ) (listed : Listed) : Type 0 where
  pub dim : ℕ
  pub field : ℕ
  pub place : IsWordPlace m.table dim field
  pub grammar_is : listed.grammar ≡ with_words m dim field
  pub words_are : listed.words ≡ words_in segment input
  pub taken : IsInput refusing (with_words m dim field) segment input
