-- Which texts have words of a grammar, which inputs are sentences of it, and with which fault the others are refused.
use Rattle.std.specs.Prelude.{◌≡◌, ℕ, ◌<◌, ◌≤◌, ◌+◌, Bool, List, length, Option, Some, None, IsUtf8}
use Rattle.std.specs.Str.{IsValidUpTo}
use Rattle.xdg_base.specs.declared.faults.Cause.TheVariants as causes
use Rattle.xdg_base.specs.declared.faults.Fault.{Fault}
use Rattle.xdg_base.specs.declared.faults.Stop.{Stop}
use Rattle.xdg_base.specs.declared.faults.Stop.TheVariants as stops
use Rattle.xdg_problem.specs.declared.parts.Parts.{Parts}
use Rattle.xdg_problem.specs.declared.parts.SentenceWord.{SentenceWord}
use Rattle.xdg_linear.specs.Segments.{words_in}
use Rattle.xdg_packed.specs.Entries.{IsWordPlace}
use Rattle.xdg_build.specs.Grammars.{Grammar}
use Rattle.xdg_build.specs.Compiled.{compiled}
use Rattle.xdg_build.specs.Refusals.{refusal}
use Rattle.xdg_base.specs.Faults.{fault_reaching}
use Rattle.xdg_build.specs.Solutions.{KeepsSolutions}
use Rattle.xdg_inputs.specs.Meanings.{Meaning}
use Rattle.xdg_inputs.specs.Grammars.{with_words}

-- ---- the words of a text, however long that is

-- the words of a text are refused
pub record IsBadWords (m : Meaning) (segment : Bool) (text : List ℕ) (refused : Fault) : Type 0 where
  pub dim : ℕ
  pub field : ℕ
  pub place : IsWordPlace m.table dim field
  pub because : refusal (with_words m dim field) (words_in segment text) ≡ Some refused

-- The words of a text are those of a sentence, and this is the problem that they make: its analyses are those of the grammar and the
-- words, and its solutions are the grammar's.
pub record HasWords (m : Meaning) (segment : Bool) (text : List ℕ) (parts : Parts) : Type 0 where
  pub dim : ℕ
  pub field : ℕ
  pub place : IsWordPlace m.table dim field
  pub known : refusal (with_words m dim field) (words_in segment text) ≡ None
  pub parts_are : parts ≡ compiled (with_words m dim field) (words_in segment text)
  pub keeps : KeepsSolutions (with_words m dim field) (words_in segment text) parts

-- the words of a text make this problem, no other, and are not refused
pub record AcceptsWords (m : Meaning) (segment : Bool) (text : List ℕ) (parts : Parts) : Type 0 where
  pub has : HasWords m segment text parts
  pub one : (other : Parts) → HasWords m segment text other → other ≡ parts
  pub never : (f : Fault) → IsBadWords m segment text f → ⊥

-- the words of a text are refused for this fault, for no other, and make no problem
pub record RejectsWords (m : Meaning) (segment : Bool) (text : List ℕ) (refused : Fault) : Type 0 where
  pub is : IsBadWords m segment text refused
  pub one : (other : Fault) → IsBadWords m segment text other → other ≡ refused
  pub never : (parts : Parts) → HasWords m segment text parts → ⊥

-- why the words of a text come to no problem: they are refused, or memory was wanting
abbrev pub StopsWords : Meaning → Bool → List ℕ → Stop → Type 0
StopsWords m segment text (stops.Fault refused) = RejectsWords m segment text refused
StopsWords m segment text stops.OutOfMemory = Unit {0}

-- ---- an input

-- how many bytes a sentence may have
abbrev pub sentence_limit : ℕ
sentence_limit = 65536

-- why a grammar refuses words, if it does
abbrev pub Refusing : Type 0
Refusing = Grammar → List SentenceWord → Option Fault

-- an input is refused: it is too long for a sentence, or else it isn't UTF-8, or else its words are refused
pub data IsNoInput (why : Refusing) (g : Grammar) (segment : Bool) (input : List ℕ) (refused : Fault) : Type 0 where
  too_long : sentence_limit < length input → refused ≡ fault_reaching causes.TooLong 0 (sentence_limit + 1) → IsNoInput why g segment input refused
  no_text : (at : ℕ) → length input ≤ sentence_limit → (IsUtf8 input → ⊥) → IsValidUpTo input at → refused ≡ fault_reaching causes.BadUtf8 at 0
      → IsNoInput why g segment input refused
  no_words : length input ≤ sentence_limit → IsUtf8 input → why g (words_in segment input) ≡ Some refused → IsNoInput why g segment input refused

-- an input is taken
pub record IsInput (why : Refusing) (g : Grammar) (segment : Bool) (input : List ℕ) : Type 0 where
  pub within : length input ≤ sentence_limit
  pub text : IsUtf8 input
  pub known : why g (words_in segment input) ≡ None

-- an input is refused as a text, by the grammar and where its entries say their words
pub record IsBadInput (why : Refusing) (m : Meaning) (segment : Bool) (input text : List ℕ) (refused : Fault) : Type 0 where
  pub dim : ℕ
  pub field : ℕ
  pub place : IsWordPlace m.table dim field
  pub text_is : text ≡ input
  pub because : IsNoInput why (with_words m dim field) segment input refused

-- the input is no sentence
abbrev pub IsBadSentence : Meaning → Bool → List ℕ → List ℕ → Fault → Type 0
IsBadSentence = IsBadInput refusal

-- The input is a sentence, and this is the problem that it makes: its analyses are those of the grammar and the words, and its
-- solutions are the grammar's.
pub record HasProblem (m : Meaning) (segment : Bool) (input : List ℕ) (parts : Parts) : Type 0 where
  pub dim : ℕ
  pub field : ℕ
  pub place : IsWordPlace m.table dim field
  pub sentence : IsInput refusal (with_words m dim field) segment input
  pub parts_are : parts ≡ compiled (with_words m dim field) (words_in segment input)
  pub keeps : KeepsSolutions (with_words m dim field) (words_in segment input) parts
