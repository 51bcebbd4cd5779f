-- Which inputs have the lines of a corpus, and with which fault the others are refused.
use Rattle.std.specs.Prelude.{◌≡◌, ℕ, ◌<◌, ◌≤◌, ◌+◌, List, length, IsUtf8}
use Rattle.std.specs.Str.{IsValidUpTo}
use Rattle.xdg_base.specs.declared.faults.Cause.TheVariants as causes
use Rattle.xdg_base.specs.declared.faults.Fault.{Fault}
use Rattle.xdg_base.specs.Faults.{fault_reaching}

-- how many bytes the input of a corpus may have
abbrev pub corpus_limit : ℕ
corpus_limit = 4194304

-- an input is refused: it is too long, or else it isn't UTF-8
pub data IsNoCorpus (input : List ℕ) (refused : Fault) : Type 0 where
  too_long : corpus_limit < length input → refused ≡ fault_reaching causes.TooLong 0 (corpus_limit + 1) → IsNoCorpus input refused
  no_text : (at : ℕ) → length input ≤ corpus_limit → (IsUtf8 input → ⊥) → IsValidUpTo input at → refused ≡ fault_reaching causes.BadUtf8 at 0 → IsNoCorpus input refused

-- the input is refused
abbrev pub IsBadCorpus : List ℕ → List ℕ → Fault → Type 0
IsBadCorpus input text refused = (text ≡ input) × IsNoCorpus input refused

-- the input is this text, which has the lines
pub record HasText (input text : List ℕ) : Type 0 where
  pub text_is : text ≡ input
  pub within : length input ≤ corpus_limit
  pub utf8 : IsUtf8 input
