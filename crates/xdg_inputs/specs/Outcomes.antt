-- What the files are, the first steps of a command, and the outcome of one that is done.
use Rattle.std.specs.Prelude.{◌≡◌, ℕ, List, Option}
use Rattle.xdg_inputs.specs.Meanings.{Meaning, Means}
use Rattle.xdg_inputs.specs.Grammars.{IsBadGrammar}
use Rattle.xdg_inputs.specs.Stages.{Behind}
use Rattle.xdg_inputs.specs.GrammarFiles.{HasBadText, HasTree, ReadText}
use Rattle.xdg_inputs.specs.declared.status.Status.{Status}
use Rattle.xdg_inputs.specs.declared.status.Status.TheVariants as statuses

-- what the files are, by name, those that are there
abbrev pub Files : Type 0
Files = List ℕ → Option (List ℕ)

-- ---- steps

-- a grammar text is read
abbrev pub ReadThen : Files → List ℕ → (ReadText → Status → List ℕ → Type 0) → Status → List ℕ → Type 0
ReadThen files name next = Behind ReadText statuses.BadText (HasBadText files name) (HasTree files name) next

-- what it means
abbrev pub MeaningThen : ReadText → (Meaning → Status → List ℕ → Type 0) → Status → List ℕ → Type 0
MeaningThen read next = Behind Meaning statuses.BadGrammar (IsBadGrammar read) (Means read.tree) next

-- a grammar text is read, and what it means
abbrev pub GrammarThen : Files → List ℕ → (ReadText → Meaning → Status → List ℕ → Type 0) → Status → List ℕ → Type 0
GrammarThen files name next = ReadThen files name (λ read. MeaningThen read (next read))

-- ---- an outcome

-- the outcome is this text, and the status Done
abbrev pub IsDone : List ℕ → Status → List ℕ → Type 0
IsDone text status line = (status ≡ statuses.Done) × (line ≡ text)
