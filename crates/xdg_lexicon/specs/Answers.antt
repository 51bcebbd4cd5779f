-- What an answer tells of the lexicon of a grammar.
use Rattle.std.specs.Prelude.{◌≡◌, ℕ, List, Result, Ok, Err}
use Rattle.xdg_base.specs.declared.faults.Fault.{Fault}
use Rattle.xdg_base.specs.declared.faults.Stop.{Stop}
use Rattle.xdg_base.specs.Told.{TellsOf, answer_of}
use Rattle.xdg_types.specs.Table.{Table}
use Rattle.xdg_packed.specs.Entries.{IsWordPlace}
use Rattle.xdg_packed.specs.Lexicon.{Entry, Lexicon}
use Rattle.xdg_lexicon.specs.Sources.{Source}
use Rattle.xdg_lexicon.specs.Lexicon.{IsLexicon, Refuses}

-- the expanded lexicon, or the first fault
abbrev pub IsAnswer : Source → Result (List Entry) Fault → Type 0
IsAnswer source (Ok entries) = IsLexicon source entries
IsAnswer source (Err f) = Refuses source f

-- the lexicon, or the first fault; want of memory tells nothing
abbrev pub Tells : Source → Result (List Entry) Stop → Type 0
Tells source = TellsOf (IsAnswer source)

-- ---- of a packed lexicon

-- the entries of the lexicon that an answer gives
abbrev pub entries_of : Result Lexicon Stop → Result (List Entry) Stop
entries_of = answer_of (λ packed. packed.entries)

-- the lexicon has the one place at which entries of a grammar with these types say their words
pub record IsPlaced (table : Table) (lexicon : Lexicon) : Type 0 where
  pub place : IsWordPlace table lexicon.dim lexicon.field
  pub one : (dim field : ℕ) → IsWordPlace table dim field → (dim ≡ lexicon.dim) × (field ≡ lexicon.field)
