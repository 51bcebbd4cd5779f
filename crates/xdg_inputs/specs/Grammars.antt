-- What the grammar of a file means, and with which fault it is refused.
use Rattle.std.specs.Prelude.{◌≡◌, ℕ, List}
use Rattle.xdg_base.specs.declared.faults.Fault.{Fault}
use Rattle.xdg_build.specs.Grammars.{Grammar}
use Rattle.xdg_inputs.specs.Meanings.{Meaning, Offends}
use Rattle.xdg_inputs.specs.GrammarFiles.{ReadText}

-- the grammar of a text is refused
abbrev pub IsBadGrammar : ReadText → List ℕ → Fault → Type 0
IsBadGrammar read text refused = (text ≡ read.text) × Offends read.tree refused

-- a grammar whose entries say their words there
abbrev pub with_words : Meaning → ℕ → ℕ → Grammar
with_words m dim field = record { table = m.table; uses = m.uses; lexicon = record { entries = m.entries; dim = dim; field = field } }
