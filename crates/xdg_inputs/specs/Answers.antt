-- What an answer tells of the meaning of a tree.
use Rattle.std.specs.Prelude.{Result, Ok, Err}
use Rattle.xdg_base.specs.declared.faults.Fault.{Fault}
use Rattle.xdg_base.specs.declared.faults.Stop.{Stop}
use Rattle.xdg_base.specs.Told.{TellsOf, answer_of}
use Rattle.xdg_ast.specs.declared.grammar.Grammar.{Grammar}
use Rattle.xdg_build.specs.Grammars.{Grammar as Whole, grammar_of}
use Rattle.xdg_inputs.specs.declared.expanding.Expanded.{Expanded}
use Rattle.xdg_inputs.specs.Meanings.{Meaning, Means, Offends}

-- what an expanded grammar says
abbrev pub meaning_of : Expanded → Meaning
meaning_of made = record { table = made.checked.types; uses = made.checked.principles; entries = made.lexicon.entries }

-- the grammar with whose lexicon sentences are compiled
abbrev pub grammar_in : Expanded → Whole
grammar_in made = grammar_of made.checked made.lexicon

-- the meaning, or the first fault
abbrev pub IsAnswer : Grammar → Result Meaning Fault → Type 0
IsAnswer tree (Ok m) = Means tree m
IsAnswer tree (Err f) = Offends tree f

-- a call answers so, unless memory ran out
abbrev pub Tells : Grammar → Result Expanded Stop → Type 0
Tells tree result = TellsOf (IsAnswer tree) (answer_of meaning_of result)
