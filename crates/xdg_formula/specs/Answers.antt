-- What an answer tells of rules where a table of types is given.
use Rattle.std.specs.Prelude.{List, Result, Ok, Err, Some, None}
use Rattle.xdg_base.specs.declared.faults.Fault.{Fault}
use Rattle.xdg_base.specs.declared.faults.Stop.{Stop}
use Rattle.xdg_base.specs.Told.{TellsOf}
use Rattle.xdg_names.specs.First.{Tells as TellsFault}
use Rattle.xdg_types.specs.Table.{Table}
use Rattle.xdg_formula.specs.declared.tree.Rule.{Rule}
use Rattle.xdg_formula.specs.Formulas.{rules_faults}
use Rattle.xdg_facts.specs.Membership.{In}

-- something is wrong with the rules
abbrev pub Offends : Table → List Rule → Fault → Type 0
Offends table rules = In (rules_faults table rules)

-- nothing is wrong with the rules, or this is the first of what is: that with the least place, and at one place that with the least number
abbrev pub IsAnswer : Table → List Rule → Result (Unit {0}) Fault → Type 0
IsAnswer table rules (Ok done) = TellsFault (Offends table rules) None
IsAnswer table rules (Err f) = TellsFault (Offends table rules) (Some f)

-- a call answers so, unless memory ran out
abbrev pub Tells : Table → List Rule → Result (Unit {0}) Stop → Type 0
Tells table rules = TellsOf (IsAnswer table rules)
