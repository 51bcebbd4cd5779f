-- Which rules a text says in a grammar of some types, and with which fault a text is refused.
use Rattle.std.specs.Prelude.{ℕ, List, Result, Ok, Err}
use Rattle.xdg_base.specs.declared.faults.Fault.{Fault}
use Rattle.xdg_base.specs.declared.faults.Stop.{Stop}
use Rattle.xdg_base.specs.Told.{TellsOf}
use Rattle.xdg_formula.specs.Answers as checked
use Rattle.xdg_formula.specs.declared.tree.Rules.{Rules}
use Rattle.xdg_formula.specs.Texts.{IsUnreadable, Reads}
use Rattle.xdg_types.specs.Table.{Table}

-- a text is read as these rules, and nothing is wrong with them
pub record Says (table : Table) (text : List ℕ) (rules : Rules) : Type 0 where
  pub reads : Reads text rules
  pub right : checked.IsAnswer table rules.rules (Ok tt)

-- a text is no rules text, or else something is wrong with its rules
pub data IsRefused (table : Table) (text : List ℕ) (refused : Fault) : Type 0 where
  unreadable : IsUnreadable text refused → IsRefused table text refused
  wrong : (rules : Rules) → Reads text rules → checked.IsAnswer table rules.rules (Err refused) → IsRefused table text refused

-- the rules that a text says, or its first fault
abbrev pub IsAnswer : Table → List ℕ → Result Rules Fault → Type 0
IsAnswer table text (Ok rules) = Says table text rules
IsAnswer table text (Err fault) = IsRefused table text fault

-- a call answers so, unless memory ran out
abbrev pub Tells : Table → List ℕ → Result Rules Stop → Type 0
Tells table text = TellsOf (IsAnswer table text)
