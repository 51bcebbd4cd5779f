-- Which rules a file has for a grammar of some types, and with which fault the others are refused.
use Rattle.std.specs.Prelude.{◌≡◌, ℕ, ◌+◌, ◌<◌, ◌≤◌, List, [], length, Option, Some, None}
use Rattle.xdg_base.specs.declared.faults.Cause.TheVariants as causes
use Rattle.xdg_base.specs.declared.faults.Fault.{Fault}
use Rattle.xdg_formula.specs.Answers.{Offends}
use Rattle.xdg_formula.specs.declared.tree.Rules.{Rules}
use Rattle.xdg_io.specs.Rose.{Rose}
use Rattle.xdg_types.specs.Table.{Table}
use Rattle.xdg_inputs.specs.RulesTexts.{IsRefused, Says}
use Rattle.xdg_base.specs.Faults.{fault_reaching}

-- how many bytes a rules file may have
abbrev pub rules_limit : ℕ
rules_limit = 65536

-- a text is too long, or else it says no rules
pub data IsBadRules (table : Table) (text : List ℕ) (refused : Fault) : Type 0 where
  too_long : rules_limit < length text → refused ≡ fault_reaching causes.TooLong 0 (rules_limit + 1) → IsBadRules table text refused
  wrong : length text ≤ rules_limit → IsRefused table text refused → IsBadRules table text refused

-- the file of this name is there, and its text is refused
pub record HasBadFile (files : List ℕ → Option (List ℕ)) (name : List ℕ) (table : Table) (text : List ℕ) (refused : Fault) : Type 0 where
  pub file : files name ≡ Some text
  pub because : IsBadRules table text refused

-- the file of this name has a text that says these rules
pub record HasFile (files : List ℕ → Option (List ℕ)) (name : List ℕ) (table : Table) (rules : Rules) : Type 0 where
  pub text : List ℕ
  pub file : files name ≡ Some text
  pub within : length text ≤ rules_limit
  pub says : Says table text rules

-- ---- a file that may be given

-- a file is given, and its text is refused
abbrev pub HasBadRules : (List ℕ → Option (List ℕ)) → Option (List ℕ) → Table → List ℕ → Fault → Type 0
HasBadRules files None table text refused = ⊥
HasBadRules files (Some name) table text refused = HasBadFile files name table text refused

-- these are the rules of the file that is given, or there are none where none is given
abbrev pub HasRules : (List ℕ → Option (List ℕ)) → Option (List ℕ) → Table → Rules → Type 0
HasRules files None table rules = rules.rules ≡ []
HasRules files (Some name) table rules = HasFile files name table rules

-- nothing is wrong with the rules
abbrev pub AreRight : Table → Rules → Type 0
AreRight table rules = (f : Fault) → Offends table rules.rules f → ⊥

-- the count of failures for the file that is given
abbrev pub count_for : Option (List ℕ) → (List ℕ → ℕ) → ℕ
count_for None count = 0
count_for (Some name) count = count name

-- it rose
abbrev pub RoseFor : Option (List ℕ) → (List ℕ → ℕ) → (List ℕ → ℕ) → Type 0
RoseFor None old new = ⊥
RoseFor (Some name) old new = Rose (old name) (new name)
