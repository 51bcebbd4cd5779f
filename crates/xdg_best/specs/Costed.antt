-- Which files have costs, and with which fault the others are refused.
use Rattle.std.specs.Prelude.{◌≡◌, ℕ, ◌+◌, ◌<◌, ◌≤◌, List, length, Option, Some}
use Rattle.xdg_base.specs.declared.faults.Cause.TheVariants as causes
use Rattle.xdg_base.specs.declared.faults.Fault.{Fault}
use Rattle.xdg_best.specs.Texts.{IsRefused, Says}
use Rattle.xdg_problem.specs.Costs.{CostLists}
use Rattle.xdg_types.specs.Table.{Table}
use Rattle.xdg_base.specs.Faults.{fault_reaching}

-- how many bytes a costs file may have
abbrev pub costs_limit : ℕ
costs_limit = 4194304

-- a text is too long, or else it says no costs
pub data IsBadCosts (table : Table) (entries : ℕ) (text : List ℕ) (refused : Fault) : Type 0 where
  too_long : costs_limit < length text → refused ≡ fault_reaching causes.TooLong 0 (costs_limit + 1) → IsBadCosts table entries text refused
  wrong : length text ≤ costs_limit → IsRefused text table entries refused → IsBadCosts table entries text refused

-- the file of this name is there, and its text is refused
pub record HasBadCosts (files : List ℕ → Option (List ℕ)) (name : List ℕ) (table : Table) (entries : ℕ) (text : List ℕ) (refused : Fault) : Type 0 where
  pub file : files name ≡ Some text
  pub because : IsBadCosts table entries text refused

-- the file of this name has a text that says these costs
pub record HasCosts (files : List ℕ → Option (List ℕ)) (name : List ℕ) (table : Table) (entries : ℕ) (costs : CostLists) : Type 0 where
  pub text : List ℕ
  pub file : files name ≡ Some text
  pub within : length text ≤ costs_limit
  pub says : Says text table entries costs
