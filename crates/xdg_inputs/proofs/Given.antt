-- The rules of a file that may be given.
use Rattle.std.proofs.Common.{◌≡◌, ◌∙◌, ℕ, List, [], None, Some, sym, ap, subst}
use Rattle.std.specs.Prelude.{Option}
use Rattle.xdg_base.specs.declared.faults.Fault.{Fault}
use Rattle.xdg_formula.specs.Answers.{Offends}
use Rattle.xdg_formula.specs.declared.tree.Rule.{Rule}
use Rattle.xdg_formula.specs.declared.tree.Rules.{Rules}
use Rattle.xdg_io.specs.Rose.{Rose}
use Rattle.xdg_inputs.specs.Stages.{Accepts}
use Rattle.xdg_types.specs.Table.{Table}
use Rattle.xdg_inputs.specs.Files.{HasBadRules, HasRules, RoseFor}

no_rules : (files : List ℕ → Option (List ℕ)) (table : Table) (rules : Rules) → rules.rules ≡ [] → Accepts Rules (HasBadRules files None table) (HasRules files None table) rules
no_rules files table rules none = record {
  has = none;
  one = λ b h. ap (λ (z : List Rule). record { rules = z }) (h ∙ sym none);
  never = λ text f bad. bad;
}

-- where no file is given there are no rules
pub none_accepted : (files : List ℕ → Option (List ℕ)) (given : Option (List ℕ)) (table : Table) (rules : Rules) → given ≡ None → rules.rules ≡ [] → Accepts Rules (HasBadRules files given table) (HasRules files given table) rules
none_accepted files given table rules e none = subst (λ z. Accepts Rules (HasBadRules files z table) (HasRules files z table) rules) (sym e) (no_rules files table rules none)

-- nothing is wrong with none
pub none_right : (table : Table) (rules : List Rule) (f : Fault) → rules ≡ [] → Offends table rules f → ⊥
none_right table rules f e offends = subst (λ (z : List Rule). Offends table z f) e offends

-- a count that rose from where it was before
pub rose_later : (given : Option (List ℕ)) (old mid new : List ℕ → ℕ) → ((name : List ℕ) → mid name ≡ old name) → RoseFor given mid new → RoseFor given old new
rose_later None old mid new same rose = rose
rose_later (Some name) old mid new same rose = subst (λ (n : ℕ). Rose n (new name)) (same name) rose
