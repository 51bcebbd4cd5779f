-- What the items are found as.
use Rattle.std.proofs.Common.{ℕ, suc, List, [], ◌∷◌, Option, Some, None}
use Rattle.std.specs.Prelude.{codes, slice_get}
use Rattle.clap.specs.Walk.{Row}
use Rattle.xdg_command.specs.Items.{Item, operand, valued, flagged}
use Rattle.xdg_command.specs.Syntax.{Table}
use Rattle.xdg_facts.specs.Onward.{onward}
use Rattle.xdg_command.proofs.Rules.{added, flag_rule, operand_rule, value_rule}

-- the operand with this name is found in this place
abbrev pub put_operand : Option (List ℕ) → ℕ → List ℕ → List Row → Option (List Row)
put_operand None place word rows = None
put_operand (Some name) place word rows = added (operand_rule place name) (word ∷ []) rows

-- what is found once the items are, of which k operands stand before
abbrev pub put : Table → ℕ → List Row → List Item → Option (List Row)
put t k rows [] = Some rows
put t k rows (operand word ∷ items) = onward (put_operand (slice_get t.operands k) (suc k) word rows) (λ more. put t (suc k) more items)
put t k rows (valued name value ∷ items) = onward (added (value_rule name) (value ∷ []) rows) (λ more. put t k more items)
put t k rows (flagged name ∷ items) = onward (added (flag_rule name) (codes "true" ∷ []) rows) (λ more. put t k more items)
