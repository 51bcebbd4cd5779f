use Rattle.std.proofs.Common.{◌≡◌, ◌<◌, ℕ, true}
use Rattle.xdg_problem.specs.Boxes.{Has, entry_decision}
use Rattle.xdg_problem.specs.Truths.{says, HasTruth}
use Rattle.xdg_formula_value.proofs.atoms.entries_told.Given as goal

abbrev pub invariant-loop-place : goal.invariant-loop-place
invariant-loop-place l = (c : ℕ) → c < l.place → Has l.store.now (entry_decision l.node.0) c → HasTruth l.truth (says l.table l.node.0 c ≡ true)
