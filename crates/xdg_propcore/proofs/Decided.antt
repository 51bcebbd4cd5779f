-- Where nothing is open and a propagator is still, its principle uses hold.
use Rattle.std.proofs.Common.{ℕ, Bool, List}
use Rattle.xdg_problem.specs.declared.parts.Parts.{Parts}
use Rattle.xdg_problem.specs.Boxes.{IsBox}
use Rattle.xdg_problem.specs.Problems.{IsProblem}
use Rattle.xdg_problem.specs.Vectors.{shape}
use Rattle.xdg_rules.proofs.RuleLaws.{rule_laws}
use Rattle.xdg_propcore.specs.Decides.{Decides}
use Rattle.xdg_propcore.specs.Uses.{IsClosedBy, no_use, use_at}

pub decides : (stands : Parts → ℕ → Type 0) (still : Parts → List (List Bool) → Type 0) → ((parts : Parts) (box : List (List Bool)) → IsProblem parts → IsBox (shape parts) box → still parts box → IsClosedBy stands parts box) → Decides stands still
decides stands still closed parts box problem is ones quiet number mine =
    ((rule_laws parts problem (use_at parts number) (problem.groups number no_use mine.0)).alone box is ones).0 (closed parts box problem is quiet number mine)
