use Rattle.std.proofs.Common.{◌≡◌, ℕ, List, map, drop}
use Rattle.xdg_domain.specs.Shapes.{Shape}
use Rattle.xdg_names.specs.First.{first, earlier}
use Rattle.xdg_typing.specs.Heads.{Knows}
use Rattle.xdg_types.specs.Kinds.{sites}
use Rattle.xdg_typing.specs.KindFaults.{faults_in}
use Rattle.xdg_typing.proofs.kinds.check_statements.Given as goal

abbrev pub invariant-loop-statement : goal.invariant-loop-statement
invariant-loop-statement l =
    (names : List ℕ → Shape) → Knows names l.definitions.names (map (λ head. head.now) l.definitions.heads.items)
    → earlier l.found (first (faults_in names (sites (drop l.statement-index l.statements)))) ≡ first (faults_in names (sites l.statements))
