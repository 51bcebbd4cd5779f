use Rattle.std.proofs.Common.{◌≡◌}
use Rattle.xdg_store.specs.States.{Known}
use Rattle.xdg_rules.specs.Rules.{OneLabel}
use Rattle.xdg_pgraph.proofs.Beside.{LabelsBelow}
use Rattle.xdg_pgraph.proofs.Ruled.{RunsPart}
use Rattle.xdg_pgraph.proofs.label.one_label.Given as goal

abbrev pub invariant-loop-mother : goal.invariant-loop-mother
invariant-loop-mother l = RunsPart OneLabel (LabelsBelow l.mother) l.plane.dim.0 l.fn.pass l.fn.store l.pass l.store × (l.store.parts ≡ l.fn.store.parts) × Known l.store
