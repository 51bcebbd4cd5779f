use Rattle.std.proofs.Common.{◌≡◌}
use Rattle.xdg_store.specs.States.{Known}
use Rattle.xdg_pgraph.specs.Ruling.{OneLabelOf}
use Rattle.xdg_pgraph.proofs.Beside.{LabelsInto}
use Rattle.xdg_pgraph.proofs.Ruled.{RunsPart}
use Rattle.xdg_pgraph.proofs.label.one_label_from.Given as goal

abbrev pub invariant-loop-daughter : goal.invariant-loop-daughter
invariant-loop-daughter l = RunsPart (OneLabelOf (λ e. e.mother.0 ≡ l.mother)) (LabelsInto l.mother l.daughter) l.plane.dim.0 l.fn.pass l.fn.store l.pass l.store × (l.store.parts ≡ l.fn.store.parts) × Known l.store
