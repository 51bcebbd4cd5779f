use Rattle.std.proofs.Common.{take}
use Rattle.xdg_names.specs.First.{Tells}
use Rattle.xdg_classes.specs.Lent.{said}
use Rattle.xdg_classes.specs.Collected.{feature_of}
use Rattle.xdg_classes.specs.Wrong as wrong
use Rattle.xdg_classes.proofs.checking.check_records.Given as goal

abbrev pub invariant-loop-one : goal.invariant-loop-one
invariant-loop-one l = Tells (wrong.SomeOf (take l.one-index l.records) (λ r. wrong.RecordWrong (feature_of l.features) l.params (said r))) l.found
