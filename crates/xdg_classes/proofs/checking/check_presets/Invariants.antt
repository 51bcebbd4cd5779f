use Rattle.std.proofs.Common.{take}
use Rattle.xdg_names.specs.First.{Tells}
use Rattle.xdg_classes.specs.Given.{told}
use Rattle.xdg_classes.specs.Wrong as wrong
use Rattle.xdg_classes.proofs.checking.check_presets.Given as goal

abbrev pub invariant-loop-param : goal.invariant-loop-param
invariant-loop-param l = Tells (wrong.SomeOf (take l.param-index l.params) (wrong.PresetWrong (told l.classes.names l.known) l.class)) l.found
