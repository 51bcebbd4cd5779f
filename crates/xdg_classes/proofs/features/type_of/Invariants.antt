use Rattle.std.proofs.Common.{◌≡◌, drop}
use Rattle.xdg_classes.specs.Wants.{type_named}
use Rattle.xdg_classes.proofs.features.type_of.Given as goal

abbrev pub invariant-loop-key : goal.invariant-loop-key
invariant-loop-key l = type_named (drop l.key-index l.fields) l.name ≡ type_named l.fields l.name
