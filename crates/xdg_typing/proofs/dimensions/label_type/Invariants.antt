use Rattle.std.proofs.Common.{◌≡◌, drop}
use Rattle.xdg_types.specs.Parts.{in_parts, label_type}
use Rattle.xdg_typing.proofs.dimensions.label_type.Given as goal

abbrev pub invariant-loop-part : goal.invariant-loop-part
invariant-loop-part l = in_parts label_type (drop l.part-index l.parts) ≡ in_parts label_type l.parts
