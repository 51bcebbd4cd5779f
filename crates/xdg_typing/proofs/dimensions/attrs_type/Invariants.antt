use Rattle.std.proofs.Common.{◌≡◌, drop}
use Rattle.xdg_types.specs.Parts.{in_parts, attrs_type}
use Rattle.xdg_typing.proofs.dimensions.attrs_type.Given as goal

abbrev pub invariant-loop-part : goal.invariant-loop-part
invariant-loop-part l = in_parts attrs_type (drop l.part-index l.parts) ≡ in_parts attrs_type l.parts
