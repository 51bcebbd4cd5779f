use Rattle.std.proofs.Common.{◌≡◌, drop}
use Rattle.xdg_types.specs.Parts.{in_parts, entry_type}
use Rattle.xdg_typing.proofs.dimensions.entry_type.Given as goal

abbrev pub invariant-loop-part : goal.invariant-loop-part
invariant-loop-part l = in_parts entry_type (drop l.part-index l.parts) ≡ in_parts entry_type l.parts
