use Rattle.std.proofs.Common.{◌≡◌, [], drop}
use Rattle.std.specs.List.{flat_map}
use Rattle.xdg_names.specs.First.{first, earlier}
use Rattle.xdg_types.specs.NameFaults as spec
use Rattle.xdg_types.specs.Written.{lists_in_trees, lists_in_members}
use Rattle.xdg_typing.specs.KindFaults.{trees, members}
use Rattle.xdg_typing.proofs.contents.+lists_again.Given as goal

abbrev pub invariant-loop-field : goal.invariant-loop-field
invariant-loop-field l =
    let u = spec.repeats [] in
    earlier l.found (first (flat_map u (lists_in_members (members (drop l.field-index l.field-items))))) ≡ earlier l.initial.found (first (flat_map u (lists_in_members (members l.field-items))))

abbrev pub invariant-loop-part : goal.invariant-loop-part
invariant-loop-part l =
    let u = spec.repeats [] in
    earlier l.found (first (flat_map u (lists_in_trees (trees (drop l.part-index l.part-items))))) ≡ first (flat_map u (lists_in_trees (trees l.part-items)))
