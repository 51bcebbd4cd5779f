use Rattle.std.proofs.Common.{◌≡◌, ◌++◌, drop}
use Rattle.xdg_packed.specs.Spelling as spec
use Rattle.xdg_packed.proofs.spelling.push_fields.Given as goal

abbrev pub invariant-loop-field : goal.invariant-loop-field
invariant-loop-field l = l.out ++ spec.keyed spec.spelling (drop l.field-index l.field-items) ≡ l.fn.out ++ spec.spelling_of_fields l.fn.fields
