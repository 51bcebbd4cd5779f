use Rattle.std.proofs.Common.{◌≡◌, ◌++◌, drop}
use Rattle.xdg_packed.specs.Spelling as spec
use Rattle.xdg_packed.proofs.spelling.+spell.Given as goal

abbrev pub invariant-loop-entry : goal.invariant-loop-entry
invariant-loop-entry l = l.out ++ spec.keyed spec.spelling (drop l.entry-index l.entry-items) ≡ l.initial.out ++ spec.keyed spec.spelling l.entry-items

abbrev pub invariant-loop-field : goal.invariant-loop-field
invariant-loop-field l = l.out ++ spec.keyed spec.spelling (drop l.field-index l.field-items) ≡ l.initial.out ++ spec.keyed spec.spelling l.field-items
