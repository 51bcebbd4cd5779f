use Rattle.std.proofs.Common.{◌≡◌, ◌++◌, drop}
use Rattle.xdg_packed.specs.Spelling as spec
use Rattle.xdg_packed.proofs.spelling.push_valency.Given as goal

abbrev pub invariant-loop-entry : goal.invariant-loop-entry
invariant-loop-entry l = l.out ++ spec.keyed spec.numbers (drop l.entry-index l.entry-items) ≡ l.fn.out ++ spec.keyed spec.numbers l.fn.map
