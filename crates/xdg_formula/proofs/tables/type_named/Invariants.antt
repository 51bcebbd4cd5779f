use Rattle.std.proofs.Common.{◌≡◌, drop}
use Rattle.xdg_formula.specs.Tables as spec
use Rattle.xdg_formula.proofs.tables.type_named.Given as goal

abbrev pub invariant-loop-one : goal.invariant-loop-one
invariant-loop-one l = spec.type_named (drop l.one-index l.all) l.name ≡ spec.type_named l.all l.name
