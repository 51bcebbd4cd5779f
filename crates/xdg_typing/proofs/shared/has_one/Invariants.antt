use Rattle.std.proofs.Common.{◌≡◌, drop}
use Rattle.xdg_typing.specs.KindFaults.{has_one}
use Rattle.xdg_typing.proofs.shared.has_one.Given as goal
use Rattle.xdg_ast.specs.Texts.{texts}

abbrev pub invariant-loop-constant : goal.invariant-loop-constant
invariant-loop-constant l = has_one l.seen (texts (drop l.constant-index l.constants)) ≡ has_one l.seen (texts l.constants)
