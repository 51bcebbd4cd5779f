use Rattle.std.proofs.Common.{◌≡◌, drop}
use Rattle.xdg_typing.specs.KindFaults.{add_texts}
use Rattle.xdg_typing.proofs.shared.add_constants.Given as goal
use Rattle.xdg_ast.specs.Texts.{texts}

abbrev pub invariant-loop-constant : goal.invariant-loop-constant
invariant-loop-constant l = add_texts l.seen (texts (drop l.constant-index l.constants)) ≡ add_texts l.initial.seen (texts l.constants)
