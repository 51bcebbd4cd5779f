use Rattle.std.proofs.Common.{◌≡◌, drop}
use Rattle.xdg_ast.specs.Contents.{value_of, value_from}
use Rattle.xdg_lex.proofs.contents.value.Given as goal

abbrev pub invariant-loop-digit : goal.invariant-loop-digit
invariant-loop-digit l = value_from l.value (drop l.digit-index l.digit-items) ≡ value_of l.token.text.now
