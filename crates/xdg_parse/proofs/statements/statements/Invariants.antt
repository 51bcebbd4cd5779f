use Rattle.std.proofs.Common.{◌≡◌, length}
use Rattle.xdg_ast.specs.Grammar as grammar
use Rattle.xdg_parse.proofs.Loop.{with_front}
use Rattle.xdg_parse.proofs.statements.statements.Given as goal

abbrev pub invariant-statements : goal.invariant-statements
invariant-statements l = with_front l.statements ((grammar.statements l.within).read l.cursor) ≡ (grammar.statements l.fn.within).read l.fn.cursor

abbrev pub decreases-statements : goal.decreases-statements
decreases-statements l = length l.cursor.left
