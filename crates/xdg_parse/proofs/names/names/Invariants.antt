use Rattle.std.proofs.Common.{◌≡◌, length}
use Rattle.xdg_ast.specs.Grammar as grammar
use Rattle.xdg_parse.proofs.Loop.{with_front}
use Rattle.xdg_parse.proofs.names.names.Given as goal

abbrev pub invariant-names : goal.invariant-names
invariant-names l = with_front l.names (grammar.names.read l.cursor) ≡ grammar.names.read l.fn.cursor

abbrev pub decreases-names : goal.decreases-names
decreases-names l = length l.cursor.left
