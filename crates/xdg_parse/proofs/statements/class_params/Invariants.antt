use Rattle.std.proofs.Common.{◌≡◌, length}
use Rattle.xdg_ast.specs.Grammar as grammar
use Rattle.xdg_parse.proofs.Loop.{with_front}
use Rattle.xdg_parse.proofs.statements.class_params.Given as goal

abbrev pub invariant-params : goal.invariant-params
invariant-params l = with_front l.params ((grammar.class_params l.within).read l.cursor) ≡ (grammar.class_params l.fn.within).read l.fn.cursor

abbrev pub decreases-params : goal.decreases-params
decreases-params l = length l.cursor.left
