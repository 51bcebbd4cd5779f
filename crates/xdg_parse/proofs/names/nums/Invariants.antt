use Rattle.std.proofs.Common.{◌≡◌, length}
use Rattle.xdg_ast.specs.Grammar as grammar
use Rattle.xdg_parse.proofs.Loop.{with_front}
use Rattle.xdg_parse.proofs.names.nums.Given as goal

abbrev pub invariant-nums : goal.invariant-nums
invariant-nums l = with_front l.nums (grammar.nums.read l.cursor) ≡ grammar.nums.read l.fn.cursor

abbrev pub decreases-nums : goal.decreases-nums
decreases-nums l = length l.cursor.left
