use Rattle.std.proofs.Common.{◌≡◌, length}
use Rattle.xdg_parse.proofs.Loop.{with_front}
use Rattle.xdg_formula.specs.Rules as grammar
use Rattle.xdg_formula.proofs.rules.rules.Given as goal

abbrev pub invariant-rules : goal.invariant-rules
invariant-rules l = with_front l.rules ((grammar.rules l.within).read l.cursor) ≡ (grammar.rules l.fn.within).read l.fn.cursor

abbrev pub decreases-rules : goal.decreases-rules
decreases-rules l = length l.cursor.left
