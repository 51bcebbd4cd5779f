use Rattle.std.proofs.Common.{◌≡◌, length}
use Rattle.xdg_parse.proofs.Loop.{with_front}
use Rattle.xdg_formula.specs.Rules as grammar
use Rattle.xdg_formula.proofs.terms.signs.Given as goal

abbrev pub invariant-signs : goal.invariant-signs
invariant-signs l = with_front l.signs (grammar.signs.read l.cursor) ≡ grammar.signs.read l.fn.cursor

abbrev pub decreases-signs : goal.decreases-signs
decreases-signs l = length l.cursor.left
