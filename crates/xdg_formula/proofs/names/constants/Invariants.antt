use Rattle.std.proofs.Common.{◌≡◌, length}
use Rattle.xdg_parse.proofs.Loop.{with_front}
use Rattle.xdg_formula.specs.Rules as grammar
use Rattle.xdg_formula.proofs.names.constants.Given as goal

abbrev pub invariant-constants : goal.invariant-constants
invariant-constants l = with_front l.constants (grammar.constants.read l.cursor) ≡ grammar.constants.read l.fn.cursor

abbrev pub decreases-constants : goal.decreases-constants
decreases-constants l = length l.cursor.left
