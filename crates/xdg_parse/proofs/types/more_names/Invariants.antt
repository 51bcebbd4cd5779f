use Rattle.std.proofs.Common.{◌≡◌, ◌∷◌, length}
use Rattle.xdg_ast.specs.Grammar as grammar
use Rattle.xdg_parse.specs.Parts.{giving}
use Rattle.xdg_parse.proofs.Loop.{with_front}
use Rattle.xdg_parse.proofs.types.more_names.Given as goal

abbrev pub invariant-names : goal.invariant-names
invariant-names l = with_front l.names (grammar.names.read l.cursor) ≡ giving (λ others. l.fn.first ∷ others) (grammar.names.read l.fn.cursor)

abbrev pub decreases-names : goal.decreases-names
decreases-names l = length l.cursor.left
