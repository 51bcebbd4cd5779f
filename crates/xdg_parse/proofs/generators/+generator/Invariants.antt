use Rattle.std.proofs.Common.{◌≡◌, ◌+◌, ◌*◌, length}
use Rattle.xdg_ast.specs.Grammar as grammar
use Rattle.xdg_ast.specs.Grammar.{under}
use Rattle.xdg_ast.specs.Language.{many}
use Rattle.xdg_parse.proofs.Loop.{with_front}
use Rattle.xdg_parse.proofs.generators.+generator.Given as goal

abbrev pub decreases-generator : goal.decreases-generator
decreases-generator l = 7 * l.within + 6

abbrev pub decreases-gconjs : goal.decreases-gconjs
decreases-gconjs l = 7 * l.within + 5

abbrev pub decreases-next_gconj : goal.decreases-next_gconj
decreases-next_gconj l = 7 * l.within + 4

abbrev pub decreases-gconj : goal.decreases-gconj
decreases-gconj l = 7 * l.within + 3

abbrev pub decreases-gprims : goal.decreases-gprims
decreases-gprims l = 7 * l.within + 2

abbrev pub decreases-next_gprim : goal.decreases-next_gprim
decreases-next_gprim l = 7 * l.within + 1

abbrev pub decreases-gprim : goal.decreases-gprim
decreases-gprim l = 7 * l.within

abbrev pub invariant-gprims-more : goal.invariant-gprims-more
invariant-gprims-more l = with_front l.members ((many (grammar.next_gprim (under l.params l.within))).read l.cursor) ≡ (grammar.gprims (under l.fn.params l.fn.within)).read l.fn.cursor

abbrev pub decreases-gprims-more : goal.decreases-gprims-more
decreases-gprims-more l = length l.cursor.left

abbrev pub invariant-gconjs-more : goal.invariant-gconjs-more
invariant-gconjs-more l = with_front l.members ((many (grammar.next_gconj (under l.params l.within))).read l.cursor) ≡ (grammar.gconjs (under l.fn.params l.fn.within)).read l.fn.cursor

abbrev pub decreases-gconjs-more : goal.decreases-gconjs-more
decreases-gconjs-more l = length l.cursor.left
