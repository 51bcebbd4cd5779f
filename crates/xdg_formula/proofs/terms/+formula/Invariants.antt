use Rattle.std.proofs.Common.{◌≡◌, ◌+◌, ◌*◌, length}
use Rattle.xdg_ast.specs.Language.{many}
use Rattle.xdg_parse.proofs.Loop.{with_front}
use Rattle.xdg_formula.specs.Rules as grammar
use Rattle.xdg_formula.specs.Rules.{under}
use Rattle.xdg_formula.proofs.terms.+formula.Given as goal

abbrev pub decreases-formula : goal.decreases-formula
decreases-formula l = 10 * l.within + 9

abbrev pub decreases-conjs : goal.decreases-conjs
decreases-conjs l = 10 * l.within + 8

abbrev pub decreases-next_conj : goal.decreases-next_conj
decreases-next_conj l = 10 * l.within + 7

abbrev pub decreases-conj : goal.decreases-conj
decreases-conj l = 10 * l.within + 6

abbrev pub decreases-prims : goal.decreases-prims
decreases-prims l = 10 * l.within + 5

abbrev pub decreases-next_prim : goal.decreases-next_prim
decreases-next_prim l = 10 * l.within + 4

abbrev pub decreases-prim : goal.decreases-prim
decreases-prim l = 10 * l.within + 3

abbrev pub decreases-simple : goal.decreases-simple
decreases-simple l = 10 * l.within + 2

abbrev pub decreases-simple_kind : goal.decreases-simple_kind
decreases-simple_kind l = 10 * l.within + 1

abbrev pub decreases-bound : goal.decreases-bound
decreases-bound l = 10 * l.within

abbrev pub invariant-prims-more : goal.invariant-prims-more
invariant-prims-more l = with_front l.members ((many (grammar.next_prim (under l.within))).read l.cursor) ≡ (grammar.prims (under l.fn.within)).read l.fn.cursor

abbrev pub decreases-prims-more : goal.decreases-prims-more
decreases-prims-more l = length l.cursor.left

abbrev pub invariant-conjs-more : goal.invariant-conjs-more
invariant-conjs-more l = with_front l.members ((many (grammar.next_conj (under l.within))).read l.cursor) ≡ (grammar.conjs (under l.fn.within)).read l.fn.cursor

abbrev pub decreases-conjs-more : goal.decreases-conjs-more
decreases-conjs-more l = length l.cursor.left
