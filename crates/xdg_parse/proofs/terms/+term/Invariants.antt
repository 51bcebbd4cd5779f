use Rattle.std.proofs.Common.{◌≡◌, ◌+◌, ◌*◌, length}
use Rattle.xdg_ast.specs.Grammar as grammar
use Rattle.xdg_ast.specs.Grammar.{under}
use Rattle.xdg_parse.proofs.Loop.{with_front}
use Rattle.xdg_parse.proofs.terms.+term.Given as goal

abbrev pub decreases-elems : goal.decreases-elems
decreases-elems l = 7 * l.within + 6

abbrev pub decreases-elem : goal.decreases-elem
decreases-elem l = 7 * l.within + 5

abbrev pub decreases-elem_kind : goal.decreases-elem_kind
decreases-elem_kind l = 7 * l.within + 4

abbrev pub decreases-elem_tail : goal.decreases-elem_tail
decreases-elem_tail l = 7 * l.within + 3

abbrev pub decreases-term : goal.decreases-term
decreases-term l = 7 * l.within + 2

abbrev pub decreases-term_kind : goal.decreases-term_kind
decreases-term_kind l = 7 * l.within + 1

abbrev pub decreases-braced_elems : goal.decreases-braced_elems
decreases-braced_elems l = 7 * l.within

abbrev pub invariant-elems-elems : goal.invariant-elems-elems
invariant-elems-elems l = with_front l.elems ((grammar.elems l.params (under l.params l.within)).read l.cursor) ≡ (grammar.elems l.fn.params (under l.fn.params l.fn.within)).read l.fn.cursor

abbrev pub decreases-elems-elems : goal.decreases-elems-elems
decreases-elems-elems l = length l.cursor.left
