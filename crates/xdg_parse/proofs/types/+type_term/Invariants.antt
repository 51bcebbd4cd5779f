use Rattle.std.proofs.Common.{◌≡◌, ◌+◌, ◌*◌, [], ◌∷◌, length}
use Rattle.xdg_ast.specs.Grammar as grammar
use Rattle.xdg_ast.specs.Grammar.{under}
use Rattle.xdg_ast.specs.Language.{many}
use Rattle.xdg_parse.specs.Parts.{giving}
use Rattle.xdg_parse.proofs.Loop.{with_front}
use Rattle.xdg_parse.proofs.types.+type_term.Given as goal

abbrev pub decreases-braced_tail : goal.decreases-braced_tail
decreases-braced_tail l = 7 * l.within + 6

abbrev pub decreases-keyed_types : goal.decreases-keyed_types
decreases-keyed_types l = 7 * l.within + 5

abbrev pub decreases-more_types : goal.decreases-more_types
decreases-more_types l = 7 * l.within + 5

abbrev pub decreases-two_types : goal.decreases-two_types
decreases-two_types l = 7 * l.within + 5

abbrev pub decreases-keyed_type : goal.decreases-keyed_type
decreases-keyed_type l = 7 * l.within + 4

abbrev pub decreases-boxed_type : goal.decreases-boxed_type
decreases-boxed_type l = 7 * l.within + 4

abbrev pub decreases-type_term : goal.decreases-type_term
decreases-type_term l = 7 * l.within + 3

abbrev pub decreases-type_kind : goal.decreases-type_kind
decreases-type_kind l = 7 * l.within + 2

abbrev pub decreases-one_type : goal.decreases-one_type
decreases-one_type l = 7 * l.within

abbrev pub decreases-tuple_types : goal.decreases-tuple_types
decreases-tuple_types l = 7 * l.within

abbrev pub decreases-map_types : goal.decreases-map_types
decreases-map_types l = 7 * l.within

abbrev pub decreases-braced : goal.decreases-braced
decreases-braced l = 7 * l.within

abbrev pub invariant-keyed_types-fields : goal.invariant-keyed_types-fields
invariant-keyed_types-fields l = with_front l.fields ((grammar.keyed_types (under [] l.within)).read l.cursor) ≡ giving (λ others. l.fn.first ∷ others) ((grammar.keyed_types (under [] l.fn.within)).read l.fn.cursor)

abbrev pub decreases-keyed_types-fields : goal.decreases-keyed_types-fields
decreases-keyed_types-fields l = length l.cursor.left

abbrev pub invariant-more_types-more : goal.invariant-more_types-more
invariant-more_types-more l = with_front l.types ((many (grammar.type_term (under [] l.within))).read l.cursor) ≡ (grammar.more_types (under [] l.fn.within)).read l.fn.cursor

abbrev pub decreases-more_types-more : goal.decreases-more_types-more
decreases-more_types-more l = length l.cursor.left
