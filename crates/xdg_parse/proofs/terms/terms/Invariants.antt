use Rattle.std.proofs.Common.{◌≡◌, length}
use Rattle.xdg_ast.specs.Grammar as grammar
use Rattle.xdg_ast.specs.Grammar.{under}
use Rattle.xdg_parse.proofs.Loop.{with_front}
use Rattle.xdg_parse.proofs.terms.terms.Given as goal

abbrev pub invariant-terms : goal.invariant-terms
invariant-terms l = with_front l.terms ((grammar.terms l.params (under l.params l.within)).read l.cursor) ≡ (grammar.terms l.fn.params (under l.fn.params l.fn.within)).read l.fn.cursor

abbrev pub decreases-terms : goal.decreases-terms
decreases-terms l = length l.cursor.left
