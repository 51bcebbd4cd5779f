use Rattle.std.proofs.Common.{◌≡◌, [], length}
use Rattle.xdg_ast.specs.Grammar as grammar
use Rattle.xdg_ast.specs.Grammar.{under}
use Rattle.xdg_parse.proofs.Loop.{with_front}
use Rattle.xdg_parse.proofs.dimensions.parts.Given as goal

abbrev pub invariant-parts : goal.invariant-parts
invariant-parts l = with_front l.parts ((grammar.parts (under [] l.within)).read l.cursor) ≡ (grammar.parts (under [] l.fn.within)).read l.fn.cursor

abbrev pub decreases-parts : goal.decreases-parts
decreases-parts l = length l.cursor.left
