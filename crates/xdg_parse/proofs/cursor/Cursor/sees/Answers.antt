-- Kinds are told apart by their numbers.
use Rattle.std.proofs.Common.{refl}
use Rattle.xdg_ast.specs.Language.{kind_of}
use Rattle.xdg_parse.proofs.Tags.{same_tag}
use Rattle.xdg_parse.proofs.cursor.Cursor.sees.Goals as goal

pub returns-in-Some : goal.returns-in-Some
unfolding kind_of
returns-in-Some c = rw (same_tag c.args.kind c.in-Some.token.now.kind) (rw (← c.self.view_is, c.in-Some.ensures.cases.0) refl)
