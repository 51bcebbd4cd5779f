use Rattle.std.proofs.Common.{◌≡◌, Some, subst}
use Rattle.xdg_reading.specs.Pieces.{behind}
use Rattle.xdg_reading.proofs.Fronts.{stripped}
use Rattle.xdg_reading.proofs.cursor.Cursor.skip.Goals as goal

pub returns-in-Some : goal.returns-in-Some
returns-in-Some c = subst (λ z. behind c.args.word.now z ≡ Some c.in-Some.rest.now) c.self.view_is (stripped c.args.word.now c.self.inside.left.now c.in-Some.rest.now c.in-Some.ensures.cases)
