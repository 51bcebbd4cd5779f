use Rattle.std.proofs.Common.{◌≡◌, Some, None, subst}
use Rattle.xdg_reading.specs.Pieces.{until}
use Rattle.xdg_reading.proofs.Fronts.{split_some, split_none}
use Rattle.xdg_reading.proofs.cursor.Cursor.until.Goals as goal

pub returns-in-Some : goal.returns-in-Some
returns-in-Some c = subst (λ z. until c.args.end z ≡ Some (c.in-Some.piece.now, c.in-Some.rest.now)) c.self.view_is (split_some c.args.end c.self.inside.left.now c.in-Some.piece c.in-Some.rest c.in-Some.ensures.cases c.requires)

pub returns-in-None : goal.returns-in-None
returns-in-None c = subst (λ z. until c.args.end z ≡ None) c.self.view_is (split_none c.args.end c.self.inside.left.now c.in-None.ensures.cases c.requires)
