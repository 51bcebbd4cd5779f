use Rattle.std.proofs.Common.{◌≡◌, Some, None, refl, subst, [], ◌∷◌}
use Rattle.xdg_reading.specs.Pieces.{behind}
use Rattle.xdg_reading.proofs.Fronts.{char_stripped, char_not_stripped}
use Rattle.xdg_reading.proofs.cursor.Cursor.end.Goals as goal

pub returns-in-Some : goal.returns-in-Some
returns-in-Some c = subst (λ z. behind (c.args.end ∷ []) z ≡ Some c.in-Some.rest.now) c.self.view_is (char_stripped c.args.end c.self.inside.left.now c.in-Some.rest c.in-Some.ensures.cases c.requires.ascii)

pub returns-in-None : goal.returns-in-None
returns-in-None c = (subst (λ z. behind (c.args.end ∷ []) z ≡ None) c.self.view_is (char_not_stripped c.args.end c.self.inside.left.now c.in-None.ensures.cases c.requires.ascii), refl)
