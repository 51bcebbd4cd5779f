-- Families of principles, and for which principle uses a propagator of a family stands.
use Rattle.std.specs.Prelude.{◌≡◌, ℕ, Bool, List}
use Rattle.xdg_problem.specs.declared.parts.Group.{Group}
use Rattle.xdg_problem.specs.declared.parts.Parts.{Parts}
use Rattle.xdg_problem.specs.declared.parts.Principle.{Principle}
use Rattle.xdg_problem.specs.Boxes.{Has, IsBox, LiesIn}
use Rattle.xdg_problem.specs.Problems.{IsGroup, IsProblem}
use Rattle.xdg_problem.specs.Vectors.{shape}
use Rattle.xdg_rules.specs.Rules.{IsClosedFor}
use Rattle.xdg_propcore.specs.Kinds.{kind_of}
use Rattle.xdg_propcore.specs.UseKinds.{HasKinds, IsKindFor}
use Rattle.xdg_propcore.specs.Uses.{use_at}

-- a box has become another one, and has lost no value at which the tests of the principle use look
pub record LosesUnseen (parts : Parts) (group : Group) (old new : List (List Bool)) : Type 0 where
  pub was : IsBox (shape parts) old
  pub is : IsBox (shape parts) new
  pub inside : LiesIn new old
  pub stays : (d v : ℕ) → IsKindFor group (kind_of parts d) → Has old d v → Has new d v

-- what is closed for a use of one of these principles stays so while no such value is lost
abbrev pub StaysClosed : (Principle → Type 0) → Type 0
StaysClosed Holds =
    (parts : Parts) (group : Group) (old new : List (List Bool)) → IsProblem parts → IsGroup parts group → Holds group.principle
    → LosesUnseen parts group old new → IsClosedFor parts group old → IsClosedFor parts group new

-- the number is that of a use of one of these principles, and the wake set and what is kept are for it; mine is the propagator's own
-- number
pub record StandsAt (Holds : Principle → Type 0) (Fits : Parts → Group → Type 0) (mine wakes : ℕ) (parts : Parts) (number : ℕ) : Type 0 where
  pub number_is : number ≡ mine
  pub family : Holds (use_at parts number).principle
  pub kinds : HasKinds (use_at parts number) wakes
  pub fits : Fits parts (use_at parts number)

-- what is kept of a principle use, where that is nothing
abbrev pub KeepsNothing : {F : Type 0} → F → Parts → Group → Type 0
KeepsNothing kept parts group = Unit {0}
