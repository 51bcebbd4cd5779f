-- The labels of an order from one side or the other.
use Rattle.std.specs.Prelude.{ℕ, ◌<◌, ◌≤◌, ◌-◌, Bool, List, length}
use Rattle.xdg_problem.specs.declared.parts.Group.{Group}
use Rattle.xdg_problem.specs.declared.parts.Parts.{Parts}
use Rattle.xdg_porder.specs.Items.{MayStand, MustStand, label_at}
use Rattle.xdg_porder.specs.declared.sides.Side.{Side}
use Rattle.xdg_porder.specs.declared.sides.Side.TheVariants as sides

-- the label at a place of the order, counted from a side
abbrev pub label_from : Group → Side → ℕ → ℕ
label_from group sides.Left i = label_at group i
label_from group sides.Right i = label_at group (length group.order - 1 - i)

-- a node with a later label may not stand at v where one with an earlier label stands at w
abbrev pub IsReached : Side → ℕ → ℕ → Type 0
IsReached sides.Left v w = v ≤ w
IsReached sides.Right v w = w ≤ v

-- of the first labels from a side none may have an item that one with an earlier label reaches
abbrev pub IsSideDone : Parts → Group → ℕ → Side → ℕ → List (List Bool) → Type 0
IsSideDone parts group u side k box = (i j v w : ℕ) → i < j → j < k
    → MayStand parts group box u (label_from group side j) v → MustStand parts group box u (label_from group side i) w → IsReached side v w → ⊥
