-- The places of what a box has.
use Rattle.std.proofs.Common.{ℕ, ◌<◌, Bool, List, [], ◌∷◌, length, arith, zero, suc}
use Rattle.xdg_problem.specs.Boxes.{Has}

pub has_decision : (box : List (List Bool)) (d v : ℕ) → Has box d v → d < length box
has_decision [] d v h = cc
has_decision (row ∷ box) zero v h = omega arith
has_decision (row ∷ box) (suc d) v h = let e = has_decision box d v h in omega (arith, e)
