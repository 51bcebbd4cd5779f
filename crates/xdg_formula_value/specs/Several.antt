-- What a box makes of several claims together.
use Rattle.std.specs.Prelude.{ℕ, Bool, true, false, List}
use Rattle.xdg_problem.specs.declared.parts.Parts.{Parts}
use Rattle.xdg_problem.specs.Claims.{Claims}
use Rattle.xdg_rules.specs.Worths.{MakesEach, MakesSome}

-- the box makes each of them true, or false, or it makes one or more of them so
abbrev pub MakesSeveral : Bool → Parts → List (List Bool) → Claims → Bool → (ℕ → ℕ) → Type 0
MakesSeveral true parts box cs truth b = MakesEach parts box cs truth b
MakesSeveral false parts box cs truth b = MakesSome parts box cs truth b
