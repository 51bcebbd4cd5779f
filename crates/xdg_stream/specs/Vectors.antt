-- The answers as plain lists.
use Rattle.std.specs.Prelude.{ℕ, List, map, Vec}
use Rattle.std.specs.Global.{Global}

-- the lists that the vectors hold
abbrev pub vectors : List (Vec ℕ Global) → List (List ℕ)
vectors vs = map (λ v. v.items) vs
