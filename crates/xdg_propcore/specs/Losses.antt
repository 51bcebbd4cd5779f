-- What a box loses.
use Rattle.std.specs.Prelude.{◌≡◌, ℕ, suc, ◌+◌, Bool, true, false, List, [], ◌∷◌}
use Rattle.std.specs.Int.{bit_at}
use Rattle.xdg_problem.specs.declared.parts.Parts.{Parts}
use Rattle.xdg_problem.specs.Boxes.{Has}
use Rattle.xdg_propcore.specs.Kinds.{kind_of}

-- the value v of the decision d remains in the old box, and in the new one no more
abbrev pub IsLost : List (List Bool) → List (List Bool) → ℕ → ℕ → Type 0
IsLost old new d v = Has old d v × (Has new d v → ⊥)

-- a value of the kind is lost
pub record LosesKind (parts : Parts) (old new : List (List Bool)) (kind : ℕ) : Type 0 where
  pub decision : ℕ
  pub value : ℕ
  pub lost : IsLost old new decision value
  pub is : kind_of parts decision ≡ kind

-- a value is lost, and the wake set has exactly the kinds of the values that are
pub record Loses (parts : Parts) (wakes : ℕ) (old new : List (List Bool)) : Type 0 where
  pub some : (kind : ℕ) × LosesKind parts old new kind
  pub each : (d v : ℕ) → IsLost old new d v → bit_at wakes (kind_of parts d) ≡ 1
  pub only : (kind : ℕ) → bit_at wakes kind ≡ 1 → LosesKind parts old new kind

-- the values that a wake set is about stay: each that is lost has a kind outside the set
abbrev pub LosesOutside : Parts → ℕ → List (List Bool) → List (List Bool) → Type 0
LosesOutside parts wakes old new = (d v : ℕ) → IsLost old new d v → bit_at wakes (kind_of parts d) ≡ 0

-- each value that is lost has a kind of the set
abbrev pub LosesWithin : Parts → ℕ → List (List Bool) → List (List Bool) → Type 0
LosesWithin parts wakes old new = (d v : ℕ) → IsLost old new d v → bit_at wakes (kind_of parts d) ≡ 1

-- a number for each value that a row has and another hasn't, together
abbrev pub row_lost : ℕ → List Bool → List Bool → ℕ
row_lost each [] new = 0
row_lost each (true ∷ old) (true ∷ new) = row_lost each old new
row_lost each (true ∷ old) (false ∷ new) = each + row_lost each old new
row_lost each (true ∷ old) [] = each + row_lost each old []
row_lost each (false ∷ old) (flag ∷ new) = row_lost each old new
row_lost each (false ∷ old) [] = row_lost each old []

-- for each lost value the number f of its decision, together, where the first decision has the number d
abbrev pub lost_from : (ℕ → ℕ) → ℕ → List (List Bool) → List (List Bool) → ℕ
lost_from f d [] new = 0
lost_from f d (row ∷ old) [] = row_lost (f d) row [] + lost_from f (suc d) old []
lost_from f d (row ∷ old) (left ∷ new) = row_lost (f d) row left + lost_from f (suc d) old new

abbrev pub lost_sum : (ℕ → ℕ) → List (List Bool) → List (List Bool) → ℕ
lost_sum f old new = lost_from f 0 old new

-- how many values are lost
abbrev pub lost_count : List (List Bool) → List (List Bool) → ℕ
lost_count old new = lost_sum (λ d. 1) old new

-- how many of the wake sets have a kind
abbrev pub wakers : List ℕ → ℕ → ℕ
wakers [] kind = 0
wakers (wakes ∷ sets) kind = bit_at wakes kind + wakers sets kind

-- for each lost value the number of the wake sets that have its kind, together
abbrev pub woken_count : Parts → List ℕ → List (List Bool) → List (List Bool) → ℕ
woken_count parts sets old new = lost_sum (λ d. wakers sets (kind_of parts d)) old new
