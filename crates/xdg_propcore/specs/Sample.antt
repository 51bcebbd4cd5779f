-- A sentence of one word with an attribute of two values, of which the principle use allows the first one alone.
use Rattle.std.specs.Prelude.{◌≡◌, ℕ, Bool, false, List, [], ◌∷◌, codes}
use Rattle.xdg_problem.specs.declared.parts.AttrPlan.{AttrPlan}
use Rattle.xdg_problem.specs.declared.parts.DimPlan.{DimPlan}
use Rattle.xdg_problem.specs.declared.parts.Feat.{Feat}
use Rattle.xdg_problem.specs.declared.parts.Group.{Group}
use Rattle.xdg_problem.specs.declared.parts.Parts.{Parts}
use Rattle.xdg_problem.specs.declared.parts.Principle.TheVariants as principles
use Rattle.xdg_problem.specs.declared.parts.Shown.TheVariants as shown
use Rattle.xdg_problem.specs.Boxes.{Has}

abbrev pub colour : AttrPlan
colour = record { name = codes "c"; values = shown.One (codes "x") ∷ shown.One (codes "y") ∷ [] }

abbrev pub plan : DimPlan
plan = record { name = codes "id"; labels = []; attrs = colour ∷ []; graph = false }

-- the set of the first value
abbrev pub first_alone : Feat
first_alone = record { rows = (0 ∷ []) ∷ [] }

abbrev pub agr_use : Group
agr_use =
    record {
      principle = principles.Agr;
      dims = record { 0 = 0 } ∷ [];
      attrs = record { 0 = 0 } ∷ [];
      order = [];
      truths = [];
      feats = ((first_alone ∷ []) ∷ []) ∷ [];
    }

abbrev pub sample : Parts
sample = record {
  words = record { text = codes "a"; at = 0 } ∷ [];
  candidates = (record { 0 = 3 } ∷ []) ∷ [];
  dims = plan ∷ [];
  groups = agr_use ∷ [];
}

-- the second value of the attribute doesn't remain
abbrev pub LacksSecond : List (List Bool) → Type 0
LacksSecond box = Has box 1 1 → ⊥

-- the principle use of the sample
abbrev pub IsUse : Parts → ℕ → Type 0
IsUse parts number = (parts ≡ sample) × (number ≡ 0)
