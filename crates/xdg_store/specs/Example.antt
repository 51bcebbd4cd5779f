-- A sentence of two words, each with two candidates, on a dimension with one label and an attribute of two values.
use Rattle.std.specs.Prelude.{[], ◌∷◌, true, codes}
use Rattle.xdg_problem.specs.declared.parts.AttrPlan.{AttrPlan}
use Rattle.xdg_problem.specs.declared.parts.DimPlan.{DimPlan}
use Rattle.xdg_problem.specs.declared.parts.Parts.{Parts}
use Rattle.xdg_problem.specs.declared.parts.Shown.TheVariants as shown

abbrev pub colour : AttrPlan
colour = record { name = codes "c"; values = shown.One (codes "x") ∷ shown.One (codes "y") ∷ [] }

abbrev pub plan : DimPlan
plan = record { name = codes "id"; labels = codes "l" ∷ []; attrs = colour ∷ []; graph = true }

abbrev pub small : Parts
small = record {
  words = record { text = codes "a"; at = 0 } ∷ record { text = codes "b"; at = 2 } ∷ [];
  candidates = (record { 0 = 3 } ∷ record { 0 = 5 } ∷ []) ∷ (record { 0 = 3 } ∷ record { 0 = 5 } ∷ []) ∷ [];
  dims = plan ∷ [];
  groups = [];
}
