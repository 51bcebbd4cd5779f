-- A problem in which the first node has one of its candidates alone.
use Rattle.std.specs.Prelude.{◌≡◌, ℕ, false, List, [], ◌∷◌, map, slice_index_or}
use Rattle.xdg_base.specs.declared.ids.EntryNo.{EntryNo}
use Rattle.xdg_problem.specs.declared.analysis.Analysis.{Analysis}
use Rattle.xdg_problem.specs.declared.formula.Formula.{Formula, roll-Formula}
use Rattle.xdg_problem.specs.declared.formula.Formula.TheOpen.{Formula-F}
use Rattle.xdg_problem.specs.declared.formula.Formula.TheFolds.{fold-Formula}
use Rattle.xdg_problem.specs.declared.parts.Group.{Group}
use Rattle.xdg_problem.specs.declared.parts.Parts.{Parts}
use Rattle.xdg_problem.specs.declared.parts.Principle.{Principle}
use Rattle.xdg_problem.specs.declared.parts.Principle.TheVariants as principles

abbrev pub no_entry : EntryNo
no_entry = record { 0 = 0 }

-- lists, a list for each node: of the first node's the member at a place alone, and the others as they are
abbrev pub first_alone : {A : Type 0} → A → ℕ → List (List A) → List (List A)
first_alone none place [] = []
first_alone none place (members ∷ more) = (slice_index_or members place none ∷ []) ∷ more

-- a formula whose tables say for the first node what they say for its candidate at a place
abbrev pub branch_layer : ℕ → Formula-F Formula → Formula
branch_layer place (Formula-F.Feat name table) = roll-Formula (Formula-F.Feat name (first_alone false place table))
branch_layer place layer = roll-Formula layer

abbrev pub branch_formula : ℕ → Formula → Formula
branch_formula place = fold-Formula Formula (branch_layer place)

-- a principle, and where it is a rule, with that formula
abbrev pub branch_principle : ℕ → Principle → Principle
branch_principle place (principles.Rule formula) = principles.Rule (branch_formula place formula)
branch_principle place principle = principle

-- a principle use with the features of that candidate alone
abbrev pub branch_group : ℕ → Group → Group
branch_group place group = record group { principle = branch_principle place group.principle; feats = first_alone [] place group.feats }

-- the parts of a problem, but that the first node has the candidate at a place alone
abbrev pub branch_of : Parts → ℕ → Parts
branch_of parts place = record parts { candidates = first_alone no_entry place parts.candidates; groups = map (branch_group place) parts.groups }

-- the candidates of the first node
abbrev pub first_candidates : Parts → List EntryNo
first_candidates parts = slice_index_or parts.candidates 0 []

-- the first node of an analysis has the candidate at a place
abbrev pub BeginsAt : Parts → ℕ → Analysis → Type 0
BeginsAt parts place analysis = slice_index_or analysis.entries 0 no_entry ≡ slice_index_or (first_candidates parts) place no_entry
