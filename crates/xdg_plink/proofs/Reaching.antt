-- The linking principles by two cases: those that ask for edges of the second dimension, and the one that keeps edges apart.
use Rattle.std.proofs.Common.{◌≡◌, ℕ, ◌<◌, ◌⊎◌, ◌↔◌, inl, inr, Bool, List, length, refl, rules}
use Rattle.xdg_problem.specs.declared.analysis.Edge.{Edge}
use Rattle.xdg_problem.specs.declared.parts.Group.{Group}
use Rattle.xdg_problem.specs.declared.parts.Parts.{Parts}
use Rattle.xdg_problem.specs.declared.parts.Principle.{Principle}
use Rattle.xdg_problem.specs.declared.parts.Principle.TheVariants as principles
use Rattle.xdg_problem.specs.Features.{map_row}
use Rattle.xdg_rules.specs.Rules.{EachEntry, LinkingReach, TakesBy}
use Rattle.xdg_plink.specs.Family.{IsLinking, Reaches}
use Rattle.xdg_plink.specs.Steps.{Asks, TakesAt}
use Rattle.xdg_plink.specs.Ways.{way_of}

-- one that asks for edges takes what its way of linking says
pub record IsReach (p : Principle) : Type 0 where
  pub at : (parts : Parts) (group : Group) (box : List (List Bool)) (place : Edge) (d v : ℕ)
      → TakesAt p parts group box place d v ↔ ((rule : LinkingReach parts group box (way_of p) d v) × (rule.place ≡ place))
  pub takes : (parts : Parts) (group : Group) (box : List (List Bool)) (d v : ℕ) → TakesBy p parts group box d v ↔ LinkingReach parts group box (way_of p) d v
  pub asks : (group : Group) (box : List (List Bool)) (u label : ℕ) → Asks p group box u label ↔ EachEntry box u (λ c. 0 < length (map_row group u c label))

pub is_reach : (p : Principle) → Reaches p → IsReach p
is_reach principles.LinkingEnd r = record { at = λ parts group box place d v. (λ t. t, λ t. t); takes = λ parts group box d v. (λ t. t, λ t. t); asks = λ group box u label. (λ a. a, λ a. a) }
is_reach p r = search rules

pub reach_or_apart : (p : Principle) → IsLinking p → Reaches p ⊎ (p ≡ principles.LinkingNotDaughter)
reach_or_apart principles.LinkingNotDaughter l = inr refl
reach_or_apart p l = inl l

-- one that asks for none keeps them apart
pub not_reaching : (p : Principle) → IsLinking p → (Reaches p → ⊥) → p ≡ principles.LinkingNotDaughter
not_reaching p l free = elim (reach_or_apart p l) [
  | inl reaches ↦ absurd (free reaches)
  | inr apart ↦ apart
]
