-- What the rules of trees and of dags take by the edges that must be, and by those that may be.
use Rattle.std.proofs.Common.{◌⊎◌, ℕ, inl, inr, Bool, true, List, refl}
use Rattle.xdg_problem.specs.declared.parts.Group.{Group}
use Rattle.xdg_problem.specs.declared.parts.Parts.{Parts}
use Rattle.xdg_problem.specs.declared.parts.Principle.{Principle}
use Rattle.xdg_problem.specs.declared.parts.Principle.TheVariants as principles
use Rattle.xdg_problem.specs.Arguments.{truth_of}
use Rattle.xdg_rules.specs.Rules.{TakesBy, TakesForRoot}
use Rattle.xdg_pgraph.specs.Musts.{ByMusts}
use Rattle.xdg_pgraph.specs.Ruling.{ForRoot, ForOthers, OthersIf}

abbrev pub IsBranching : Principle → Type 0
IsBranching principles.Tree = Unit {0}
IsBranching principles.Dag = Unit {0}
IsBranching principle = ⊥

-- whether they ask for one root
abbrev pub is_rooted : Principle → Group → Bool
is_rooted principles.Tree group = true
is_rooted principle group = truth_of group.truths 0

module _ (parts : Parts) (group : Group) (box : List (List Bool)) (d v : ℕ) where
  pub root_parts : TakesForRoot parts group box d v → ForRoot parts group box d v ⊎ ForOthers parts group box d v
  root_parts (inl found) = inl (inl found)
  root_parts (inr (inl none)) = inl (inr none)
  root_parts (inr (inr rest)) = inr rest

  pub root_whole : ForRoot parts group box d v ⊎ ForOthers parts group box d v → TakesForRoot parts group box d v
  root_whole (inl (inl found)) = inl found
  root_whole (inl (inr none)) = inr (inl none)
  root_whole (inr rest) = inr (inr rest)

  pub rule_parts : (p : Principle) → IsBranching p → TakesBy p parts group box d v → ByMusts p parts group box d v ⊎ OthersIf (is_rooted p group) parts group box d v
  rule_parts principles.Tree is (inl mother) = inl (inl mother)
  rule_parts principles.Tree is (inr (inl root)) = elim (root_parts root) [ inl here ↦ inl (inr (inl here)) | inr rest ↦ inr (refl, rest) ]
  rule_parts principles.Tree is (inr (inr cycle)) = inl (inr (inr cycle))
  rule_parts principles.Dag is (inl cycle) = inl (inl cycle)
  rule_parts principles.Dag is (inr (inl root)) = elim (root_parts root.1) [ inl here ↦ inl (inr (inl (root.0, here))) | inr rest ↦ inr (root.0, rest) ]
  rule_parts principles.Dag is (inr (inr label)) = inl (inr (inr label))
  rule_parts principle is rule = absurd is

  pub musts_rule : (p : Principle) → ByMusts p parts group box d v → TakesBy p parts group box d v
  musts_rule principles.Tree (inl mother) = inl mother
  musts_rule principles.Tree (inr (inl root)) = inr (inl (root_whole (inl root)))
  musts_rule principles.Tree (inr (inr cycle)) = inr (inr cycle)
  musts_rule principles.Dag (inl cycle) = inl cycle
  musts_rule principles.Dag (inr (inl root)) = inr (inl (root.0, root_whole (inl root.1)))
  musts_rule principles.Dag (inr (inr label)) = inr (inr label)
  musts_rule principle rule = absurd rule

  pub others_rule : (p : Principle) → IsBranching p → OthersIf (is_rooted p group) parts group box d v → TakesBy p parts group box d v
  others_rule principles.Tree is rest = inr (inl (root_whole (inr rest.1)))
  others_rule principles.Dag is rest = inr (inl (rest.0, root_whole (inr rest.1)))
  others_rule principle is rest = absurd is
