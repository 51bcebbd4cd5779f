-- At a place where nothing was lost of what the rules look at they take no more than before.
use Rattle.std.proofs.Common.{ℕ, ◌<◌, Bool, List, arith}
use Rattle.xdg_problem.specs.declared.analysis.Edge.{Edge}
use Rattle.xdg_problem.specs.declared.parts.Group.{Group}
use Rattle.xdg_problem.specs.declared.parts.Parts.{Parts}
use Rattle.xdg_problem.specs.declared.parts.Principle.{Principle}
use Rattle.xdg_problem.specs.declared.parts.Principle.TheVariants as principles
use Rattle.xdg_problem.specs.Arguments.{first_dim}
use Rattle.xdg_rules.specs.Rules.{IsPlaceOn, TakesBy}
use Rattle.xdg_rules.proofs.Antitone.{PlaceLies, agreement_values, government_values}
use Rattle.xdg_pagree.specs.Family.{IsOfPlaces}
use Rattle.xdg_pagree.specs.Places.{PlaceAsks, PlaceLacks}
use Rattle.xdg_problem.specs.Principles.{attr_arguments}

pub attr_some : (p : Principle) → IsOfPlaces p → 0 < attr_arguments p
attr_some principles.Agreement asks = omega arith
attr_some principles.Government asks = omega arith
attr_some p asks = absurd asks

-- what is lacked where it is asked for the rule takes
pub rule_at : (p : Principle) → IsOfPlaces p → (parts : Parts) (group : Group) (box : List (List Bool)) (e : Edge) → IsPlaceOn parts (first_dim group) e
    → PlaceAsks p group box e.mother.0 e.label.0 → (d v : ℕ) → PlaceLacks p parts group box e d v → TakesBy p parts group box d v
rule_at principles.Agreement of parts group box e on asks d v lacks = record { place = e; is = on; asks = asks; lacks = lacks }
rule_at principles.Government of parts group box e on asks d v lacks = record { place = e; is = on; governs = asks; lacks = lacks }
rule_at p of parts group box e on asks d v lacks = absurd of

-- what it takes now it took before, where nothing was lost of what it reads
pub took_at : (p : Principle) → IsOfPlaces p → (parts : Parts) (group : Group) (old new : List (List Bool)) (e : Edge) → IsPlaceOn parts (first_dim group) e
    → PlaceLies parts group old new p e → PlaceAsks p group new e.mother.0 e.label.0 → (d v : ℕ) → PlaceLacks p parts group new e d v → TakesBy p parts group old d v
took_at principles.Agreement of parts group old new e on lies asks d v lacks = agreement_values parts group old new d v (record { place = e; is = on; asks = asks; lacks = lacks }) lies
took_at principles.Government of parts group old new e on lies asks d v lacks = government_values parts group old new d v (record { place = e; is = on; governs = asks; lacks = lacks }) lies
took_at p of parts group old new e on lies asks d v lacks = absurd of
