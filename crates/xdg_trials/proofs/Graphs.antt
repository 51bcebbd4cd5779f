-- A principle use of graph takes nothing, so every box is closed for it.
use Rattle.std.proofs.Common.{◌≡◌, ℕ, Bool, List, inl, inr, subst}
use Rattle.xdg_problem.specs.declared.parts.Group.{Group}
use Rattle.xdg_problem.specs.declared.parts.Parts.{Parts}
use Rattle.xdg_problem.specs.declared.parts.Principle.{Principle}
use Rattle.xdg_problem.specs.declared.parts.Principle.TheVariants as principles
use Rattle.xdg_problem.specs.Tests.{Test, IsTestOf, linked}
use Rattle.xdg_rules.specs.Rules.{IsClosedFor, TakesBy}
use Rattle.xdg_propcore.specs.Uses.{IsClosedBy, use_at}
use Rattle.xdg_trials.specs.Alone.{IsGraph}

untested : (truths : List Bool) (n labels : ℕ) (test : Test) → IsTestOf principles.Graph truths n labels test → ⊥
untested truths n labels (linked way u l v) named = named
untested truths n labels test named = named

no_test : (p : Principle) (truths : List Bool) (n labels : ℕ) (test : Test) → p ≡ principles.Graph → IsTestOf p truths n labels test → ⊥
no_test p truths n labels test is here = untested truths n labels test (subst (λ q. IsTestOf q truths n labels test) is here)

takes_none : (p : Principle) (parts : Parts) (group : Group) (box : List (List Bool)) (d v : ℕ) → p ≡ principles.Graph → TakesBy p parts group box d v → ⊥
takes_none p parts group box d v is takes = subst (λ q. TakesBy q parts group box d v) is takes

closed_for : (parts : Parts) (group : Group) (box : List (List Bool)) → group.principle ≡ principles.Graph → IsClosedFor parts group box
closed_for parts group box is d v remains (inl fails) = no_test _ _ _ _ fails.test is fails.is
closed_for parts group box is d v remains (inr takes) = takes_none _ _ _ _ _ _ is takes

pub graph_closed : (parts : Parts) (box : List (List Bool)) → IsClosedBy IsGraph parts box
graph_closed parts box number stands = closed_for parts (use_at parts number) box stands.1
