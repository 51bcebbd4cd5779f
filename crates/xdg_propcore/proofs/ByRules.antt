-- A family by its rules: where they take nothing that remains the box is closed, and it stays so while they take no more.
use Rattle.std.proofs.Common.{ℕ, inl, inr, Bool, List, refl, rules}
use Rattle.xdg_problem.specs.declared.parts.Group.{Group}
use Rattle.xdg_problem.specs.declared.parts.Parts.{Parts}
use Rattle.xdg_problem.specs.declared.parts.Principle.{Principle}
use Rattle.xdg_problem.specs.declared.parts.Principle.TheVariants as principles
use Rattle.xdg_problem.specs.declared.principles.PrincipleFamily.{PrincipleFamily}
use Rattle.xdg_problem.specs.declared.principles.PrincipleFamily.TheVariants as families
use Rattle.xdg_problem.specs.Arguments.{first_dim, label_count}
use Rattle.xdg_problem.specs.Boxes.{Has}
use Rattle.xdg_problem.specs.Places.{nodes}
use Rattle.xdg_problem.specs.Principles.{IsOf}
use Rattle.xdg_problem.specs.Problems.{IsGroup, IsProblem}
use Rattle.xdg_problem.specs.Tests.{Test, IsTestOf}
use Rattle.xdg_rules.specs.Rules.{IsClosedFor, TakesBy, TestDecided, TestPasses}
use Rattle.xdg_rules.proofs.Antitone.{IsAntitone, antitone}
use Rattle.xdg_rules.proofs.Failing.{fails_small}
use Rattle.xdg_propcore.specs.Families.{LosesUnseen, StaysClosed}
use Rattle.xdg_propcore.proofs.Unseen.{lies_unseen}

-- no rule of a principle takes a value that remains
abbrev pub NoRule : Parts → Group → List (List Bool) → Principle → Type 0
NoRule parts group box p = (d v : ℕ) → Has box d v → TakesBy p parts group box d v → ⊥

-- each test of it that is decided passes
abbrev pub PassesAll : Parts → Group → List (List Bool) → Principle → Type 0
PassesAll parts group box p =
    (test : Test) → IsTestOf p group.truths (nodes parts) (label_count parts (first_dim group)) test → TestDecided parts group box test → TestPasses parts group box test

pub closed_by : (parts : Parts) (group : Group) (box : List (List Bool)) → PassesAll parts group box group.principle → NoRule parts group box group.principle → IsClosedFor parts group box
closed_by parts group box passes none d v remains (inl fails) = fails.fails (passes fails.test fails.is fails.decided)
closed_by parts group box passes none d v remains (inr rule) = none d v remains rule

-- a test that fails failed before, so where the rules take nothing what was closed stays so
module _ (Holds : Principle → Type 0) where
  abbrev pub NoneTaken : Type 0
  NoneTaken =
      (parts : Parts) (group : Group) (old new : List (List Bool)) → IsProblem parts → IsGroup parts group → Holds group.principle → LosesUnseen parts group old new
      → IsClosedFor parts group old → NoRule parts group new group.principle

  pub stays_by_rules : NoneTaken → StaysClosed Holds
  stays_by_rules none parts group old new problem is holds unseen closed d v remains (inl failing) =
      closed d v (unseen.inside d v remains) (inl (fails_small parts group old new problem is unseen.was (lies_unseen parts group old new unseen problem is) failing))
  stays_by_rules none parts group old new problem is holds unseen closed d v remains (inr rule) = none parts group old new problem is holds unseen closed d v remains rule

-- the rules of these families take no more where no more is left
abbrev pub AreAntitone : PrincipleFamily → Type 0
AreAntitone families.Graph = ⊥
AreAntitone families.Rule = ⊥
AreAntitone families.Bound = ⊥
AreAntitone family = Unit {0}

is_antitone : (family : PrincipleFamily) → AreAntitone family → (p : Principle) → IsOf family p → IsAntitone p
is_antitone family none principles.Tree of = absurd (search rules)
is_antitone family some p of = search rules

pub family_stays : (family : PrincipleFamily) → AreAntitone family → StaysClosed (IsOf family)
family_stays family less = stays_by_rules (IsOf family) (λ parts group old new problem is of unseen closed d v remains rule.
    closed d v (unseen.inside d v remains) (inr (antitone parts group is old new unseen.was group.principle refl (is_antitone family less group.principle of) (lies_unseen parts group old new unseen problem is) d v rule)))
