-- A prefix with which a closed box agrees is live, and so are all its fronts.
use Rattle.std.proofs.Common.{◌≡◌, ℕ, inl, inr, Bool, List, length, map, sym, ap, ◌∙◌, arith}
use Rattle.std.specs.Prelude.{filter}
use Rattle.std.proofs.lemmas.List.{length-map}
use Rattle.xdg_facts.specs.Closed.{Closed}
use Rattle.xdg_problem.specs.declared.parts.Group.{Group}
use Rattle.xdg_problem.specs.declared.parts.Parts.{Parts}
use Rattle.xdg_problem.specs.Live.{entry_in, attr_in, Stands, Holds, IsLiveFor, Live}
use Rattle.xdg_problem.specs.Places.{nodes}
use Rattle.xdg_problem.specs.Problems.{IsProblem, IsGroup}
use Rattle.xdg_problem.specs.Tests.{Test, IsTest, looks_at, entry_node, test_attrs}
use Rattle.xdg_problem.specs.Vectors.{shape, edges_in}
use Rattle.xdg_problem.proofs.LiveDecided.{decided_passes}
use Rattle.xdg_problem.specs.Boxes.{IsBox, Agrees}
use Rattle.xdg_rules.specs.Rules.{FailsTest, IsClosedFor, IsClosed}
use Rattle.xdg_rules.specs.Boxed.{Boxed}
use Rattle.xdg_rules.proofs.Sizes.{some_value}
use Rattle.xdg_rules.proofs.Agreeing.{agrees_short, agrees_front, stands_decided, holds_passes}
use Rattle.xdg_rules.proofs.Asked.{asked_whole}

-- in a box that is closed for a principle use no test of it fails
pub none_fails : (parts : Parts) (group : Group) (box : List (List Bool)) → IsProblem parts → IsBox (shape parts) box → IsClosedFor parts group box → FailsTest parts group box → ⊥
none_fails parts group box problem is closed failing = (let some = some_value parts box problem is in closed 0 some.0 some.1 (inl failing))

module _ (parts : Parts) (box : List (List Bool)) (p : List ℕ) (problem : IsProblem parts) (is : IsBox (shape parts) box) (agrees : Agrees box p) where
  pub closed_tests : (group : Group) → IsClosedFor parts group box → (test : Test) → IsTest parts group test → Stands parts group test p → Holds parts group test p
  closed_tests group closed test tested stands = elim (decided_passes (nodes parts) group test (entry_in (entry_node test) p) (map (attr_in parts p) (test_attrs parts group test)) (filter (looks_at group test) (edges_in parts p))) [
    | inl holds ↦ holds
    | inr fails ↦ absurd (none_fails parts group box problem is closed (record {
      test = test;
      is = tested;
      decided = stands_decided parts box p agrees group test stands;
      fails = λ passes. fails ((holds_passes parts box p agrees group test stands).1 passes);
    }))
  ]

  pub closed_live_for : (group : Group) → IsGroup parts group → IsClosedFor parts group box → IsLiveFor parts group p
  closed_live_for group group_is closed = record {
    tests = closed_tests group closed;
    whole = λ long. (let short = agrees_short box p agrees in let size : length box ≡ length (shape parts) = sym (length-map box length) ∙ ap length is.sizes in
        asked_whole parts group box p problem is (omega (arith, long, short, size)) agrees group.principle group_is.suits (λ d v has by. closed d v has (inr by)));
  }

  pub closed_live : IsClosed parts box → Live parts p
  closed_live closed k d within = closed_live_for _ (problem.groups k d within) (closed k d within)

-- each boxed prefix is live
pub boxed_live : (parts : Parts) (p : List ℕ) → IsProblem parts → Boxed parts p → Live parts p
boxed_live parts p problem boxed = closed_live parts boxed.box p problem boxed.is boxed.agrees boxed.closed

-- each front of a boxed prefix is boxed
pub boxed_closed : (parts : Parts) → Closed (Boxed parts)
boxed_closed parts p t some boxed = record { box = boxed.box; is = boxed.is; closed = boxed.closed; agrees = agrees_front boxed.box p t boxed.agrees }
