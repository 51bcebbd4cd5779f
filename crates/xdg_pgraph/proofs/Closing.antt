-- Where the rules of the family take nothing that remains the box is closed: then no test is decided and fails.
use Rattle.std.proofs.Common.{ℕ, inl, inr, Bool, List}
use Rattle.xdg_problem.specs.declared.parts.Group.{Group}
use Rattle.xdg_problem.specs.declared.parts.Parts.{Parts}
use Rattle.xdg_problem.specs.declared.parts.Principle.{Principle}
use Rattle.xdg_problem.specs.declared.parts.Principle.TheVariants as principles
use Rattle.xdg_problem.specs.Arguments.{first_dim, label_count}
use Rattle.xdg_problem.specs.Boxes.{Has, IsBox, entry_decision}
use Rattle.xdg_problem.specs.Places.{nodes}
use Rattle.xdg_problem.specs.Problems.{IsProblem}
use Rattle.xdg_problem.specs.Tests.{Test, one_root}
use Rattle.xdg_problem.specs.Vectors.{shape}
use Rattle.xdg_problem.proofs.EachTest.{Each, each_tested}
use Rattle.xdg_rules.specs.Rules.{TestDecided, TestPasses, TakesForRoot, IsClosedFor}
use Rattle.xdg_rules.proofs.Sizes.{node_within}
use Rattle.xdg_propcore.proofs.ByRules.{NoRule, closed_by}
use Rattle.xdg_pgraph.specs.Family.{IsOfFamily}
use Rattle.xdg_pgraph.proofs.CountTests.{out_passes, in_passes}
use Rattle.xdg_pgraph.proofs.TreeTests.{one_mother_passes, no_cycle_passes, one_root_passes, one_label_passes}

module _ (parts : Parts) (group : Group) (box : List (List Bool)) (problem : IsProblem parts) (is : IsBox (shape parts) box) where
  abbrev Fine : Test → Type 0
  Fine test = TestDecided parts group box test → TestPasses parts group box test

  -- some value remains, so what takes each takes one that remains
  root_fine : ((d v : ℕ) → Has box d v → TakesForRoot parts group box d v → ⊥) → Fine one_root
  root_fine none decided =
      let entry = is.filled (entry_decision 0) (node_within parts 0 problem problem.some) in
      one_root_passes parts group box decided.edges (λ fails. none (entry_decision 0) entry.0 entry.1 (inr (inl fails))) (λ fails. none (entry_decision 0) entry.0 entry.1 (inr (inr (inr fails))))

  each_fine : (p : Principle) → IsOfFamily p → NoRule parts group box p → Each group.truths (nodes parts) (label_count parts (first_dim group)) Fine p
  each_fine principles.Graph family none = tt
  each_fine principles.Entries family none = tt
  each_fine principles.Tree family none = (
    (λ v within k last decided. one_mother_passes parts group box v k decided.edges (λ d x h r. none d x h (inl r))),
    (λ k last decided. no_cycle_passes parts group box k decided.edges (λ d x h r. none d x h (inr (inr r)))),
    root_fine (λ d x h r. none d x h (inr (inl r))),
  )
  each_fine principles.Dag family none = (
    (λ k last decided. no_cycle_passes parts group box k decided.edges (λ d x h r. none d x h (inl r))),
    (λ rooted. root_fine (λ d x h r. none d x h (inr (inl (rooted, r))))),
    (λ disjoint u within v also decided. one_label_passes parts group box u v decided.edges (λ d x h r. none d x h (inr (inr (disjoint, r))))),
  )
  each_fine principles.Valency family none = (
    (λ v within l known k last decided. out_passes parts group box v l k within known decided (λ d x h r. none d x h (inl r))),
    (λ v within l known k last decided. in_passes parts group box v l k within known decided (λ d x h r. none d x h (inl r))),
  )
  each_fine p family none = absurd family

  -- where the rules take nothing that remains the box is closed
  pub closed_by_rules : IsOfFamily group.principle → NoRule parts group box group.principle → IsClosedFor parts group box
  closed_by_rules family none = closed_by parts group box (each_tested group.truths (nodes parts) (label_count parts (first_dim group)) Fine group.principle (each_fine group.principle family none)) none
