-- The tests of each principle, written out.
use Rattle.std.proofs.Common.{◌≡◌, ℕ, ◌<◌, Bool, true, false, List, Option, Some, None, sym, subst, rules}
use Rattle.xdg_problem.specs.declared.parts.Linking.{Linking}
use Rattle.xdg_problem.specs.declared.parts.Principle.{Principle}
use Rattle.xdg_problem.specs.declared.parts.Principle.TheVariants as principles
use Rattle.xdg_problem.specs.Principles.{linking_of}
use Rattle.xdg_problem.specs.Arguments.{truth_of}
use Rattle.xdg_problem.specs.Tests.{Test, IsTestOf, out_count, in_count, one_mother, no_cycle, one_root, one_label, ordered_daughters, ordered_yields, projective, allowed_value, agreeing, governed, climbing, not_blocked, linked, unlinked, entry_node}

module _ (truths : List Bool) (n labels : ℕ) (Q : Test → Type 0) where
  -- for each node, for each two, for each two and a label
  abbrev pub EachNode : (ℕ → Test) → Type 0
  EachNode test = (v : ℕ) → v < n → Q (test v)

  abbrev pub EachPair : (ℕ → ℕ → Test) → Type 0
  EachPair test = (u : ℕ) → u < n → (v : ℕ) → v < n → Q (test u v)

  abbrev pub EachTriple : (ℕ → ℕ → ℕ → Test) → Type 0
  EachTriple test = (u : ℕ) → u < n → (l : ℕ) → l < labels → (v : ℕ) → v < n → Q (test u l v)

  -- of each test of a principle that links in a way
  abbrev pub EachLinked : Option Linking → Type 0
  EachLinked None = Unit {0}
  EachLinked (Some way) = EachTriple (linked way)

  -- Q holds of each test of a principle
  abbrev pub Each : Principle → Type 0
  Each principles.Graph = Unit {0}
  Each principles.Entries = Unit {0}
  Each principles.Tree = EachPair one_mother × EachNode no_cycle × Q one_root
  Each principles.Dag = EachNode no_cycle × (truth_of truths 0 ≡ true → Q one_root) × (truth_of truths 1 ≡ true → EachPair one_label)
  Each principles.Valency = EachTriple out_count × EachTriple in_count
  Each principles.Order = (truth_of truths 0 ≡ false → EachNode ordered_daughters) × (truth_of truths 0 ≡ true → EachNode ordered_yields)
  Each principles.Projectivity = EachPair projective
  Each principles.Agr = EachNode allowed_value
  Each principles.Agreement = EachTriple agreeing
  Each principles.Government = EachTriple governed
  Each principles.Climbing = EachPair climbing
  Each principles.Barriers = EachPair not_blocked
  Each principles.LinkingNotDaughter = EachTriple unlinked
  Each (principles.Rule formula) = Unit {0}
  Each (principles.Bound costs bound) = Unit {0}
  Each principle = EachLinked (linking_of principle)

  abbrev pub Tested : Principle → Type 0
  Tested principle = (test : Test) → IsTestOf principle truths n labels test → Q test

  pub tested_each : (principle : Principle) → Tested principle → Each principle
  tested_each principles.Graph t = tt
  tested_each principle t = search (rules, t)

  pub each_tested : (principle : Principle) → Each principle → Tested principle
  each_tested principles.Tree each (one_mother v k) is = each.0 v is.0 k is.1
  each_tested principles.Tree each (no_cycle k) is = each.1 k is
  each_tested principles.Tree each one_root is = each.2
  each_tested principles.Dag each (no_cycle k) is = each.0 k is
  each_tested principles.Dag each one_root is = each.1 is
  each_tested principles.Dag each (one_label u v) is = each.2 is.0 u is.1 v is.2
  each_tested principles.Valency each (out_count v l k) is = each.0 v is.0 l is.1 k is.2
  each_tested principles.Valency each (in_count v l k) is = each.1 v is.0 l is.1 k is.2
  each_tested principles.Order each (ordered_daughters u) is = each.0 is.0 u is.1
  each_tested principles.Order each (ordered_yields u) is = each.1 is.0 u is.1
  each_tested principles.Projectivity each (projective u v) is = each u is.0 v is.1
  each_tested principles.Agr each (allowed_value v) is = each v is
  each_tested principles.Agreement each (agreeing u l v) is = each u is.0 l is.1 v is.2
  each_tested principles.Government each (governed u l v) is = each u is.0 l is.1 v is.2
  each_tested principles.Climbing each (climbing u v) is = each u is.0 v is.1
  each_tested principles.Barriers each (not_blocked w v) is = each w is.0 v is.1
  each_tested principles.LinkingEnd each (linked asked u l v) is = subst (λ w. Q (linked w u l v)) (sym is.0) (each u is.1.0 l is.1.1 v is.1.2)
  each_tested principles.LinkingDaughter each (linked asked u l v) is = subst (λ w. Q (linked w u l v)) (sym is.0) (each u is.1.0 l is.1.1 v is.1.2)
  each_tested principles.LinkingMother each (linked asked u l v) is = subst (λ w. Q (linked w u l v)) (sym is.0) (each u is.1.0 l is.1.1 v is.1.2)
  each_tested principles.LinkingBelowStart each (linked asked u l v) is = subst (λ w. Q (linked w u l v)) (sym is.0) (each u is.1.0 l is.1.1 v is.1.2)
  each_tested principles.LinkingAboveStart each (linked asked u l v) is = subst (λ w. Q (linked w u l v)) (sym is.0) (each u is.1.0 l is.1.1 v is.1.2)
  each_tested principles.LinkingSisters each (linked asked u l v) is = subst (λ w. Q (linked w u l v)) (sym is.0) (each u is.1.0 l is.1.1 v is.1.2)
  each_tested principles.LinkingNotDaughter each (unlinked u l v) is = each u is.0 l is.1 v is.2
  each_tested principle each (linked asked u l v) is = absurd is
  each_tested principle each test is = absurd is

-- the node whose entry a test looks at is a node
abbrev pub IsNode : ℕ → Option ℕ → Type 0
IsNode n None = Unit {0}
IsNode n (Some node) = node < n

pub each_node : (truths : List Bool) (n labels : ℕ) (principle : Principle) → Each truths n labels (λ test. IsNode n (entry_node test)) principle
each_node truths n labels principles.Graph = tt
each_node truths n labels principle = search rules
