use Rattle.std.proofs.Common.{ℕ, ◌<◌}
use Rattle.xdg_rules.specs.Rules.{IsDecided, attr_of_node}
use Rattle.xdg_porder.specs.Yields.{IsBrokenAt}
use Rattle.xdg_porder.proofs.failing.fails_test.Given as goal

abbrev pub invariant-loop-u : goal.invariant-loop-u
invariant-loop-u l = (u : ℕ) → u < l.u → IsDecided l.store.now (attr_of_node l.store.parts l.group 0 u) × IsBrokenAt l.store.parts l.group l.table l.store.now u → ⊥
