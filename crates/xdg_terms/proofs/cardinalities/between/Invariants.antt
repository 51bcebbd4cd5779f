use Rattle.std.proofs.Common.{◌≡◌, ℕ, ◌≤◌}
use Rattle.std.specs.Prelude.{nat_lt, ◌&&◌}
use Rattle.xdg_terms.specs.Counted.{told, AreCards}
use Rattle.xdg_terms.proofs.Counting.{within}
use Rattle.xdg_terms.proofs.cardinalities.between.Given as goal

abbrev pub invariant-loop-number : goal.invariant-loop-number
invariant-loop-number l = AreCards l.made × ((l.low ≤ l.number) × ((n : ℕ) → told l.made n ≡ (nat_lt n l.number && within l.low l.high n)))
