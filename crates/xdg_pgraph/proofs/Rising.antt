-- Rising lists of numbers.
use Rattle.std.proofs.Common.{ℕ, ◌<◌, ◌≤◌, List, ◌+◌, arith}
use Rattle.std.specs.Prelude.{Contains}
use Rattle.xdg_nodeset.specs.Nodes.{IsNodes}
use Rattle.xdg_problem.specs.Places.{below}
use Rattle.xdg_problem.proofs.Ordered.{numbers_within}
use Rattle.xdg_facts.proofs.Each.{each_contained}
use Rattle.xdg_facts.proofs.Merging.{AreRising, rises_ordered}

-- ---- numbers below another

pub node_below : (n v : ℕ) → Contains (below n) v → v < n
node_below n v c = (let l = each_contained (λ i. (0 ≤ i) × (i < 0 + n)) (below n) v (numbers_within 0 n) c in let r = l.1 in omega (arith, r))

-- ---- sets of nodes

pub nodes_rising : (s : List ℕ) → IsNodes s → AreRising s
nodes_rising s is = rises_ordered 0 128 s is.rises
