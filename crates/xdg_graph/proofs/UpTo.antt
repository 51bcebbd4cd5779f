-- The nodes up to the last of a sentence are all of them.
use Rattle.std.proofs.Common.{◌≡◌, ◌↔◌, ℕ, ◌+◌, ◌≤◌, true, List, arith}
use Rattle.xdg_facts.specs.Rises.{has}
use Rattle.xdg_graph.specs.Every.{IsEvery}

pub every_up_to : (n last : ℕ) (set : List ℕ) → last + 1 ≡ n → ((v : ℕ) → (has set v ≡ true) ↔ (v ≤ last)) → IsEvery n set
every_up_to n last set is up_to v = (
  λ h. (let l = (up_to v).0 h in omega (arith, l, is)),
  λ l. (up_to v).1 (omega (arith, l, is)),
)
