-- Sets that gather what each node of another set brings.
use Rattle.std.proofs.Common.{ℕ, inl, inr, List, sym, ap, ◌∙◌}
use Rattle.std.proofs.lemmas.Bool.{cases_lt, false≢true}
use Rattle.xdg_nodeset.specs.Nodes.{IsNodes}
use Rattle.xdg_facts.specs.Rises.{has}
use Rattle.xdg_facts.proofs.Rising.{has_beyond}
use Rattle.xdg_facts.proofs.Gathering.{AreSmall}

pub nodes_small : (set : List ℕ) → IsNodes set → AreSmall set
nodes_small set is v h = elim (cases_lt v 128) [
  | inl less ↦ less
  | inr past ↦ absurd (false≢true (sym (ap (λ s. has s v) is.whole ∙ has_beyond 128 (has set) v past) ∙ h))
]
