-- A loop over the nodes of a set: those that are still to come.
use Rattle.std.proofs.Common.{◌≡◌, ℕ, ◌+◌, ◌<◌, ◌≤◌, List, ◌∷◌, sym, ◌∙◌, subst}
use Rattle.xdg_nodeset.specs.Nodes.{IsNodes}
use Rattle.xdg_facts.specs.Rises.{Rises}

-- they rise
pub record Ahead (left : List ℕ) : Type 0 where
  pub low : ℕ
  pub rises : Rises low 128 left

pub ahead_start : (set items left : List ℕ) → IsNodes set → items ≡ set → left ≡ items → Ahead left
ahead_start set items left is same at = subst Ahead (sym (at ∙ same)) (record { low = 0; rises = is.rises })

module _ (left rest : List ℕ) (v : ℕ) (is : left ≡ v ∷ rest) (ahead : Ahead left) where
  ahead_parts : (ahead.low ≤ v) × (v < 128) × Rises (v + 1) 128 rest
  ahead_parts = subst (Rises ahead.low 128) is ahead.rises

  pub ahead_small : v < 128
  ahead_small = ahead_parts.1

  pub ahead_next : Ahead rest
  ahead_next = record { low = v + 1; rises = ahead_parts.2 }
