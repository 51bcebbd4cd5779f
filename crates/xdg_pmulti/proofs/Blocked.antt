-- The table of the nodes that block a label.
use Rattle.std.proofs.Common.{◌≡◌, ℕ, ◌<◌, ◌≤◌, ◌↔◌, List, [], length, replicate, ◌∙◌, ap, arith}
use Rattle.std.proofs.lemmas.List.{length-replicate}
use Rattle.xdg_nodeset.specs.Tables.{InTable}
use Rattle.xdg_nodeset.proofs.TableSets.{no_in}

-- the sets of the first labels are filled, and the others are empty
pub record Filled (B : ℕ → ℕ → Type 0) (k : ℕ) (table : List (List ℕ)) : Type 0 where
  pub long : length table ≡ 32
  pub done : (l x : ℕ) → l < k → InTable table l x ↔ B l x
  pub left : (l x : ℕ) → k ≤ l → InTable table l x → ⊥

pub filled_start : (B : ℕ → ℕ → Type 0) (set : List ℕ) (table : List (List ℕ)) → set ≡ [] → table ≡ replicate 32 set → Filled B 0 table
filled_start B set table empty is = record {
  long = ap length is ∙ length-replicate 32 set;
  done = λ l x m. absurd (omega (arith, m));
  left = λ l x m i. no_in table 32 set is empty l x i;
}
