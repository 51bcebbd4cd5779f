-- The edges that lead into nodes, as the code counts them: none, one, or more.
use Rattle.std.specs.Prelude.{◌≡◌, ◌≢◌, ◌⊎◌, ℕ, Bool, List, Contains}
use Rattle.std.specs.Int.{bit_at}
use Rattle.xdg_problem.specs.declared.analysis.Edge.{Edge}
use Rattle.xdg_problem.specs.declared.parts.Parts.{Parts}
use Rattle.xdg_rules.specs.Rules.{may_edges, must_edges}
use Rattle.xdg_store.specs.declared.labels.Labels.{Labels}
use Rattle.xdg_pgraph.specs.Entering.{Tells}
use Rattle.xdg_pgraph.specs.Seeking.{Into}
use Rattle.xdg_pgraph.specs.declared.entered.Count.{Count}
use Rattle.xdg_pgraph.specs.declared.entered.Count.TheVariants as counts
use Rattle.xdg_pgraph.specs.declared.incoming.Counts.{Counts}
use Rattle.xdg_pgraph.specs.declared.incoming.Incoming.{Incoming}

-- the nodes are those of the edges of a box
pub record AreOf (parts : Parts) (box : List (List Bool)) (dim : ℕ) (incoming : Incoming) : Type 0 where
  pub may : Tells (Contains (may_edges parts box dim)) incoming.may
  pub must : Tells (Contains (must_edges parts box dim)) incoming.must

-- how many edges are so
abbrev pub IsCount : (Edge → Type 0) → Count → Type 0
IsCount P counts.Nothing = (e : Edge) → P e → ⊥
IsCount P counts.One = (e : Edge) × P e × ((f : Edge) → P f → e ≡ f)
IsCount P counts.More = (e : Edge) × (f : Edge) × P e × P f × (e ≡ f → ⊥)

-- so many edges have these labels
abbrev pub HaveLabels : Labels → Count → Type 0
HaveLabels labels counts.Nothing = labels.some ≡ 0
HaveLabels labels counts.One =
    (l : ℕ) × (bit_at labels.some l ≡ 1) × ((k : ℕ) → k ≢ l → bit_at labels.some k ≡ 1 → ⊥) × (labels.more ≡ 0)
HaveLabels labels counts.More =
    ((l : ℕ) × (bit_at labels.more l ≡ 1)) ⊎ ((l : ℕ) × (k : ℕ) × (k ≢ l) × (bit_at labels.some l ≡ 1) × (bit_at labels.some k ≡ 1))

-- of the edges of a box into a node
pub record AreCounts (parts : Parts) (box : List (List Bool)) (dim w : ℕ) (here : Counts) : Type 0 where
  pub may : IsCount (Into (may_edges parts box dim) w) here.may
  pub must : IsCount (Into (must_edges parts box dim) w) here.must

-- more than one edge may, or one that must be
abbrev pub CountsSettle : Counts → Type 0
CountsSettle here = (here.may ≡ counts.More) ⊎ ((here.may ≡ counts.One) × (here.must ≢ counts.Nothing))
