-- What a box has still.
use Rattle.std.proofs.Common.{◌≡◌, ℕ, ◌<◌, inl, inr, Bool, true, false, List, sym, ◌∙◌}
use Rattle.std.proofs.lemmas.Bool.{cases_Bool}
use Rattle.std.specs.Prelude.{Contains}
use Rattle.xdg_problem.specs.declared.analysis.Edge.{Edge}
use Rattle.xdg_problem.specs.declared.parts.Parts.{Parts}
use Rattle.xdg_problem.specs.Boxes.{Has, IsBox, edge_decision, entry_decision}
use Rattle.xdg_problem.specs.Places.{nodes}
use Rattle.xdg_problem.specs.Vectors.{shape}
use Rattle.xdg_problem.proofs.PlaceOrder.{is_place}
use Rattle.xdg_rules.proofs.Shrinking.{may_exact, must_exact}
use Rattle.xdg_facts.specs.Rises.{has as has_node}
use Rattle.xdg_propcore.specs.Touching.{HasTouched, MarksEdge}
use Rattle.xdg_propcore.specs.declared.touched.Touched.{Touched}
use Rattle.xdg_propcore.specs.Losses.{IsLost}
use Rattle.xdg_rules.specs.Rules.{has, IsPlaceOn, may_edges, must_edges}

pub kept_or_lost : (old new : List (List Bool)) (d v : ℕ) → (IsLost old new d v → ⊥) → Has old d v → Has new d v
kept_or_lost old new d v kept h = elim (cases_Bool (has new d v)) [
  | inl there ↦ there
  | inr gone ↦ absurd (kept (h, λ there. (let z : true ≡ false = sym there ∙ gone in cc)))
]

-- where nothing was lost of a node, or of an edge
module _ (parts : Parts) (old new : List (List Bool)) (dim : ℕ) (t : Touched) (touched : HasTouched parts dim old new t) where
  pub entry_kept : (node c : ℕ) → node < nodes parts → (has_node t.entries node ≡ true → ⊥) → Has old (entry_decision node) c → Has new (entry_decision node) c
  entry_kept node c within free = kept_or_lost old new (entry_decision node) c (λ lost. free (touched.entries node c within lost))

  pub edge_kept : (e : Edge) → IsPlaceOn parts dim e → (MarksEdge t e → ⊥) → (x : ℕ) → Has old (edge_decision parts e) x → Has new (edge_decision parts e) x
  edge_kept e on free x = kept_or_lost old new (edge_decision parts e) x (λ lost. free (touched.edges e x (is_place parts e on.0) on.1 lost))

  pub may_kept : (e : Edge) → (MarksEdge t e → ⊥) → Contains (may_edges parts old dim) e → Contains (may_edges parts new dim) e
  may_kept e free c = (let may = (may_exact parts old dim e).0 c in (may_exact parts new dim e).1 (may.0, edge_kept e may.0 free 0 may.1))

  pub must_kept : IsBox (shape parts) old → IsBox (shape parts) new → (e : Edge) → (MarksEdge t e → ⊥) → Contains (must_edges parts new dim) e → Contains (must_edges parts old dim) e
  must_kept was is e free c =
      let must = (must_exact parts new dim e is).0 c in
      (must_exact parts old dim e was).1 (must.0, λ absent. must.1 (edge_kept e must.0 free 1 absent))
