-- Nodes at which the rules take nothing that remains.
use Rattle.std.proofs.Common.{◌≡◌, ℕ, ◌<◌, ◌&&◌, Bool, true, false, List, ◌∷◌, sym, ◌∙◌, subst}
use Rattle.std.specs.Prelude.{Contains}
use Rattle.std.proofs.lemmas.Bool.{false≢true}
use Rattle.xdg_problem.specs.declared.analysis.Edge.{Edge}
use Rattle.xdg_problem.specs.declared.parts.Parts.{Parts}
use Rattle.xdg_problem.specs.Boxes.{Has, edge_decision}
use Rattle.xdg_rules.specs.Rules.{IsPlaceOn, SaysPresent, may_edges, must_edges}
use Rattle.xdg_rules.proofs.Shrinking.{may_of, must_is}
use Rattle.xdg_store.specs.States.{State}
use Rattle.xdg_propcore.specs.Passes.{Progress, Clears, IsQuiet}
use Rattle.xdg_propcore.proofs.Passing.{clears_gone}
use Rattle.xdg_pgraph.specs.declared.entered.Entered.{Entered}
use Rattle.xdg_pgraph.specs.declared.found.Found.TheVariants as founds
use Rattle.xdg_graph.specs.declared.which.Which.TheVariants as whichs
use Rattle.xdg_pgraph.specs.declared.incoming.Incoming.{Incoming}
use Rattle.xdg_pgraph.specs.declared.plane.Plane.{Plane}
use Rattle.xdg_pgraph.specs.Entering.{Tells}
use Rattle.xdg_pgraph.specs.Incomings.{AreOf}
use Rattle.xdg_pgraph.specs.Planes.{IsPlane}
use Rattle.xdg_pgraph.specs.Seeking.{Aims, ToNode}
use Rattle.xdg_pgraph.proofs.Told.{entered_within}
use Rattle.xdg_facts.proofs.Rising.{head_in}
use Rattle.xdg_facts.specs.Rises.{has}
use Rattle.xdg_facts.proofs.Sets.{both}

-- where nothing was taken, the box is the same
abbrev pub Stays : Progress → State → Progress → State → Type 0
Stays p old q new = IsQuiet q → IsQuiet p × (new.now ≡ old.now)

pub stays_both : (p q r : Progress) (old mid new : State) → Stays p old q mid → Stays q mid r new → Stays p old r new
stays_both p q r old mid new a b z = (let y = b z in let x = a y.0 in (x.0, y.1 ∙ x.1))

-- the nodes of a box are those of the box now, where nothing was taken
pub still_of : (dim : ℕ) (p : Progress) (old new : State) (incoming : Incoming) → AreOf old.parts old.now dim incoming → new.parts ≡ old.parts → (IsQuiet p → new.now ≡ old.now) → IsQuiet p → AreOf new.parts new.now dim incoming
still_of dim p old new incoming are same quiet z = subst (λ z. AreOf z new.now dim incoming) (sym same) (subst (λ box. AreOf old.parts box dim incoming) (sym (quiet z)) are)

module _ (parts : Parts) (box : List (List Bool)) (dim : ℕ) where
  pub must_may : (e : Edge) → Contains (must_edges parts box dim) e → Contains (may_edges parts box dim) e
  must_may e c = (let m = must_is parts box dim e c in may_of parts box dim e (record { place = m.place; dim_is = m.dim_is; present = m.present }))

  pub place_may : (e : Edge) (d v : ℕ) → IsPlaceOn parts dim e → SaysPresent parts e d v → Has box d v → Contains (may_edges parts box dim) e
  place_may e d v on says h = may_of parts box dim e (record { place = on.0; dim_is = on.1; present = subst (λ k. Has box (edge_decision parts e) k) says.1 (subst (λ k. Has box k v) says.0 h) })

-- the next of some crowded nodes is a node
pub crowded_within : (parts : Parts) (box : List (List Bool)) (plane : Plane) (must may : Entered) (all left rest : List ℕ) (v : ℕ) → IsPlane parts plane → Tells (Contains (must_edges parts box plane.dim.0)) must → ((n : ℕ) → has all n ≡ (has must.some n && has may.more n)) → ((w : ℕ) → has left w ≡ true → has all w ≡ true) → left ≡ v ∷ rest → v < plane.nodes
crowded_within parts box plane must may all left rest v plane_is m is within first = entered_within whichs.Must parts box plane plane_is v must m ((both (has must.some v) (has may.more v)).0 (sym (is v) ∙ within v (head_in left rest v first))).0

-- no edge that may be leads into a node
pub none_enters : (dim w : ℕ) (p : Progress) (s : State) (incoming : Incoming) → AreOf s.parts s.now dim incoming → has incoming.may.some w ≡ false → Clears (Aims s.parts dim founds.More (ToNode w)) p s p s
none_enters dim w p s incoming are none = clears_gone (Aims s.parts dim founds.More (ToNode w)) p s
    (λ d v aim h. false≢true (sym none ∙ (are.may.once w).1 (aim.place, place_may s.parts s.now dim aim.place d v aim.is aim.says h, aim.aimed)))
