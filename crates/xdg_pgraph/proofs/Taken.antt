-- Edges that are taken away, step by step.
use Rattle.std.proofs.Common.{◌≡◌, ℕ, ◌<◌, ◌≤◌, ◌↔◌, true, IsTrue, List, refl, ap, subst, arith}
use Rattle.std.specs.Prelude.{Contains}
use Rattle.xdg_facts.specs.Rises.{has}
use Rattle.xdg_problem.specs.declared.analysis.Edge.{Edge}
use Rattle.xdg_problem.specs.declared.parts.Parts.{Parts}
use Rattle.xdg_problem.specs.Analyses.{IsPlace}
use Rattle.xdg_problem.specs.Boxes.{edge_decision}
use Rattle.xdg_problem.specs.Places.{edge}
use Rattle.xdg_problem.proofs.Edges.{edge_equal}
use Rattle.xdg_problem.proofs.PlaceOrder.{place_is}
use Rattle.xdg_rules.specs.Rules.{IsPlaceOn, SaysPresent, may_edges}
use Rattle.xdg_store.specs.States.{State}
use Rattle.xdg_propcore.specs.Passes.{Progress, Clears}
use Rattle.xdg_propcore.proofs.Aimed.{ByOne}
use Rattle.xdg_propcore.proofs.Passing.{clears_like, clears_more, clears_none}
use Rattle.xdg_pgraph.specs.declared.found.Found.{Found}
use Rattle.xdg_pgraph.specs.declared.plane.Plane.{Plane}
use Rattle.xdg_pgraph.specs.Planes.{IsPlane}
use Rattle.xdg_pgraph.specs.Seeking.{Aims, FromTo, IsOther, ToNode, ToWith}
use Rattle.xdg_pgraph.proofs.Skipped.{place_may}

-- ---- one edge

module _ (parts : Parts) (e : Edge) (others : Found) (p : Progress) where
  abbrev This : ℕ → ℕ → Type 0
  This = Aims parts e.dim.0 others (λ f. f ≡ e)

  pub edge_taken : (q : Progress) (old new : State) → IsPlace parts e → IsOther others e → Clears (λ d v. (d ≡ edge_decision parts e) × (v ≡ 0)) p old q new → Clears This p old q new
  edge_taken q old new is other = clears_like (λ d v. (d ≡ edge_decision parts e) × (v ≡ 0)) This p q old new
      (λ d v t. record { place = e; is = (place_is parts e is, refl); aimed = refl; other = other; says = t })
      (λ d v a. subst (λ f. SaysPresent parts f d v) a.aimed a.says)

  -- it is the only one of the others
  pub edge_left : (s : State) → (IsOther others e → ⊥) → Clears This p s p s
  edge_left s only = clears_none This p s (λ d v a. only (subst (IsOther others) a.aimed a.other))

-- ---- edges one after another

-- the edges for each of some numbers are others
module _ (parts : Parts) (dim : ℕ) (others : Found) (Q : ℕ → Type 0) (P : ℕ → Edge → Type 0) (R : Edge → Type 0) (to : (x : ℕ) (e : Edge) → IsPlaceOn parts dim e → Q x → P x e → R e) (p q : Progress) (old new : State) where
  abbrev Those : ℕ → ℕ → Type 0
  Those = ByOne Q (λ x. Aims parts dim others (P x))

  there : (d v : ℕ) → Those d v → Aims parts dim others R d v
  there d v (x, q, a) = record { place = a.place; is = a.is; aimed = to x a.place a.is q a.aimed; other = a.other; says = a.says }

  -- of those that may be
  pub aims_all : ((e : Edge) → Contains (may_edges parts old.now dim) e → IsPlaceOn parts dim e → R e → (x : ℕ) × Q x × P x e) → Clears Those p old q new → Clears (Aims parts dim others R) p old q new
  aims_all from = clears_more Those (Aims parts dim others R) p q old new there
      (λ d v a h. (let t = from a.place (place_may parts old.now dim a.place d v a.is a.says h) a.is a.aimed in (t.0, t.1, record { place = a.place; is = a.is; aimed = t.2; other = a.other; says = a.says })))

-- one of some edges
abbrev pub OneOf : ℕ → Found → (ℕ → Edge) → Parts → ℕ → ℕ → ℕ → Type 0
OneOf dim others at parts x = Aims parts dim others (λ e. e ≡ at x)

-- the edges from a node to another, label by label
pub labels_joined : (parts : Parts) (plane : Plane) (others : Found) (u v l : ℕ) (p q : Progress) (old new : State) → IsPlane parts plane → plane.labels ≤ l
    → Clears (ByOne (λ x. x < l) (OneOf plane.dim.0 others (λ x. edge plane.dim.0 u x v) parts)) p old q new → Clears (Aims parts plane.dim.0 others (FromTo u v)) p old q new
labels_joined parts plane others u v l p q old new is all = aims_all parts plane.dim.0 others (λ x. x < l) (λ x e. e ≡ edge plane.dim.0 u x v) (FromTo u v)
    (λ x e on less same. (ap (λ (f : Edge). f.mother.0) same, ap (λ (f : Edge). f.daughter.0) same))
    p q old new
    (λ e may on j. (e.label.0, (let k = ((is.exact e).0 on).label in omega (arith, k, all)), edge_equal e (edge plane.dim.0 u e.label.0 v) on.1 j.0 refl j.1))

-- those into a node, label by label
pub labels_entering : (parts : Parts) (plane : Plane) (others : Found) (v l : ℕ) (p q : Progress) (old new : State) → IsPlane parts plane → plane.labels ≤ l
    → Clears (ByOne (λ x. x < l) (λ x. Aims parts plane.dim.0 others (ToWith v x))) p old q new → Clears (Aims parts plane.dim.0 others (ToNode v)) p old q new
labels_entering parts plane others v l p q old new is all = aims_all parts plane.dim.0 others (λ x. x < l) (λ x. ToWith v x) (ToNode v)
    (λ x e on less with. with.0)
    p q old new
    (λ e may on into. (e.label.0, (let k = ((is.exact e).0 on).label in omega (arith, k, all)), (into, refl)))

-- those with a label into a node, mother by mother
pub mothers_with : (dim : ℕ) (others : Found) (v l : ℕ) (mothers : List ℕ) (p q : Progress) (old new : State)
    → ((x : ℕ) → IsTrue (has mothers x) ↔ Contains (may_edges old.parts old.now dim) (edge dim x l v))
    → Clears (ByOne (λ x. has mothers x ≡ true) (OneOf dim others (λ x. edge dim x l v) old.parts)) p old q new → Clears (Aims old.parts dim others (ToWith v l)) p old q new
mothers_with dim others v l mothers p q old new exact = aims_all old.parts dim others (λ x. has mothers x ≡ true) (λ x e. e ≡ edge dim x l v) (ToWith v l)
    (λ x e on there same. (ap (λ (f : Edge). f.daughter.0) same, ap (λ (f : Edge). f.label.0) same))
    p q old new
    (λ e may on with.
    let same = edge_equal e (edge dim e.mother.0 l v) on.1 refl with.1 with.0 in
    (e.mother.0, (exact e.mother.0).1 (subst (Contains (may_edges old.parts old.now dim)) same may), same))
