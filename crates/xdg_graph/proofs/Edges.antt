-- Edges of a dimension by their numbers.
use Rattle.std.proofs.Common.{◌≡◌, ◌≢◌, ℕ, ◌<◌, ◌≤◌, ◌+◌, ◌↔◌, ◌||◌, inl, inr, Bool, true, IsTrue, List, [], ap, sym, ◌∙◌, arith, subst, refl}
use Rattle.std.specs.Prelude.{Contains}
use Rattle.std.proofs.lemmas.Bool.{cases_eq, false≢true}
use Rattle.xdg_problem.specs.declared.analysis.Edge.{Edge}
use Rattle.xdg_problem.specs.declared.parts.Parts.{Parts}
use Rattle.xdg_problem.specs.Analyses.{IsPlace}
use Rattle.xdg_problem.specs.Boxes.{IsBox}
use Rattle.xdg_problem.specs.Paths.{IsDaughter, IsDaughterBy}
use Rattle.xdg_problem.specs.Places.{edge, nodes}
use Rattle.xdg_problem.specs.Vectors.{shape}
use Rattle.xdg_problem.proofs.Edges.{edge_equal}
use Rattle.xdg_facts.proofs.Contained.{any_of}
use Rattle.xdg_problem.proofs.PlaceOrder.{is_place, place_is}
use Rattle.xdg_rules.specs.Rules.{IsPlaceOn}
use Rattle.xdg_rules.proofs.Shrinking.{may_exact, must_exact}
use Rattle.xdg_graph.specs.declared.which.Which.{Which}
use Rattle.xdg_graph.specs.declared.which.Which.TheVariants as whichs
use Rattle.xdg_graph.specs.Edges.{Stands, edges_of, edge_labels}
use Rattle.xdg_graph.proofs.Labelled.{label_below, place_between}
use Rattle.xdg_facts.specs.Rises.{has}
use Rattle.xdg_facts.proofs.Sets.{either}

-- they are the places of the dimension that may be, or must be
pub which_exact : (which : Which) (parts : Parts) (box : List (List Bool)) (dim : ℕ) (e : Edge) → IsBox (shape parts) box → Contains (edges_of which parts box dim) e ↔ (IsPlaceOn parts dim e × Stands which parts box e)
which_exact whichs.May parts box dim e is = may_exact parts box dim e
which_exact whichs.Must parts box dim e is = must_exact parts box dim e is

-- an edge with a label leads from a node to another
pub stands_by : (which : Which) (parts : Parts) (box : List (List Bool)) (dim u l x : ℕ) → IsBox (shape parts) box → IsDaughterBy (edges_of which parts box dim) u l x ↔ (IsPlace parts (edge dim u l x) × Stands which parts box (edge dim u l x))
stands_by which parts box dim u l x box_is = (
  λ (k, e, within, at, (m, b, d)).
      let stands = (which_exact which parts box dim e box_is).0 (k, within, at) in
      let same = edge_equal e (edge dim u l x) stands.0.1 m b d in
      (subst (IsPlace parts) same (is_place parts e stands.0.0), subst (Stands which parts box) same stands.1),
  λ (is, stands). any_of (λ e. (e.mother.0 ≡ u) × (e.label.0 ≡ l) × (e.daughter.0 ≡ x)) (edges_of which parts box dim) (edge dim u l x)
      ((which_exact which parts box dim (edge dim u l x) box_is).1 ((place_is parts (edge dim u l x) is, refl), stands)) (refl, refl, refl),
)

-- a set of the daughters by a label
pub daughters_exact : (which : Which) (parts : Parts) (box : List (List Bool)) (dim node label : ℕ) (set : List ℕ) → IsBox (shape parts) box → node < nodes parts → label < edge_labels parts dim → ((x : ℕ) → IsTrue (has set x) ↔ ((x < nodes parts) × (node ≢ x) × Stands which parts box (edge dim node label x))) → (x : ℕ) → IsTrue (has set x) ↔ IsDaughterBy (edges_of which parts box dim) node label x
daughters_exact which parts box dim node label set is within l h x = (
  λ t. (let p = (h x).0 t in (stands_by which parts box dim node label x is).1 (place_between parts dim node label x within p.0 p.1 l, p.2)),
  λ d. (let p = (stands_by which parts box dim node label x is).0 d in (h x).1 (p.0.daughter, p.0.differ, p.1)),
)

-- a set of the mothers by a label
pub mothers_exact : (which : Which) (parts : Parts) (box : List (List Bool)) (dim node label : ℕ) (set : List ℕ) → IsBox (shape parts) box → node < nodes parts → label < edge_labels parts dim → ((x : ℕ) → IsTrue (has set x) ↔ ((x < nodes parts) × (x ≢ node) × Stands which parts box (edge dim x label node))) → (x : ℕ) → IsTrue (has set x) ↔ IsDaughterBy (edges_of which parts box dim) x label node
mothers_exact which parts box dim node label set is within l h x = (
  λ t. (let p = (h x).0 t in (stands_by which parts box dim x label node is).1 (place_between parts dim x label node p.0 within p.1 l, p.2)),
  λ d. (let p = (stands_by which parts box dim x label node is).0 d in (h x).1 (p.0.mother, p.0.differ, p.1)),
)

-- ---- edges with any label

-- a node to which a relation leads by one of the first labels
abbrev pub ByFirst : (ℕ → ℕ → Type 0) → ℕ → ℕ → Type 0
ByFirst by k x = (label : ℕ) × (label < k) × by label x

pub first_start : (by : ℕ → ℕ → Type 0) (set : List ℕ) → set ≡ [] → (x : ℕ) → IsTrue (has set x) ↔ ByFirst by 0 x
first_start by set empty x = (λ t. absurd (false≢true (subst (λ s. has s x ≡ true) empty t)), λ b. absurd (let l = b.1 in omega (arith, l)))

pub first_next : (by : ℕ → ℕ → Type 0) (k : ℕ) (old more set : List ℕ) → ((x : ℕ) → IsTrue (has old x) ↔ ByFirst by k x) → ((x : ℕ) → IsTrue (has more x) ↔ by k x) → ((x : ℕ) → has set x ≡ (has old x || has more x)) → (x : ℕ) → IsTrue (has set x) ↔ ByFirst by (k + 1) x
first_next by k old more set before here both x = (
  λ t. elim ((either (has old x) (has more x)).0 (sym (both x) ∙ t)) [
    | inl o ↦ (let b = (before x).0 o in (b.0, (let l = b.1 in omega (arith, l)), b.2))
    | inr m ↦ (k, omega arith, (here x).0 m)
  ],
  λ (label, l, d). both x ∙ (either (has old x) (has more x)).1 (elim (cases_eq label k) [
    | inl same ↦ inr ((here x).1 (subst (λ i. by i x) same d))
    | inr other ↦ inl ((before x).1 (label, omega (arith, l, other), d))
  ]),
)

-- an edge with one of the first labels
abbrev pub IsBelow : List Edge → ℕ → ℕ → ℕ → Type 0
IsBelow edges k u v = (label : ℕ) × (label < k) × IsDaughterBy edges u label v

-- they are all edges
pub any_label : (which : Which) (parts : Parts) (box : List (List Bool)) (dim k u x : ℕ) → IsBox (shape parts) box → edge_labels parts dim ≤ k → IsBelow (edges_of which parts box dim) k u x ↔ IsDaughter (edges_of which parts box dim) u x
any_label which parts box dim k u x is all = (
  λ (label, l, (j, e, within, at, (m, b, d))). (j, e, within, at, (m, d)),
  λ (j, e, within, at, (m, d)).
      let stands = (which_exact which parts box dim e is).0 (j, within, at) in
      let below = label_below parts e (is_place parts e stands.0.0) in
      let same = ap (edge_labels parts) stands.0.1 in
      (e.label.0, omega (arith, below, same, all), (j, e, within, at, (m, refl, d))),
)

-- ---- the daughters of a node

pub below_start : (edges : List Edge) (set : List ℕ) (u : ℕ) → set ≡ [] → (x : ℕ) → IsTrue (has set x) ↔ IsBelow edges 0 u x
below_start edges set u empty x = first_start (IsDaughterBy edges u) set empty x

pub below_next : (edges : List Edge) (k u : ℕ) (old more set : List ℕ) → ((x : ℕ) → IsTrue (has old x) ↔ IsBelow edges k u x) → ((x : ℕ) → IsTrue (has more x) ↔ IsDaughterBy edges u k x) → ((x : ℕ) → has set x ≡ (has old x || has more x)) → (x : ℕ) → IsTrue (has set x) ↔ IsBelow edges (k + 1) u x
below_next edges k u old more set before here both x = first_next (IsDaughterBy edges u) k old more set before here both x

pub below_all : (which : Which) (parts : Parts) (box : List (List Bool)) (dim k u : ℕ) (set : List ℕ) → IsBox (shape parts) box → edge_labels parts dim ≤ k → ((x : ℕ) → IsTrue (has set x) ↔ IsBelow (edges_of which parts box dim) k u x) → (x : ℕ) → IsTrue (has set x) ↔ IsDaughter (edges_of which parts box dim) u x
below_all which parts box dim k u set is all h x = (let same = any_label which parts box dim k u x is all in (λ t. same.0 ((h x).0 t), λ d. (h x).1 (same.1 d)))
