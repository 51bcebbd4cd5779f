-- The items of a node, as sets and as values that remain.
use Rattle.std.proofs.Common.{◌≡◌, ◌≢◌, ℕ, ◌<◌, ◌≤◌, ◌⊎◌, ◌↔◌, inl, inr, Bool, true, IsTrue, List, [], sym, arith, subst}
use Rattle.std.proofs.lemmas.Bool.{false≢true}
use Rattle.xdg_problem.specs.declared.analysis.Edge.{Edge}
use Rattle.xdg_problem.specs.declared.parts.Parts.{Parts}
use Rattle.xdg_problem.specs.Analyses.{IsPlace}
use Rattle.xdg_problem.specs.Boxes.{Has}
use Rattle.xdg_problem.specs.Places.{edge, nodes}
use Rattle.xdg_graph.specs.Edges.{edge_labels}
use Rattle.xdg_graph.proofs.Labelled.{label_below, place_between}
use Rattle.xdg_facts.specs.Rises.{has}

-- ---- daughters

pub follow_exact : (P : Edge → Type 0) (parts : Parts) (dim first u label : ℕ) (set : List ℕ) → dim ≡ first → u < nodes parts → label < edge_labels parts first → ((x : ℕ) → IsTrue (has set x) ↔ ((x < nodes parts) × (u ≢ x) × P (edge dim u label x))) → (v : ℕ) → (has set v ≡ true) ↔ (IsPlace parts (edge first u label v) × P (edge first u label v))
follow_exact P parts dim first u label set same within known exact v = (
  λ h. (let (l, differ, p) = (exact v).0 h in (place_between parts first u label v within l differ known, subst (λ d. P (edge d u label v)) same p)),
  λ (is, p). (exact v).1 (is.daughter, is.differ, subst (λ d. P (edge d u label v)) (sym same) p),
)

pub follow_none : (P : Edge → Type 0) (parts : Parts) (first u label : ℕ) (set : List ℕ) → set ≡ [] → edge_labels parts first ≤ label → (v : ℕ) → (has set v ≡ true) ↔ (IsPlace parts (edge first u label v) × P (edge first u label v))
follow_none P parts first u label set empty past v = (
  λ h. absurd (false≢true (subst (λ s. has s v ≡ true) empty h)),
  λ (is, p). absurd (let l = label_below parts (edge first u label v) is in omega (arith, l, past)),
)

-- ---- a set and a node more

pub items_exact : (Own : Type 0) (Follow : ℕ → Type 0) (asked : Bool) (u : ℕ) (nodes all : List ℕ) → (asked ≡ true) ↔ Own → ((v : ℕ) → (has nodes v ≡ true) ↔ Follow v) → ((v : ℕ) → (has all v ≡ true) ↔ (((v ≡ u) × (asked ≡ true)) ⊎ (has nodes v ≡ true))) → (v : ℕ) → (has all v ≡ true) ↔ (((v ≡ u) × Own) ⊎ Follow v)
items_exact Own Follow asked u nodes all own follow exact v = (
  λ h. elim ((exact v).0 h) [ inl here ↦ inl (here.0, own.0 here.1) | inr there ↦ inr ((follow v).0 there) ],
  λ h. (exact v).1 (elim h [ inl here ↦ inl (here.0, own.1 here.1) | inr there ↦ inr ((follow v).1 there) ]),
)

-- ---- own labels

-- the values but one, up to a number
abbrev pub NoOther : List (List Bool) → ℕ → ℕ → ℕ → Type 0
NoOther box d value k = (x : ℕ) → x < k → Has box d x → x ≡ value
