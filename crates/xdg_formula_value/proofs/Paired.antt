-- Nodes that are related to others, as rows.
use Rattle.std.proofs.Common.{◌≡◌, ◌↔◌, ℕ, ◌<◌, ◌≤◌, IsTrue, inl, inr, Bool, true, false, List, length, sym, ◌∙◌, subst, arith}
use Rattle.std.specs.Prelude.{not}
use Rattle.std.proofs.lemmas.Bool.{cases_Bool, cases_lt, false≢true, not_from_false, both_ways, not-true}
use Rattle.xdg_base.specs.declared.ids.DimId.{DimId}
use Rattle.xdg_base.specs.declared.ids.LabelId.{LabelId}
use Rattle.xdg_problem.specs.declared.parts.Parts.{Parts}
use Rattle.xdg_problem.specs.Boxes.{IsBox}
use Rattle.xdg_problem.specs.Paths.{IsDaughterBy}
use Rattle.xdg_problem.specs.Places.{nodes}
use Rattle.xdg_problem.specs.Truths.{bound}
use Rattle.xdg_problem.specs.Vectors.{shape}
use Rattle.xdg_graph.specs.declared.which.Which.{Which}
use Rattle.xdg_graph.specs.Edges.{edges_of, edge_labels}
use Rattle.xdg_problem.proofs.Bindings.{bound_here, bound_else}
use Rattle.xdg_formula_value.specs.Pairs.{Along, IsPairOf, Relates}
use Rattle.xdg_formula_value.specs.Rows.{IsRow}
use Rattle.xdg_formula_value.specs.declared.pair.Pair.{Pair}
use Rattle.xdg_formula_value.specs.declared.pair.Pair.TheVariants as pairs
use Rattle.xdg_formula_value.specs.declared.way.Way.{Way}
use Rattle.xdg_formula_value.specs.declared.way.Way.TheVariants as ways
use Rattle.xdg_formula_value.proofs.Edged.{by_is_edge, no_edge}
use Rattle.xdg_facts.specs.Rises.{has}

module _ (which : Which) (parts : Parts) (box : List (List Bool)) (dim : DimId) (label : LabelId) (is : IsBox (shape parts) box) (node : ℕ) (set : List ℕ) where
  -- the daughters and the mothers by a label
  pub down_row : ((x : ℕ) → IsTrue (has set x) ↔ IsDaughterBy (edges_of which parts box dim.0) node label.0 x) → IsRow (nodes parts) (Along ways.Down (Relates (pairs.Edge dim label) which parts box) node) set
  down_row exact v l = (let by = by_is_edge which parts box dim.0 node label.0 v is in (λ h. by.0 ((exact v).0 h), λ e. (exact v).1 (by.1 e)))

  pub up_row : ((x : ℕ) → IsTrue (has set x) ↔ IsDaughterBy (edges_of which parts box dim.0) x label.0 node) → IsRow (nodes parts) (Along ways.Up (Relates (pairs.Edge dim label) which parts box) node) set
  up_row exact v l = (let by = by_is_edge which parts box dim.0 v label.0 node is in (λ h. by.0 ((exact v).0 h), λ e. (exact v).1 (by.1 e)))

  -- no edge has a label that is none
  pub past_row : (way : Way) → edge_labels parts dim.0 ≤ label.0 → ((v : ℕ) → has set v ≡ false) → IsRow (nodes parts) (Along way (Relates (pairs.Edge dim label) which parts box) node) set
  past_row ways.Down past none v l = (λ h. absurd (false≢true (sym (none v) ∙ h)), λ e. absurd (no_edge which parts box dim.0 node label.0 v is past e))
  past_row ways.Up past none v l = (λ h. absurd (false≢true (sym (none v) ∙ h)), λ e. absurd (no_edge which parts box dim.0 v label.0 node is past e))

-- ---- places in the sentence

-- the nodes behind a node
pub behind_row : (which : Which) (parts : Parts) (box : List (List Bool)) (node : ℕ) (front set : List ℕ) → nodes parts ≤ 128 → ((v : ℕ) → (has front v ≡ true) ↔ (v ≤ node)) → ((v : ℕ) → v < 128 → has set v ≡ not (has front v)) → IsRow (nodes parts) (Along ways.Down (Relates pairs.Left which parts box) node) set
behind_row which parts box node front set few is opposite v l = (
  λ h. elim (cases_Bool (has front v)) [
    | inl there ↦ absurd (both_ways (has front v) (not-true (has front v) (sym (opposite v (omega (arith, l, few))) ∙ h)) there)
    | inr gone ↦ elim (cases_lt node v) [ inl less ↦ less | inr most ↦ absurd (both_ways (has front v) gone ((is v).1 most)) ]
  ],
  λ less. opposite v (omega (arith, l, few)) ∙ not_from_false (has front v) (elim (cases_Bool (has front v)) [ inl there ↦ (let most = (is v).0 there in absurd (omega (arith, most, less))) | inr gone ↦ gone ]),
)

-- ---- two names

module _ (pair : Pair) (which : Which) (parts : Parts) (box : List (List Bool)) (n : ℕ) (b : ℕ → ℕ) (name first second : ℕ) (set : List ℕ) where
  -- what two names stand for is related, where the name stands for a node
  abbrev pub Both : ℕ → Type 0
  Both v = Relates pair which parts box (bound b name v first) (bound b name v second)

  abbrev R : ℕ → ℕ → Type 0
  R u v = Relates pair which parts box u v

  at_names : (v u w : ℕ) → bound b name v first ≡ u → bound b name v second ≡ w → R u w ↔ Both v
  at_names v u w one two = (λ r. subst (λ k. R k (bound b name v second)) (sym one) (subst (R u) (sym two) r), λ r. subst (R u) two (subst (λ k. R k (bound b name v second)) one r))

  pub both_row : first ≡ name → second ≡ name → IsRow n (λ v. R v v) set → IsRow n Both set
  both_row one two row v l = (let at = at_names v v v (bound_here b name v first one) (bound_here b name v second two) in (λ h. at.0 ((row v l).0 h), λ r. (row v l).1 (at.1 r)))

  pub first_row : first ≡ name → (second ≡ name → ⊥) → IsRow n (Along ways.Up R (b second)) set → IsRow n Both set
  first_row one two row v l = (let at = at_names v v (b second) (bound_here b name v first one) (bound_else b name v second two) in (λ h. at.0 ((row v l).0 h), λ r. (row v l).1 (at.1 r)))

  pub second_row : (first ≡ name → ⊥) → second ≡ name → IsRow n (Along ways.Down R (b first)) set → IsRow n Both set
  second_row one two row v l = (let at = at_names v (b first) v (bound_else b name v first one) (bound_here b name v second two) in (λ h. at.0 ((row v l).0 h), λ r. (row v l).1 (at.1 r)))

  -- neither name is the one
  pub neither_row : (holds : Bool) (row : List ℕ) → (first ≡ name → ⊥) → (second ≡ name → ⊥) → n ≤ 128 → b second < n → IsRow n (Along ways.Down R (b first)) row → holds ≡ has row (b second) → ((v : ℕ) → v < 128 → has set v ≡ holds) → IsRow n Both set
  neither_row holds row one two few within is holds_is all v l =
      let at = at_names v (b first) (b second) (bound_else b name v first one) (bound_else b name v second two) in
      let here = all v (omega (arith, l, few)) in
      (λ h. at.0 ((is (b second) within).0 (sym holds_is ∙ sym here ∙ h)), λ r. here ∙ holds_is ∙ (is (b second) within).1 (at.1 r))

-- ---- a pair by its form

module _ (which : Which) (way : Way) (parts : Parts) (box : List (List Bool)) (node : ℕ) (set : List ℕ) where
  pub of_pair : (pair form : Pair) → pair ≡ form → IsRow (nodes parts) (Along way (Relates form which parts box) node) set → IsRow (nodes parts) (Along way (Relates pair which parts box) node) set
  of_pair pair form is row = subst (λ p. IsRow (nodes parts) (Along way (Relates p which parts box) node) set) (sym is) row

  pub pair_dim : (pair : Pair) (dim : DimId) → pair ≡ pairs.Path dim → IsPairOf parts pair → dim.0 < length parts.dims
  pair_dim pair dim is right = subst (IsPairOf parts) is right

  -- the nodes before a node
  pub before_row : way ≡ ways.Up → ((v : ℕ) → (has set v ≡ true) ↔ (v < node)) → IsRow (nodes parts) (Along way (Relates pairs.Left which parts box) node) set
  before_row is exact = subst (λ w. IsRow (nodes parts) (Along w (Relates pairs.Left which parts box) node) set) (sym is) (λ v l. exact v)

  pub after_row : (front : List ℕ) → way ≡ ways.Down → nodes parts ≤ 128 → ((v : ℕ) → (has front v ≡ true) ↔ (v ≤ node)) → ((v : ℕ) → v < 128 → has set v ≡ not (has front v)) → IsRow (nodes parts) (Along way (Relates pairs.Left which parts box) node) set
  after_row front is few exact other = subst (λ w. IsRow (nodes parts) (Along w (Relates pairs.Left which parts box) node) set) (sym is) (behind_row which parts box node front set few exact other)

  -- the daughters and the mothers by a label, by the way
  pub joined_down : (dim : DimId) (label : LabelId) → way ≡ ways.Down → IsBox (shape parts) box → ((x : ℕ) → IsTrue (has set x) ↔ IsDaughterBy (edges_of which parts box dim.0) node label.0 x) → IsRow (nodes parts) (Along way (Relates (pairs.Edge dim label) which parts box) node) set
  joined_down dim label to is exact = subst (λ w. IsRow (nodes parts) (Along w (Relates (pairs.Edge dim label) which parts box) node) set) (sym to) (down_row which parts box dim label is node set exact)

  pub joined_up : (dim : DimId) (label : LabelId) → way ≡ ways.Up → IsBox (shape parts) box → ((x : ℕ) → IsTrue (has set x) ↔ IsDaughterBy (edges_of which parts box dim.0) x label.0 node) → IsRow (nodes parts) (Along way (Relates (pairs.Edge dim label) which parts box) node) set
  joined_up dim label to is exact = subst (λ w. IsRow (nodes parts) (Along w (Relates (pairs.Edge dim label) which parts box) node) set) (sym to) (up_row which parts box dim label is node set exact)

-- whether a node is related to itself
pub at_itself : (which : Which) (parts : Parts) (box : List (List Bool)) (pair : Pair) (node : ℕ) (row : List ℕ) (there : Bool) → node < nodes parts → there ≡ has row node → IsRow (nodes parts) (Along ways.Down (Relates pair which parts box) node) row → (there ≡ true) ↔ Relates pair which parts box node node
at_itself which parts box pair node row there within is exact = (let here = exact node within in (λ h. here.0 (sym is ∙ h), λ r. is ∙ here.1 r))
