-- Places and nodes, one after another.
use Rattle.std.proofs.Common.{◌≡◌, ◌≢◌, ℕ, ◌<◌, ◌≤◌, inl, inr, Bool, List, [], refl, sym, ◌∙◌, arith, subst}
use Rattle.std.proofs.lemmas.Bool.{cases_lt}
use Rattle.xdg_problem.specs.declared.analysis.Edge.{Edge}
use Rattle.xdg_problem.specs.declared.parts.Group.{Group}
use Rattle.xdg_problem.specs.declared.parts.Parts.{Parts}
use Rattle.xdg_problem.specs.declared.parts.Principle.{Principle}
use Rattle.xdg_problem.specs.declared.parts.Principle.TheVariants as principles
use Rattle.xdg_problem.specs.Arguments.{first_dim}
use Rattle.xdg_problem.specs.Boxes.{Has, LiesIn, May, edge_decision}
use Rattle.xdg_problem.specs.Places.{edge, nodes}
use Rattle.xdg_problem.proofs.PlaceOrder.{is_place}
use Rattle.xdg_rules.proofs.Shrinking.{must_is}
use Rattle.xdg_store.specs.States.{State}
use Rattle.xdg_graph.specs.Edges.{edge_labels}
use Rattle.xdg_graph.proofs.Labelled.{label_below}
use Rattle.xdg_propcore.specs.Passes.{Progress, IsQuiet}
use Rattle.xdg_propcore.specs.Sweeps.{Sweeps}
use Rattle.xdg_pagree.specs.Family.{IsOfPlaces}
use Rattle.xdg_pagree.specs.Places.{PlaceAsks, PlaceLacks, IsDoneAt, IsLabelDone, AreLabelsDone, IsNodeDone, AreNodesDone}
use Rattle.xdg_pagree.specs.Untouched.{AreOthersDoneAt}
use Rattle.xdg_propcore.proofs.Sweeping.{sweeps_skip}
use Rattle.xdg_propcore.proofs.Turns.{AreDone, turns_end}
use Rattle.xdg_problem.proofs.Edges.{edge_equal}
use Rattle.xdg_facts.specs.Rises.{has}

-- ---- daughters

-- what is taken at a place leaves it, as long as it may be present
pub lacks_present : (p : Principle) (parts : Parts) (group : Group) (box : List (List Bool)) (e : Edge) (d v : ℕ) → PlaceLacks p parts group box e d v → Has box d v → May parts box e
lacks_present principles.Agreement parts group box e d v lacks has = elim lacks [
  | inl gone ↦ subst (λ k. Has box (edge_decision parts e) k) gone.0.1 (subst (λ k. Has box k v) gone.0.0 has)
  | inr value ↦ (must_is parts box (first_dim group) e value.0).present
]
lacks_present principles.Government parts group box e d v lacks has = elim lacks [
  | inl gone ↦ subst (λ k. Has box (edge_decision parts e) k) gone.0.1 (subst (λ k. Has box k v) gone.0.0 has)
  | inr value ↦ (must_is parts box (first_dim group) e value.0).present
]
lacks_present p parts group box e d v lacks has = absurd lacks

pub daughters_last : (group : Group) (dim u l : ℕ) (first : List ℕ) (p : Progress) (old : State) (q : Progress) (new : State) → dim ≡ first_dim group → (IsQuiet p → AreOthersDoneAt old.parts group dim u l first old.now) → Sweeps group (AreDone (λ v. IsDoneAt old.parts group (edge dim u l v)) first []) p old q new → Sweeps group (IsLabelDone old.parts group u l) p old q new
daughters_last group dim u l first p old q new dim_is others a =
    sweeps_skip group (λ box. (w : ℕ) → (w < nodes old.parts) × (u ≢ w) → IsDoneAt old.parts group (edge dim u l w) box) (IsLabelDone old.parts group u l) p old q new
    (turns_end group (λ w. IsDoneAt old.parts group (edge dim u l w)) (λ w. (w < nodes old.parts) × (u ≢ w)) first p old q new (λ still w beside. others still w beside.0 beside.1) a)
    (λ done place on mother_is label_is.
    let is = is_place old.parts place on.0 in
    subst (λ e. IsDoneAt old.parts group e new.now) (sym (edge_equal place (edge dim u l place.daughter.0) (on.1 ∙ sym dim_is) mother_is label_is refl)) (done place.daughter.0 (is.daughter, λ e. is.differ (mother_is ∙ e))))

-- ---- labels

-- what the entries of a mother ask for in a box they ask for in each box inside
pub asks_fewer : (p : Principle) (group : Group) (small large : List (List Bool)) (u l : ℕ) → LiesIn small large → PlaceAsks p group large u l → PlaceAsks p group small u l
asks_fewer principles.Agreement group small large u l lies asks = λ c remains. asks c (lies u c remains)
asks_fewer principles.Government group small large u l lies asks = λ c remains. asks c (lies u c remains)
asks_fewer p group small large u l lies asks = absurd asks

-- ---- nodes

node_places : (p : Principle) (parts : Parts) (group : Group) (node : ℕ) (box : List (List Bool)) → IsOfPlaces p → ((l : ℕ) → PlaceAsks group.principle group box node l → IsLabelDone parts group node l box) → IsNodeDone p parts group node box
node_places principles.Agreement parts group node box is all = all
node_places principles.Government parts group node box is all = all
node_places p parts group node box is all = absurd is

-- nothing is left at a node where nothing is left at the labels that edges can have
pub labels_last : (k : ℕ) (parts : Parts) (group : Group) (box : List (List Bool)) → edge_labels parts (first_dim group) ≤ k → IsOfPlaces group.principle → AreLabelsDone k parts group box → AreNodesDone (nodes parts) parts group box
labels_last k parts group box all is before node within = node_places group.principle parts group node box is (λ l asks. elim (cases_lt l k) [
  | inl below ↦ before l below node within asks
  | inr past ↦ (λ place on mother_is label_is. absurd (let known = subst (λ d. place.label.0 < edge_labels parts d) on.1 (label_below parts place (is_place parts place on.0)) in omega (arith, known, label_is, past, all)))
])
