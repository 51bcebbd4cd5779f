-- Edges that need not be and cost too much, taken label by label.
use Rattle.std.proofs.Common.{◌≡◌, ℕ, ◌+◌, ◌<◌, ◌≤◌, ◌↔◌, IsTrue, inl, inr, Bool, true, List, [], length, refl, sym, ap, ◌∙◌, arith, subst}
use Rattle.std.specs.Prelude.{slice_index, slice_index_or}
use Rattle.std.proofs.lemmas.Bool.{cases_Bool, both_ways}
use Rattle.xdg_facts.specs.Rises as sets
use Rattle.xdg_problem.specs.declared.parts.Group.{Group}
use Rattle.xdg_problem.specs.declared.parts.Parts.{Parts}
use Rattle.xdg_problem.specs.Analyses.{IsPlace}
use Rattle.xdg_problem.specs.Boxes.{Has, IsBox, edge_decision}
use Rattle.xdg_problem.specs.Paths.{IsDaughterBy}
use Rattle.xdg_problem.specs.Places.{edge, nodes}
use Rattle.xdg_problem.specs.Problems.{IsGroup}
use Rattle.xdg_problem.specs.Vectors.{shape}
use Rattle.xdg_problem.proofs.Edges.{edge_equal}
use Rattle.xdg_problem.proofs.PlaceOrder.{is_place, place_is}
use Rattle.xdg_graph.specs.declared.which.Which.TheVariants as whichs
use Rattle.xdg_graph.specs.Edges.{edges_of, edge_labels}
use Rattle.xdg_graph.proofs.Edges.{stands_by}
use Rattle.xdg_rules.specs.Rules.{has, Takes}
use Rattle.xdg_store.specs.States.{State, Known}
use Rattle.xdg_propcore.specs.Passes.{Progress, Clears}
use Rattle.xdg_propcore.specs.Sweeps.{Sweeps}
use Rattle.xdg_propcore.proofs.Sweeping.{group_stays, sweeps_skip}
use Rattle.xdg_propcore.proofs.Turns.{AreBelow, below_next}
use Rattle.xdg_pmulti.specs.Aims.{Beyond, Forbids}
use Rattle.xdg_engine.specs.Freeing.{Dear, TakesFree, NoneFree, OfLabels, OfDims}

-- ---- the edges out of one node

-- those out of a node are left open no more
abbrev pub NoneOut : ℕ → ℕ → Parts → ℕ → List (List Bool) → Type 0
NoneOut dim label parts m box = (x : ℕ) → IsPlace parts (edge dim m label x) → Has box (edge_decision parts (edge dim m label x)) 0 → Has box (edge_decision parts (edge dim m label x)) 1 → ⊥

module _ (group : Group) (dim label m : ℕ) (mid : State) (must : List ℕ) (known : Known mid) (is : IsGroup mid.parts group) (takes : TakesFree mid.parts group mid.now dim label) (exact : (x : ℕ) → IsTrue (sets.has must x) ↔ IsDaughterBy (edges_of whichs.Must mid.parts mid.now dim) m label x) where
  abbrev k : ℕ → ℕ
  k x = edge_decision mid.parts (edge dim m label x)

  -- an edge to a node that the set hasn't need not be
  free : (x : ℕ) → IsPlace mid.parts (edge dim m label x) → (sets.has must x ≡ true → ⊥) → Has mid.now (k x) 1
  free x place outside = elim (cases_Bool (has mid.now (k x) 1)) [
    | inl absent ↦ absent
    | inr gone ↦ absurd (outside ((exact x).1 ((stands_by whichs.Must mid.parts mid.now dim m label x known.is_box).1 (place, λ absent. both_ways (has mid.now (k x) 1) gone absent))))
  ]

  aim_taken : (d v : ℕ) → Forbids mid.parts dim (Beyond m label must) d v → Takes mid.parts group mid.now d v
  aim_taken d v f =
      let x : ℕ = f.place.daughter.0 in
      let same : f.place ≡ edge dim m label x = edge_equal f.place (edge dim m label x) f.is.1 f.goes.1.0 f.goes.0 refl in
      let place : IsPlace mid.parts (edge dim m label x) = subst (IsPlace mid.parts) same (is_place mid.parts f.place f.is.0) in
      let taken = takes mid.now known.is_box (λ e y h. h) m x place (free x place f.goes.1.1) in
      let decision : d ≡ k x = f.says.0 ∙ ap (edge_decision mid.parts) same in
      subst (λ e. Takes mid.parts group mid.now e v) (sym decision) (subst (Takes mid.parts group mid.now (k x)) (sym f.says.1) taken)

  pub out_gone : (q r : Progress) (new : State) → Clears (Forbids mid.parts dim (Beyond m label must)) q mid r new → Known new → Sweeps group (NoneOut dim label mid.parts m) q mid r new
  out_gone q r new c known_new = record {
    goes = c.goes group mid.now is (λ d v h. h) aim_taken;
    known = known_new;
    done = λ quiet x place present absent.
        c.gone quiet (k x) 0 (record {
          place = edge dim m label x;
          is = (place_is mid.parts (edge dim m label x) place, refl);
          goes = (refl, (refl, λ inside. ((stands_by whichs.Must mid.parts mid.now dim m label x known.is_box).0 ((exact x).0 inside)).1 (c.inside (k x) 1 absent)));
          says = (refl, refl);
        }) present;
  }

-- ---- one after another

-- what is taken in each box inside is taken later
pub free_later : (group : Group) (dim label : ℕ) (Done : List (List Bool) → Type 0) (p : Progress) (old : State) (q : Progress) (mid : State) → Sweeps group Done p old q mid → TakesFree old.parts group old.now dim label → TakesFree mid.parts group mid.now dim label
free_later group dim label Done p old q mid a takes box is lies m x place absent =
    subst (λ parts. (IsBox (shape parts) box) → IsPlace parts (edge dim m label x) → Has box (edge_decision parts (edge dim m label x)) 1 → Takes parts group box (edge_decision parts (edge dim m label x)) 0) (sym a.goes.extends.same)
    (λ is_old place_old absent_old. takes box is_old (λ d v h. a.goes.extends.inside d v (lies d v h)) m x place_old absent_old) is place absent

-- ---- the nodes of a label

module _ (group : Group) (dim label : ℕ) (p : Progress) (old : State) (takes : TakesFree old.parts group old.now dim label) (is : IsGroup old.parts group) where
  abbrev pub NodesDone : ℕ → Progress → State → Type 0
  NodesDone m q mid = Sweeps group (AreBelow (NoneOut dim label old.parts) m) p old q mid

  pub nodes_more : (m : ℕ) (q : Progress) (mid : State) (must : List ℕ) (r : Progress) (new : State) → NodesDone m q mid
      → ((x : ℕ) → IsTrue (sets.has must x) ↔ IsDaughterBy (edges_of whichs.Must mid.parts mid.now dim) m label x) → Clears (Forbids mid.parts dim (Beyond m label must)) q mid r new → Known new → NodesDone (m + 1) r new
  nodes_more m q mid must r new a exact c known = below_next group (NoneOut dim label) m p old q mid r new a
      (out_gone group dim label m mid must a.known (group_stays group p old q mid a.goes a.known is) (free_later group dim label (AreBelow (NoneOut dim label old.parts) m) p old q mid a takes) exact q r new c known)

  pub nodes_end : (m n : ℕ) (q : Progress) (mid : State) → n ≤ m → NodesDone m q mid → Sweeps group (NoneFree old.parts dim label n) p old q mid
  nodes_end m n q mid past a = sweeps_skip group (AreBelow (NoneOut dim label old.parts) m) (NoneFree old.parts dim label n) p old q mid a (λ all u x l. all u (omega (arith, l, past)) x)

-- ---- the labels of a dimension

-- what is done at a label
abbrev pub AtLabel : List ℕ → ℕ → ℕ → Parts → ℕ → List (List Bool) → Type 0
AtLabel row room dim parts label box = Dear row room label → NoneFree parts dim label (nodes parts) box

-- what is done on a dimension
abbrev pub AtDim : List (List ℕ) → ℕ → Parts → ℕ → List (List Bool) → Type 0
AtDim rows room parts dim box = OfLabels (slice_index_or rows dim []) room dim (edge_labels parts dim) parts box

-- a label that isn't dear
pub not_dear : (row : List ℕ) (room dim label : ℕ) (parts : Parts) (box : List (List Bool)) → slice_index row label < room → AtLabel row room dim parts label box
not_dear row room dim label parts box cheap dear = absurd (omega (arith, cheap, dear))

-- all labels with one that is dear
pub done_label : (group : Group) (row : List ℕ) (room dim label : ℕ) (q : Progress) (mid : State) (r : Progress) (new : State)
    → Sweeps group (NoneFree mid.parts dim label (nodes mid.parts)) q mid r new → Sweeps group (AtLabel row room dim mid.parts label) q mid r new
done_label group row room dim label q mid r new a = sweeps_skip group (NoneFree mid.parts dim label (nodes mid.parts)) (AtLabel row room dim mid.parts label) q mid r new a (λ none dear. none)

-- ---- the dimensions

-- what is taken in each box inside is taken later, on a dimension
pub dims_free : (group : Group) (rows : List (List ℕ)) (room dim : ℕ) (p : Progress) (old : State) (q : Progress) (mid : State) → Sweeps group (OfDims rows room dim old.parts) p old q mid
    → ((label : ℕ) → dim < length old.parts.dims → label < edge_labels old.parts dim → Dear (slice_index_or rows dim []) room label → TakesFree old.parts group old.now dim label) → dim < length old.parts.dims
    → (label : ℕ) → label < edge_labels mid.parts dim → Dear (slice_index_or rows dim []) room label → TakesFree mid.parts group mid.now dim label
dims_free group rows room dim p old q mid a takes within label l dear =
    free_later group dim label (OfDims rows room dim old.parts) p old q mid a (takes label within (subst (λ parts. label < edge_labels parts dim) a.goes.extends.same l) dear)
