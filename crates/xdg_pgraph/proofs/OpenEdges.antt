-- What valency takes of the edges of a bundle.
use Rattle.std.proofs.Common.{◌≡◌, ℕ, ◌<◌, ◌⊎◌, ◌↔◌, ◌&&◌, inl, inr, Bool, true, IsTrue, List, length, sym, ◌∙◌, ap, subst}
use Rattle.std.specs.Prelude.{Contains, not}
use Rattle.std.proofs.lemmas.Bool.{and_parts, and_from, not-true, not_from_false, false_from_ne_true, both_ways}
use Rattle.xdg_nodeset.specs.Nodes.{IsNodes}
use Rattle.xdg_problem.specs.declared.analysis.Edge.{Edge}
use Rattle.xdg_problem.specs.declared.parts.Group.{Group}
use Rattle.xdg_problem.specs.Analyses.{IsPlace}
use Rattle.xdg_problem.specs.declared.parts.Principle.TheVariants as principles
use Rattle.xdg_problem.specs.Arguments.{first_dim, label_count}
use Rattle.xdg_problem.specs.Boxes.{edge_decision}
use Rattle.xdg_problem.specs.Places.{nodes}
use Rattle.xdg_problem.specs.Problems.{IsGroup}
use Rattle.xdg_problem.proofs.PlaceOrder.{is_place}
use Rattle.xdg_rules.specs.Rules.{IsGreatest, IsLeast, may_edges, must_edges}
use Rattle.xdg_store.specs.States.{State, Known}
use Rattle.xdg_propcore.specs.Passes.{Progress, Clears}
use Rattle.xdg_propcore.specs.Sweeps.{Sweeps}
use Rattle.xdg_propcore.proofs.Passing.{clears_both}
use Rattle.xdg_pgraph.specs.declared.bundle.Bundle.{Bundle}
use Rattle.xdg_graph.specs.declared.which.Which.TheVariants as whichs
use Rattle.xdg_pgraph.specs.Bundles.{edge_to, far_node, numbers_of, count_of, Barred, OpenTo, EdgeAt, IsBundleDone, IsOpen}
use Rattle.xdg_pgraph.proofs.Bundled.{bundle_swept}
use Rattle.xdg_pgraph.proofs.PlaneFacts.{which_place}
use Rattle.xdg_pgraph.proofs.Ends.{TellsEnds, which_counted, ends_are, edge_told}
use Rattle.xdg_facts.specs.Rises.{has}

module _ (bundle : Bundle) (s : State) (group : Group) (dim : ℕ) (on : dim ≡ first_dim group) (must may open_ones : List ℕ) (must_is : TellsEnds whichs.Must s dim bundle.node bundle.label must bundle.way) (may_is : TellsEnds whichs.May s dim bundle.node bundle.label may bundle.way) (open_is : (n : ℕ) → has open_ones n ≡ (has may n && not (has must n))) where
  abbrev this : ℕ → Edge
  this other = edge_to bundle.way dim bundle.node bundle.label other

  abbrev OpenEdge : Edge → Type 0
  OpenEdge e = IsOpen bundle.way s.parts s.now dim bundle.node bundle.label e

  same_edge : (e : Edge) → OpenEdge e → e ≡ this (far_node bundle.way e)
  same_edge e is = edge_told bundle.way dim bundle.node bundle.label e (which_place whichs.May s.parts s.now dim e is.may.among).1 is.may.near is.may.label_is

  open_of : (e : Edge) → OpenEdge e → has open_ones (far_node bundle.way e) ≡ true
  open_of e is =
      let far : ℕ = far_node bundle.way e in
      open_is far ∙ and_from (has may far) (not (has must far))
      ((may_is far).1 (subst (Contains (may_edges s.parts s.now dim)) (same_edge e is) is.may.among))
      (not_from_false (has must far) (false_from_ne_true (has must far) (λ t. is.free (subst (Contains (must_edges s.parts s.now dim)) (sym (same_edge e is)) ((must_is far).0 t)))))

  open_edge : (other : ℕ) → has open_ones other ≡ true → OpenEdge (this other)
  open_edge other h =
      let both = and_parts (has may other) (not (has must other)) (sym (open_is other) ∙ h) in
      let is = ends_are bundle.way dim bundle.node bundle.label other in
      record {
        may = record { among = (may_is other).0 both.0; near = is.0; label_is = is.2 };
        free = λ c. both_ways (has must other) (not-true (has must other) both.1) ((must_is other).1 c);
      }

  pub open_place : (other : ℕ) → has open_ones other ≡ true → IsPlace s.parts (this other)
  open_place other h = is_place s.parts (this other) (which_place whichs.May s.parts s.now dim (this other) (open_edge other h).may.among).0

  here : (e : Edge) → IsOpen bundle.way s.parts s.now (first_dim group) bundle.node bundle.label e → OpenEdge e
  here e = subst (λ k. IsOpen bundle.way s.parts s.now k bundle.node bundle.label e) (sym on)

  module _ (full needed : Bool) (least most : ℕ) (must_nodes : IsNodes must) (may_nodes : IsNodes may) (least_is : least ≡ length must) (most_is : most ≡ length may)
      (greatest : IsTrue full ↔ IsGreatest s.now bundle.node (numbers_of bundle.way group bundle.node bundle.label) least)
      (lowest : IsTrue needed ↔ IsLeast s.now bundle.node (numbers_of bundle.way group bundle.node bundle.label) most) where
    must_count : least ≡ count_of bundle.way (must_edges s.parts s.now (first_dim group)) bundle.node bundle.label
    must_count = least_is ∙ which_counted whichs.Must bundle.way s.parts s.now dim bundle.node bundle.label must must_nodes must_is ∙ ap (λ k. count_of bundle.way (must_edges s.parts s.now k) bundle.node bundle.label) on

    may_count : most ≡ count_of bundle.way (may_edges s.parts s.now (first_dim group)) bundle.node bundle.label
    may_count = most_is ∙ which_counted whichs.May bundle.way s.parts s.now dim bundle.node bundle.label may may_nodes may_is ∙ ap (λ k. count_of bundle.way (may_edges s.parts s.now k) bundle.node bundle.label) on

    abbrev ToOpen : ℕ → ℕ → ℕ → Type 0
    ToOpen value d v = OpenTo s.parts dim bundle open_ones value d v

    -- a value of the edge to an open node, and of an open edge
    open_from : (value d v : ℕ) (a : ToOpen value d v) → IsOpen bundle.way s.parts s.now (first_dim group) bundle.node bundle.label (this a.other)
    open_from value d v a = subst (λ k. IsOpen bundle.way s.parts s.now k bundle.node bundle.label (this a.other)) on (open_edge a.other a.is)

    open_to : (value d v : ℕ) (e : Edge) → IsOpen bundle.way s.parts s.now (first_dim group) bundle.node bundle.label e → (d ≡ edge_decision s.parts e) × (v ≡ value) → ToOpen value d v
    open_to value d v e is says = record { other = far_node bundle.way e; is = open_of e (here e is); decision = says.0 ∙ ap (edge_decision s.parts) (same_edge e (here e is)); value_is = says.1 }

    edge_from : (d v : ℕ) → ((full ≡ true) × ToOpen 0 d v) ⊎ ((needed ≡ true) × ToOpen 1 d v) → EdgeAt bundle.way s.parts group s.now bundle.node bundle.label d v
    edge_from d v (inl (wanted, a)) = inl (record { place = this a.other; is = open_from 0 d v a; says = (a.decision, a.value_is); full = rw (← must_count) (greatest.0 wanted) })
    edge_from d v (inr (wanted, a)) = inr (record { place = this a.other; is = open_from 1 d v a; says = (a.decision, a.value_is); needed = rw (← may_count) (lowest.0 wanted) })

    edge_to_open : (d v : ℕ) → EdgeAt bundle.way s.parts group s.now bundle.node bundle.label d v → ((full ≡ true) × ToOpen 0 d v) ⊎ ((needed ≡ true) × ToOpen 1 d v)
    edge_to_open d v (inl f) = inl (greatest.1 (rw must_count f.full), open_to 0 d v f.place f.is f.says)
    edge_to_open d v (inr f) = inr (lowest.1 (rw may_count f.needed), open_to 1 d v f.place f.is f.says)

    -- what valency takes at the bundle
    pub bundle_taken : IsGroup s.parts group → group.principle ≡ principles.Valency → Known s → bundle.node < nodes s.parts → bundle.label < label_count s.parts dim → (p q r t : Progress) (mid late new : State)
        → Clears (λ d v. (full ≡ true) × OpenTo s.parts dim bundle open_ones 0 d v) p s q mid → Clears (λ d v. (needed ≡ true) × OpenTo mid.parts dim bundle open_ones 1 d v) q mid r late
        → Known new → Clears (Barred late.parts group bundle least most) r late t new → Sweeps group (IsBundleDone bundle.way s.parts group bundle.node bundle.label) p s t new
    bundle_taken is principle known within label_known p q r t mid late new a b known_new c =
        bundle_swept bundle group p r t s late new is principle known within (subst (λ k. bundle.label < label_count s.parts k) on label_known) least most must_count may_count known_new
        (clears_both (λ d v. (full ≡ true) × ToOpen 0 d v) (λ d v. (needed ≡ true) × ToOpen 1 d v) (EdgeAt bundle.way s.parts group s.now bundle.node bundle.label) p q r s mid late
        (λ d v x. edge_from d v (inl x)) (λ d v x. edge_from d v (inr x)) edge_to_open a
        (subst (λ parts. Clears (λ d v. (needed ≡ true) × OpenTo parts dim bundle open_ones 1 d v) q mid r late) a.same b))
        c
