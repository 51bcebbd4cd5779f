-- The rules of valency, bundle by bundle.
use Rattle.std.proofs.Common.{◌≡◌, ℕ, ◌<◌, ◌⊎◌, inl, inr, Bool, List, refl, sym, ◌∙◌, subst}
use Rattle.std.specs.Prelude.{Contains}
use Rattle.std.proofs.lemmas.Bool.{both_ways}
use Rattle.xdg_problem.specs.declared.analysis.Edge.{Edge}
use Rattle.xdg_problem.specs.declared.parts.Group.{Group}
use Rattle.xdg_problem.specs.declared.parts.Parts.{Parts}
use Rattle.xdg_problem.specs.declared.parts.Principle.TheVariants as principles
use Rattle.xdg_problem.specs.Analyses.{IsPlace}
use Rattle.xdg_problem.specs.Arguments.{first_dim, label_count}
use Rattle.xdg_problem.specs.Boxes.{Has, entry_decision, edge_decision}
use Rattle.xdg_problem.specs.Features.{in_row, out_row}
use Rattle.xdg_problem.specs.Paths.{edges_into, edges_out_of}
use Rattle.xdg_problem.specs.Places.{nodes}
use Rattle.xdg_problem.specs.Problems.{IsGroup}
use Rattle.xdg_problem.proofs.PlaceOrder.{is_place}
use Rattle.xdg_rules.specs.Rules.{has, Takes, TakesBy, HasNoneWithin, IsClosedFor, IsGreatest, IsLeast, may_edges, must_edges}
use Rattle.xdg_rules.proofs.Counting.{label_on}
use Rattle.xdg_rules.proofs.Shrinking.{may_is, may_of, must_is}
use Rattle.xdg_store.specs.States.{State, Known}
use Rattle.xdg_propcore.specs.Passes.{Progress, Clears}
use Rattle.xdg_propcore.specs.Sweeps.{Sweeps}
use Rattle.xdg_propcore.proofs.Passing.{goes_both}
use Rattle.xdg_graph.proofs.Remaining.{entry_below}
use Rattle.xdg_pgraph.specs.declared.bundle.Way.{Way}
use Rattle.xdg_pgraph.specs.declared.bundle.Way.TheVariants as ways
use Rattle.xdg_pgraph.specs.declared.bundle.Bundle.{Bundle}
use Rattle.xdg_graph.specs.declared.which.Which.TheVariants as whichs
use Rattle.xdg_pgraph.specs.Bundles.{near_node, numbers_of, count_of, Barred, EdgeAt, IsBundleDone}
use Rattle.xdg_pgraph.proofs.PlaneFacts.{which_place}

-- ---- what is taken is taken by the rules

none_by : (way : Way) (group : Group) (node label v : ℕ) (must may : List Edge) → HasNoneWithin (numbers_of way group node label v) (count_of way must node label) (count_of way may node label) → HasNoneWithin (out_row group node v label) (edges_out_of must node label) (edges_out_of may node label) ⊎ HasNoneWithin (in_row group node v label) (edges_into must node label) (edges_into may node label)
none_by ways.Out group node label v must may none = inl none
none_by ways.In group node label v must may none = inr none

-- what holds of the node of a bundle, its numbers and a count, told by the nodes of an edge
by_way : (Q : ℕ → (ℕ → List ℕ) → ℕ → Type 0) (group : Group) (node label : ℕ) (edges : List Edge) (e : Edge) (way : Way) → near_node way e ≡ node → e.label.0 ≡ label → Q node (numbers_of way group node label) (count_of way edges node label)
    → Q e.mother.0 (λ c. out_row group e.mother.0 c e.label.0) (edges_out_of edges e.mother.0 e.label.0) ⊎ Q e.daughter.0 (λ c. in_row group e.daughter.0 c e.label.0) (edges_into edges e.daughter.0 e.label.0)
by_way Q group node label edges e ways.Out near label_is is =
    inl (subst (λ n. Q n (λ c. out_row group n c e.label.0) (edges_out_of edges n e.label.0)) (sym near)
    (subst (λ l. Q node (λ c. out_row group node c l) (edges_out_of edges node l)) (sym label_is) is))
by_way Q group node label edges e ways.In near label_is is =
    inr (subst (λ n. Q n (λ c. in_row group n c e.label.0) (edges_into edges n e.label.0)) (sym near)
    (subst (λ l. Q node (λ c. in_row group node c l) (edges_into edges node l)) (sym label_is) is))

-- and back
of_way : (Q : ℕ → (ℕ → List ℕ) → ℕ → Type 0) (group : Group) (edges : List Edge) (e : Edge) → Q e.mother.0 (λ c. out_row group e.mother.0 c e.label.0) (edges_out_of edges e.mother.0 e.label.0) ⊎
    Q e.daughter.0 (λ c. in_row group e.daughter.0 c e.label.0) (edges_into edges e.daughter.0 e.label.0)
    → (way : Way) × Q (near_node way e) (numbers_of way group (near_node way e) e.label.0) (count_of way edges (near_node way e) e.label.0)
of_way Q group edges e (inl out) = (ways.Out, out)
of_way Q group edges e (inr into) = (ways.In, into)

near_within : (parts : Parts) (e : Edge) → IsPlace parts e → (way : Way) → near_node way e < nodes parts
near_within parts e place ways.Out = place.mother
near_within parts e place ways.In = place.daughter

module _ (group : Group) (principle : group.principle ≡ principles.Valency) (way : Way) (node label : ℕ) where
  by_valency : (parts : Parts) (box : List (List Bool)) (d v : ℕ) → TakesBy principles.Valency parts group box d v → Takes parts group box d v
  by_valency parts box d v rule = inr (subst (λ p. TakesBy p parts group box d v) (sym principle) rule)

  pub edge_takes : (parts : Parts) (box : List (List Bool)) (d v : ℕ) → EdgeAt way parts group box node label d v → Takes parts group box d v
  edge_takes parts box d v (inl f) = by_valency parts box d v (inr (inl (record {
    place = f.place;
    is = which_place whichs.May parts box (first_dim group) f.place f.is.may.among;
    says = f.says;
    free = f.is.free;
    full = by_way (IsGreatest box) group node label (must_edges parts box (first_dim group)) f.place way f.is.may.near f.is.may.label_is f.full;
  })))
  edge_takes parts box d v (inr f) = by_valency parts box d v (inr (inr (record {
    place = f.place;
    may = f.is.may.among;
    says = f.says;
    needed = by_way (IsLeast box) group node label (may_edges parts box (first_dim group)) f.place way f.is.may.near f.is.may.label_is f.needed;
  })))

  pub entry_takes : (parts : Parts) (box : List (List Bool)) (c : ℕ) → node < nodes parts → label < label_count parts (first_dim group) → HasNoneWithin (numbers_of way group node label c) (count_of way (must_edges parts box (first_dim group)) node label) (count_of way (may_edges parts box (first_dim group)) node label) → Takes parts group box (entry_decision node) c
  entry_takes parts box c within known none = by_valency parts box (entry_decision node) c (inl (record { node = node; within = within; label = label; known = known; is = refl; none = none_by way group node label c (must_edges parts box (first_dim group)) (may_edges parts box (first_dim group)) none }))

-- ---- where nothing is left to take at all bundles, and where the box is closed

module _ (parts : Parts) (group : Group) (box : List (List Bool)) where
  abbrev pub AreBundlesDone : Type 0
  AreBundlesDone = (way : Way) (node label : ℕ) → node < nodes parts → label < label_count parts (first_dim group) → IsBundleDone way parts group node label box

  pub closed_bundles : group.principle ≡ principles.Valency → IsClosedFor parts group box → AreBundlesDone
  closed_bundles principle closed way node label within known = record {
    entries = λ c h none. closed (entry_decision node) c h (entry_takes group principle way node label parts box c within known none);
    edges = λ d v h e. closed d v h (edge_takes group principle way node label parts box d v e);
  }

  pub bundles_closed : AreBundlesDone → (d v : ℕ) → Has box d v → TakesBy principles.Valency parts group box d v → ⊥
  bundles_closed done d v h (inl r) =
      let mine = subst (λ k. Has box k v) r.is h in
      elim r.none [
        | inl out ↦ (done ways.Out r.node r.label r.within r.known).entries v mine out
        | inr into ↦ (done ways.In r.node r.label r.within r.known).entries v mine into
      ]
  bundles_closed done d v h (inr (inl r)) =
      let place = is_place parts r.place r.is.0 in
      let found = of_way (IsGreatest box) group (must_edges parts box (first_dim group)) r.place r.full in
      let may = may_of parts box (first_dim group) r.place (record { place = r.is.0; dim_is = r.is.1; present = subst (Has box (edge_decision parts r.place)) r.says.1 (subst (λ k. Has box k v) r.says.0 h) }) in
      (done found.0 (near_node found.0 r.place) r.place.label.0 (near_within parts r.place place found.0) (label_on parts (first_dim group) r.place place r.is.1)).edges d v h
      (inl (record { place = r.place; is = record { may = record { among = may; near = refl; label_is = refl }; free = r.free }; says = r.says; full = found.1 }))
  bundles_closed done d v h (inr (inr r)) =
      let may = may_is parts box (first_dim group) r.place r.may in
      let place = is_place parts r.place may.place in
      let found = of_way (IsLeast box) group (may_edges parts box (first_dim group)) r.place r.needed in
      let absent : Has box (edge_decision parts r.place) 1 = subst (Has box (edge_decision parts r.place)) r.says.1 (subst (λ k. Has box k v) r.says.0 h) in
      let free : Contains (must_edges parts box (first_dim group)) r.place → ⊥ = λ c. both_ways (has box (edge_decision parts r.place) 1) (must_is parts box (first_dim group) r.place c).not_absent absent in
      (done found.0 (near_node found.0 r.place) r.place.label.0 (near_within parts r.place place found.0) (label_on parts (first_dim group) r.place place may.dim_is)).edges d v h
      (inr (record { place = r.place; is = record { may = record { among = r.may; near = refl; label_is = refl }; free = free }; says = r.says; needed = found.1 }))

-- ---- a bundle

module _ (bundle : Bundle) (group : Group) (p q r : Progress) (old mid new : State) (is : IsGroup old.parts group) (principle : group.principle ≡ principles.Valency) (known : Known old)
    (within : bundle.node < nodes old.parts) (label_known : bundle.label < label_count old.parts (first_dim group)) (least most : ℕ)
    (least_is : least ≡ count_of bundle.way (must_edges old.parts old.now (first_dim group)) bundle.node bundle.label) (most_is : most ≡ count_of bundle.way (may_edges old.parts old.now (first_dim group)) bundle.node bundle.label) where
  barred_takes : (d v : ℕ) → Barred old.parts group bundle least most d v → Takes old.parts group old.now d v
  barred_takes d v x = rw x.0 (entry_takes group principle bundle.way bundle.node bundle.label old.parts old.now v within label_known (rw (← least_is, ← most_is) x.2))

  -- no entry that remains lacks a number between the counts
  entries_done : (box : List (List Bool)) → ((d v : ℕ) → Barred old.parts group bundle least most d v → Has box d v → ⊥) → box ≡ old.now → (c : ℕ) → Has box (entry_decision bundle.node) c → HasNoneWithin (numbers_of bundle.way group bundle.node bundle.label c) (count_of bundle.way (must_edges old.parts box (first_dim group)) bundle.node bundle.label) (count_of bundle.way (may_edges old.parts box (first_dim group)) bundle.node bundle.label) → ⊥
  entries_done box gone same c h none = gone (entry_decision bundle.node) c (refl, entry_below old bundle.node c known within (rw same at h), rw (least_is, most_is) (rw same at none)) h

  -- edges are taken first, and then entries by the counts of before
  pub bundle_swept : Known new → Clears (EdgeAt bundle.way old.parts group old.now bundle.node bundle.label) p old q mid → Clears (Barred mid.parts group bundle least most) q mid r new → Sweeps group (IsBundleDone bundle.way old.parts group bundle.node bundle.label) p old r new
  bundle_swept known_new a b = record {
    goes = goes_both group p q r old mid new
        (a.goes group old.now is (λ d v h. h) (edge_takes group principle bundle.way bundle.node bundle.label old.parts old.now))
        (b.goes group old.now (subst (λ parts. IsGroup parts group) (sym a.same) is) a.inside (λ d v x. subst (λ parts. Takes parts group old.now d v) (sym a.same) (barred_takes d v (subst (λ parts. Barred parts group bundle least most d v) a.same x))));
    known = known_new;
    done = λ quiet.
        let y = b.quiet quiet in
        let x = a.quiet y.0 in
        record {
          entries = entries_done new.now (λ d v z. b.gone quiet d v (subst (λ parts. Barred parts group bundle least most d v) (sym a.same) z)) (y.1 ∙ x.1);
          edges = λ d v h e. a.gone y.0 d v (subst (λ box. EdgeAt bundle.way old.parts group box bundle.node bundle.label d v) (y.1 ∙ x.1) e) (subst (λ box. Has box d v) y.1 h);
        };
  }
