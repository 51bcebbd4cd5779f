-- The daughters of a mother as a set.
use Rattle.std.proofs.Common.{◌≡◌, ◌≢◌, ℕ, ◌<◌, ◌+◌, ◌↔◌, Bool, not, IsTrue, List, get_or, ap, subst, sym, ◌∙◌, arith, refl}
use Rattle.std.specs.Prelude.{◌&&◌, ◌==◌, nat_lt}
use Rattle.std.proofs.lemmas.Bool.{and_parts, and_from, eqb-false, lt-ltb, ltb-true, ne_eqb, not-true}
use Rattle.std.proofs.lemmas.Option.{slice_get-get_or}
use Rattle.xdg_problem.specs.declared.parts.Parts.{Parts}
use Rattle.xdg_problem.specs.Analyses.{IsPlace}
use Rattle.xdg_problem.specs.Arguments.{no_plan}
use Rattle.xdg_problem.specs.Boxes.{May, Must}
use Rattle.xdg_problem.specs.Places.{edge, nodes}
use Rattle.xdg_facts.proofs.Truths.{and_swap}
use Rattle.xdg_problem.specs.declared.analysis.Edge.{Edge}
use Rattle.xdg_trail.specs.Trailed.{Trailed}
use Rattle.xdg_store.specs.InRange.{HasEdges}
use Rattle.xdg_store.specs.Layout.{bits_of, box_in, edge_row, is_set}
use Rattle.xdg_store.specs.States.{State, Keeps}
use Rattle.xdg_store.proofs.Histories.{seen}
use Rattle.xdg_store.proofs.Pairs.{IsPair, edge_is_pair, may_has, must_has}
use Rattle.xdg_facts.specs.Rises.{has}

-- an edge from the node to another is a place
pub out_is_place : (parts : Parts) (dim mother label daughter : ℕ) → HasEdges parts dim mother label → daughter < nodes parts → mother ≢ daughter → IsPlace parts (edge dim mother label daughter)
out_is_place parts dim mother label daughter h l n = record {
  plan = get_or parts.dims dim no_plan;
  plan_is = slice_get-get_or parts.dims dim no_plan h.dim_in;
  graph = h.graph;
  label = h.label_in;
  mother = h.node_in;
  daughter = l;
  differ = n;
}

-- a set from which the mother was taken
pub without_mother : (met set : List ℕ) (mother node : ℕ) → ((k : ℕ) → has set k ≡ (not (k == mother) && has met k)) → IsTrue (has set node) ↔ ((mother ≢ node) × IsTrue (has met node))
without_mother met set mother node e = (
  λ h. (let q = and_parts (not (node == mother)) (has met node) (sym (e node) ∙ h) in ((λ s. eqb-false node mother (not-true (node == mother) q.0) (sym s)), q.1)),
  λ h. e node ∙ and_from (not (node == mother)) (has met node) (ap not (ne_eqb node mother (λ s. h.0 (sym s)))) h.1,
)

module _ {parts : Parts} {t : Trailed} {turns : ℕ} {s : State} (keeps : Keeps parts t) (is : seen parts t turns ≡ s) {n dim mother label row : ℕ} (m : n ≡ nodes parts) (has_them : HasEdges s.parts dim mother label)
    (r : row ≡ edge_row n dim mother label) (all got met set : List ℕ) (whole : (k : ℕ) → has all k ≡ nat_lt k (nodes parts)) (taken : (k : ℕ) → has set k ≡ (not (k == mother) && has met k)) (node : ℕ) where
  pair : node < nodes parts → mother ≢ node → IsPair parts (edge dim mother label node) (row + node)
  pair l d = edge_is_pair parts (edge dim mother label node) n row (row + node) keeps.problem (out_is_place parts dim mother label node (subst (λ s. HasEdges s.parts dim mother label) (sym is) has_them) l d) m r refl

  small : node < nodes parts → node < 128
  small l = let most = keeps.problem.most in omega (arith, l, most)

  -- for the edges that may be present, and for those that must be
  exact : (P : Parts → List (List Bool) → Edge → Type 0) (it : Bool) → has met node ≡ (it && has all node)
      → ((l : node < nodes parts) (d : mother ≢ node) → IsTrue it ↔ P parts (box_in (bits_of parts) t.words) (edge dim mother label node)) → IsTrue (has set node) ↔
      ((node < nodes s.parts) × (mother ≢ node) × P s.parts s.now (edge dim mother label node))
  exact P it both says =
      let w = without_mother met set mother node taken in
      subst (λ s. IsTrue (has set node) ↔ ((node < nodes s.parts) × (mother ≢ node) × P s.parts s.now (edge dim mother label node))) is (
        λ i.
            let q = w.0 i in
            let b = and_parts it (has all node) (sym both ∙ q.1) in
            let l = ltb-true node (nodes parts) (sym (whole node) ∙ b.1) in
            (l, q.0, (says l q.0).0 b.0),
        λ (l, d, holds). w.1 (d, both ∙ and_from it (has all node) ((says l d).1 holds) (whole node ∙ lt-ltb node (nodes parts) l)),
      )

  pub daughters_may_exact : ((k : ℕ) → k < 128 → has got k ≡ is_set t.words (row + k)) → ((k : ℕ) → has met k ≡ (has got k && has all k))
      → IsTrue (has set node) ↔ ((node < nodes s.parts) × (mother ≢ node) × May s.parts s.now (edge dim mother label node))
  daughters_may_exact read both = exact May (has got node) (both node) (λ l d. may_has t.words (pair l d) (read node (small l)))

  pub daughters_must_exact : ((k : ℕ) → k < 128 → has got k ≡ is_set t.words ((row + 128) + k)) → ((k : ℕ) → has met k ≡ (has all k && not (has got k)))
      → IsTrue (has set node) ↔ ((node < nodes s.parts) × (mother ≢ node) × Must s.parts s.now (edge dim mother label node))
  daughters_must_exact read both =
      let turned : (row + 128) + node ≡ (row + node) + 128 = omega arith in
      exact Must (not (has got node)) (both node ∙ and_swap (has all node) (not (has got node))) (λ l d. must_has t.words (pair l d) (read node (small l) ∙ ap (is_set t.words) turned))
