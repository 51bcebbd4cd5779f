-- Paths that are as they were.
use Rattle.std.proofs.Common.{◌≡◌, ℕ, ◌+◌, ◌<◌, ◌≤◌, ◌||◌, inl, inr, Bool, true, List, [], Contains, length, get_or, sym, ap, ◌∙◌, arith, subst}
use Rattle.std.specs.Prelude.{not, ◌&&◌, ◌==◌}
use Rattle.std.proofs.lemmas.Bool.{and_parts, cases_eq, eq-eqb, false≢true, or_cases, both_ways, not-true}
use Rattle.std.proofs.lemmas.List.{get_or_default}
use Rattle.xdg_facts.specs.Rises as nodesets
use Rattle.xdg_problem.specs.declared.analysis.Edge.{Edge}
use Rattle.xdg_problem.specs.declared.parts.Parts.{Parts}
use Rattle.xdg_problem.specs.Analyses.{IsPlace}
use Rattle.xdg_problem.specs.Boxes.{IsBox, LiesIn, May, Must, edge_decision}
use Rattle.xdg_problem.specs.Paths.{Above, IsDaughterBy}
use Rattle.xdg_problem.specs.Problems.{IsProblem}
use Rattle.xdg_problem.specs.Vectors.{shape}
use Rattle.xdg_problem.proofs.PlaceOrder.{is_place, place_is}
use Rattle.xdg_problem.proofs.Walks.{above_edge, above_trans}
use Rattle.xdg_rules.specs.Rules.{may_edges, must_edges}
use Rattle.xdg_rules.proofs.Shrinking.{may_exact, must_exact}
use Rattle.xdg_rules.proofs.Sizes.{edge_some}
use Rattle.xdg_graph.specs.declared.which.Which.{Which}
use Rattle.xdg_graph.specs.declared.which.Which.TheVariants as whichs
use Rattle.xdg_graph.specs.Edges.{edges_of}
use Rattle.xdg_store.specs.Naming.{Names}
use Rattle.xdg_store.specs.declared.decision.Decision.{Decision}
use Rattle.xdg_store.specs.declared.decision.Decision.TheVariants as decisions
use Rattle.xdg_formula_value.specs.Lost.{AllLast, IsEdgeOf, KeepsPath, Lasts, PathsStay}
use Rattle.xdg_formula_value.proofs.Losing.{HasLost, lost_edge, may_since, must_since}
use Rattle.xdg_formula_value.proofs.Passing.{through}

-- ---- a node less

-- the edge of a decision has another daughter than a node that remains
pub but_daughter : (row rest : List ℕ) (e : Edge) (dim mother label x : ℕ) → ((n : ℕ) → nodesets.has rest n ≡ (not (n == e.daughter.0) && nodesets.has row n)) → nodesets.has rest x ≡ true
    → (nodesets.has row x ≡ true) × (IsEdgeOf (decisions.Place e) dim mother label x → ⊥)
but_daughter row rest e dim mother label x members there =
    let both = and_parts (not (x == e.daughter.0)) (nodesets.has row x) (sym (members x) ∙ there) in
    (both.1, λ is. both_ways (x == e.daughter.0) (not-true (x == e.daughter.0) both.0) (eq-eqb x e.daughter.0 (sym is.3)))

-- no decision of the first is that of an edge to a node
abbrev pub NoneOfEdge : List Decision → ℕ → ℕ → ℕ → ℕ → ℕ → Type 0
NoneOfEdge removed dim u label k x = (i : ℕ) (d : Decision) → i < k → IsEdgeOf (get_or removed i d) dim u label x → ⊥

pub none_more : (removed : List Decision) (dim u label k x : ℕ) (none_there : Decision) → k < length removed → NoneOfEdge removed dim u label k x → (IsEdgeOf (get_or removed k none_there) dim u label x → ⊥)
    → NoneOfEdge removed dim u label (k + 1) x
none_more removed dim u label k x none_there within so_far isnt i d l is = elim (cases_eq i k) [
  | inl same ↦ isnt (subst (λ e. IsEdgeOf e dim u label x) (ap (λ j. get_or removed j d) same ∙ get_or_default removed k d none_there within) is)
  | inr other ↦ so_far i d (omega (arith, l, other)) is
]

module _ (which : Which) (parts : Parts) (old new : List (List Bool)) (dim : ℕ) where
  pub lasts_on : (u v w : ℕ) → Lasts which parts old new dim u v → Lasts which parts old new dim v w → Lasts which parts old new dim u w
  lasts_on u v w front rest = (rest.0, above_trans (edges_of which parts old dim) u v w front.1 rest.1, above_trans (edges_of which parts new dim) u v w front.2 rest.2)

  -- sets of nodes to which paths last

  pub last_none : (u : ℕ) (set : List ℕ) → set ≡ [] → AllLast which parts old new dim u set
  last_none u set empty x there = absurd (false≢true (subst (λ s. nodesets.has s x ≡ true) empty there))

  pub last_either : (u : ℕ) (first second both : List ℕ) → ((x : ℕ) → nodesets.has both x ≡ (nodesets.has first x || nodesets.has second x)) → AllLast which parts old new dim u first → AllLast which parts old new dim u second
      → AllLast which parts old new dim u both
  last_either u first second both members here there x is = elim (or_cases (nodesets.has first x) (nodesets.has second x) (sym (members x) ∙ is)) [
    | inl in_first ↦ here x in_first
    | inr in_second ↦ there x in_second
  ]

  pub last_beyond : (u node : ℕ) (set : List ℕ) → Lasts which parts old new dim u node → AllLast which parts old new dim node set → AllLast which parts old new dim u set
  last_beyond u node set front beyond x is = lasts_on u node x front (beyond x is)

  pub last_fewer : (u : ℕ) (set rest : List ℕ) → ((x : ℕ) → nodesets.has rest x ≡ true → nodesets.has set x ≡ true) → AllLast which parts old new dim u set → AllLast which parts old new dim u rest
  last_fewer u set rest within last x is = last x (within x is)

module _ (parts : Parts) (old new : List (List Bool)) (removed : List Decision) (dim : ℕ) where
  -- each of the first decisions keeps paths
  abbrev pub KeepPaths : ℕ → Type 0
  KeepPaths k = (i : ℕ) (d : Decision) → i < k → KeepsPath parts old new dim (get_or removed i d)

  pub keep_start : KeepPaths 0
  keep_start i d l = absurd (omega (arith, l))

  pub keep_more : (k : ℕ) (none_there : Decision) → k < length removed → KeepPaths k → KeepsPath parts old new dim (get_or removed k none_there) → KeepPaths (k + 1)
  keep_more k none_there within so_far one i d l = elim (cases_eq i k) [
    | inl same ↦ subst (KeepsPath parts old new dim) (sym (ap (λ j. get_or removed j d) same ∙ get_or_default removed k d none_there within)) one
    | inr other ↦ so_far i d (omega (arith, l, other))
  ]

module _ (parts : Parts) (problem : IsProblem parts) (old new : List (List Bool)) (old_is : IsBox (shape parts) old) (new_is : IsBox (shape parts) new) (inside : LiesIn new old) (removed : List Decision) (all : Names parts old new removed) where
  -- ---- edges that were there all the time

  -- an edge of the new box whose decision has lost nothing is one of the old box
  then_edge : (which : Which) (dim : ℕ) (e : Edge) → (Contains removed (decisions.Place e) → ⊥) → Contains (edges_of which parts new dim) e → Contains (edges_of which parts old dim) e
  then_edge whichs.May dim e kept is = (let now = (may_exact parts new dim e).0 is in (may_exact parts old dim e).1 (now.0, inside (edge_decision parts e) 0 now.1))
  then_edge whichs.Must dim e kept is =
      let now = (must_exact parts new dim e new_is).0 is in
      (must_exact parts old dim e old_is).1 (now.0, λ there. kept (lost_edge parts problem old new old_is new_is removed all e 1 (is_place parts e now.0.0) there now.1))

  edge_place : (which : Which) (dim : ℕ) (e : Edge) → Contains (edges_of which parts new dim) e → IsPlace parts e × (e.dim.0 ≡ dim)
  edge_place whichs.May dim e is = (let now = (may_exact parts new dim e).0 is in (is_place parts e now.0.0, now.0.1))
  edge_place whichs.Must dim e is = (let now = (must_exact parts new dim e new_is).0 is in (is_place parts e now.0.0, now.0.1))

  module _ (which : Which) (dim : ℕ) where
    pub lasts_by : (u label k x : ℕ) → length removed ≤ k → IsDaughterBy (edges_of which parts new dim) u label x → NoneOfEdge removed dim u label k x → Lasts which parts old new dim u x
    lasts_by u label k x past by none =
        let e = by.1 in
        let is : Contains (edges_of which parts new dim) e = (by.0, by.2, by.3) in
        let place = edge_place which dim e is in
        let kept : Contains removed (decisions.Place e) → ⊥ = λ among. (let l = among.1 in none among.0 (decisions.Place e) (omega (arith, l, past)) (subst (λ d. IsEdgeOf d dim u label x) (sym among.2) (place.1, by.4.0, by.4.1, by.4.2))) in
        let then = then_edge which dim e kept is in
        let there = by.4.2 in
        let within = place.0.daughter in (
          omega (arith, there, within),
          subst (λ m. Above (edges_of which parts old dim) m x) by.4.0 (subst (Above (edges_of which parts old dim) e.mother.0) by.4.2 (above_edge (edges_of which parts old dim) e then)),
          subst (λ m. Above (edges_of which parts new dim) m x) by.4.0 (subst (Above (edges_of which parts new dim) e.mother.0) by.4.2 (above_edge (edges_of which parts new dim) e is)),
        )

  -- ---- paths of one box among those of another

  pub paths_stay : (dim k : ℕ) → length removed ≤ k → KeepPaths parts old new removed dim k → PathsStay parts old new dim
  paths_stay dim k past keep =
      let kept : (e : Edge) (v : ℕ) → HasLost parts old new v e → KeepsPath parts old new dim (decisions.Place e) = λ e v lost.
      (let among = lost_edge parts problem old new old_is new_is removed all e v lost.0 lost.1 lost.2 in let l = among.1 in subst (KeepsPath parts old new dim) among.2 (keep among.0 (decisions.Place e) (omega (arith, l, past)))) in
      record {
        must = through (must_edges parts new dim) (must_edges parts old dim) (λ e is. elim (must_since parts old new old_is new_is dim e is) [
          | inl had ↦ above_edge (must_edges parts old dim) e had
          | inr lost ↦ (kept e 1 lost (edge_place whichs.Must dim e is).1).0 lost.2
        ]);
        may = through (may_edges parts old dim) (may_edges parts new dim) (λ e is. elim (may_since parts old new old_is new_is dim e is) [
          | inl still ↦ above_edge (may_edges parts new dim) e still
          | inr lost ↦ (kept e 0 lost ((may_exact parts old dim e).0 is).0.1).1 lost.2
        ]);
      }

-- ---- one edge

module _ (parts : Parts) (old new : List (List Bool)) where
  pub keeps_forced : IsBox (shape parts) new → (e : Edge) → IsPlace parts e → Must parts new e → Lasts whichs.Must parts old new e.dim.0 e.mother.0 e.daughter.0 → KeepsPath parts old new e.dim.0 (decisions.Place e)
  keeps_forced new_is e place must lasts same = (λ it. lasts.1, λ isnt. elim (edge_some parts new new_is e (place_is parts e place)) [ inl may ↦ absurd (isnt may) | inr absent ↦ absurd (must absent) ])

  pub keeps_open : (e : Edge) → (Must parts new e → ⊥) → May parts new e → KeepsPath parts old new e.dim.0 (decisions.Place e)
  keeps_open e mustnt may same = (λ must. absurd (mustnt must), λ isnt. absurd (isnt may))

  pub keeps_left : (e : Edge) → (Must parts new e → ⊥) → Lasts whichs.May parts old new e.dim.0 e.mother.0 e.daughter.0 → KeepsPath parts old new e.dim.0 (decisions.Place e)
  keeps_left e mustnt lasts same = (λ must. absurd (mustnt must), λ isnt. lasts.2)
