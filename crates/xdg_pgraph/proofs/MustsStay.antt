-- Where no edge must be present that needed not be before, what goes by such edges takes no more than before, and the rules that go by the
-- edges that may be take something only at the daughters of lost edges, or where one of these has become a root.
use Rattle.std.proofs.Common.{◌≡◌, ℕ, ◌<◌, ◌+◌, inl, inr, Bool, true, false, List, length, get_or, refl, ◌∙◌, ap, subst, arith}
use Rattle.std.specs.Prelude.{All, Contains}
use Rattle.std.proofs.lemmas.Bool.{both_ways, cases_Bool, false_from_ne_true}
use Rattle.std.proofs.lemmas.List.{get_or_default}
use Rattle.xdg_problem.specs.declared.analysis.Edge.{Edge}
use Rattle.xdg_problem.specs.declared.parts.Group.{Group}
use Rattle.xdg_problem.specs.declared.parts.Parts.{Parts}
use Rattle.xdg_problem.specs.Analyses.{IsPlace}
use Rattle.xdg_problem.specs.Arguments.{first_dim}
use Rattle.xdg_problem.specs.Boxes.{Has, IsBox, LiesIn, Must, edge_decision}
use Rattle.xdg_problem.specs.Paths.{mothers}
use Rattle.xdg_problem.specs.Places.{below, nodes, places}
use Rattle.xdg_problem.specs.Problems.{IsProblem}
use Rattle.xdg_problem.specs.Vectors.{shape}
use Rattle.xdg_problem.proofs.PlaceOrder.{is_place}
use Rattle.xdg_rules.specs.Rules.{has, IsClosedFor, Takes, may_edges, must_edges}
use Rattle.xdg_facts.specs.Rises.{has as has_node}
use Rattle.xdg_facts.proofs.Truths.{same_flag}
use Rattle.xdg_rules.proofs.Among.{free_root, is_root, root_contained, root_free}
use Rattle.xdg_rules.proofs.DecidingBoxes.{decided_edges}
use Rattle.xdg_facts.proofs.Numbers.{all_next}
use Rattle.xdg_facts.proofs.Contained.{contains_filter}
use Rattle.xdg_facts.proofs.Keeping.{filter_on, less_length}
use Rattle.xdg_rules.proofs.Shrinking.{may_among, may_is, may_of, must_be, must_is, must_less, must_test}
use Rattle.xdg_store.specs.Decisions.{IsDecision}
use Rattle.xdg_store.specs.Naming.{Names}
use Rattle.xdg_store.specs.declared.decision.Decision.{Decision}
use Rattle.xdg_store.specs.declared.decision.Decision.TheVariants as decisions
use Rattle.xdg_store.proofs.Kept.{on_edge}
use Rattle.xdg_propcore.proofs.Losing.{kept_or_lost}
use Rattle.xdg_pgraph.proofs.Branching.{musts_rule}
use Rattle.xdg_pgraph.proofs.EdgesStay.{musts_stay}
use Rattle.xdg_pgraph.proofs.Rising.{node_below}
use Rattle.xdg_pgraph.proofs.Single.{not_more, one_mother_there}
use Rattle.xdg_pgraph.specs.Musts.{AreMustsDone, HasDaughter, IsLost, IsMustOn, IsSettled}
use Rattle.xdg_pgraph.specs.Ruling.{ForOthers}

-- ---- one decision after another

-- the first decisions, so many, are on edges that need not be, and have their daughters among some nodes
abbrev pub AreLost : Parts → List (List Bool) → ℕ → List Decision → ℕ → List ℕ → Type 0
AreLost parts box dim removed count daughters = (k : ℕ) → k < count → (d : Decision) → IsLost parts box dim daughters (get_or removed k d)

kept : (dim : ℕ) (old new : List ℕ) (d : Decision) → ((n : ℕ) → has_node old n ≡ true → has_node new n ≡ true) → HasDaughter dim old d → HasDaughter dim new d
kept dim old new (decisions.Place e) stays h = λ on. stays e.daughter.0 (h on)
kept dim old new d stays h = tt

pub lost_more : (parts : Parts) (box : List (List Bool)) (dim : ℕ) (removed : List Decision) (k : ℕ) (default : Decision) (old new : List ℕ) → k < length removed → (IsMustOn parts box dim (get_or removed k default) → ⊥) → HasDaughter dim new (get_or removed k default) → ((n : ℕ) → has_node old n ≡ true → has_node new n ≡ true) → AreLost parts box dim removed k old → AreLost parts box dim removed (k + 1) new
lost_more parts box dim removed k default old new within free here stays before = all_next (λ i. (d : Decision) → IsLost parts box dim new (get_or removed i d)) k
    (λ i l d. (let b = before i l d in (b.0, kept dim old new (get_or removed i d) stays b.1)))
    (λ d. subst (IsLost parts box dim new) (get_or_default removed k default d within) (free, here))

-- ---- all of them

module _ (parts : Parts) (problem : IsProblem parts) (group : Group) (old now : List (List Bool)) (now_is : IsBox (shape parts) now) (lies : LiesIn now old) (removed : List Decision)
    (names : Names parts old now removed) (closed : IsClosedFor parts group old) where
  abbrev dim : ℕ
  dim = first_dim group

  -- what holds of each decision that is told holds of the one on an edge of which a value is lost
  named_edge : (P : Decision → Type 0) → All P removed → (e : Edge) → IsPlace parts e → (v : ℕ) → Has old (edge_decision parts e) v → (Has now (edge_decision parts e) v → ⊥) → P (decisions.Place e)
  named_edge P all e place v before gone =
      let n = names.all (edge_decision parts e) v before gone in
      let known : IsDecision parts n.0 = subst (IsDecision parts) n.1.2 (names.each n.1.0 n.0 n.1.1) in
      subst P (n.1.2 ∙ on_edge parts n.0 e problem place known n.2) (all n.1.0 n.0 n.1.1)

  module _ (none : All (λ d. IsMustOn parts now dim d → ⊥) removed) where
    -- what must be now had to be before
    must_before : (e : Edge) → Contains (places parts) e → must_be parts now dim e ≡ true → must_be parts old dim e ≡ true
    must_before e place passes =
        let m = must_is parts now dim e (contains_filter (must_be parts now dim) (places parts) e passes place) in
        let must : Must parts now e = (λ there. both_ways (has now (edge_decision parts e) 1) m.not_absent there) in
        must_test parts old dim e m.dim_is (lies (edge_decision parts e) 0 m.present) (false_from_ne_true (has old (edge_decision parts e) 1)
        (λ there. named_edge (λ d. IsMustOn parts now dim d → ⊥) none e (is_place parts e place) 1 there must (m.dim_is, must)))

    musts_same : must_edges parts now dim ≡ must_edges parts old dim
    musts_same = filter_on (must_be parts now dim) (must_be parts old dim) (places parts)
        (λ e place. same_flag (must_be parts now dim e) (must_be parts old dim e) (must_before e place) (must_less parts now old now_is lies dim e place))

    pub musts_done : AreMustsDone parts group now
    musts_done d v h r = closed d v (lies d v h) (inr (musts_rule parts group old d v group.principle (musts_stay parts group old now d v musts_same group.principle r)))

  module _ (daughters : List ℕ) (lost : All (IsLost parts now dim daughters) removed) (settled : (w : ℕ) → w < nodes parts → has_node daughters w ≡ true → IsSettled parts now dim w) where
    abbrev was : List Edge
    was = may_edges parts old dim

    abbrev may : List Edge
    may = may_edges parts now dim

    -- an edge whose daughter isn't among them is left
    left : (e : Edge) → Contains was e → has_node daughters e.daughter.0 ≡ false → Contains may e
    left e c out =
        let m = may_is parts old dim e c in
        may_of parts now dim e (record {
          place = m.place;
          dim_is = m.dim_is;
          present = kept_or_lost old now (edge_decision parts e) 0
              (λ gone. both_ways (has_node daughters e.daughter.0) out ((named_edge (IsLost parts now dim daughters) lost e (is_place parts e m.place) 0 gone.0 gone.1).1 m.dim_is)) m.present;
        })

    -- what is a root was one
    root_before : (v : ℕ) → Contains (below (nodes parts)) v → is_root may v ≡ true → is_root was v ≡ true
    root_before v in_sentence root = free_root was v (λ e c into. elim (cases_Bool (has_node daughters v)) [
      | inl there ↦ (
          let s = (settled v (node_below (nodes parts) v in_sentence) there).entered in
          root_free may v root s.0 s.1 s.2)
      | inr out ↦ root_free may v root e (left e c (ap (has_node daughters) into ∙ out)) into
    ])

    only_before : (e : Edge) → Contains may e → has_node daughters e.daughter.0 ≡ false → mothers may e.daughter.0 ≡ 1 → mothers was e.daughter.0 ≡ 1
    only_before e c out one = one_mother_there parts old dim e.daughter.0 e (
      (may_among parts now old now_is lies dim e c, refl),
      λ f i. elim (decided_edges e f) [
        | inl same ↦ same
        | inr differ ↦ absurd (not_more parts now dim e.daughter.0 (e, f, (c, refl), (left f i.0 (ap (has_node daughters) i.1 ∙ out), i.1), differ) one)
      ],
    )

    pub rests_but : ((box : List (List Bool)) (d v : ℕ) → ForOthers parts group box d v → Takes parts group box d v) → (d v : ℕ) → Has now d v → ForOthers parts group now d v → ⊥
    rests_but takes d v h (inl r) = elim (cases_Bool (has_node daughters r.place.daughter.0)) [
      | inl there ↦ (settled r.place.daughter.0 (is_place parts r.place (may_is parts now dim r.place r.may).place).daughter there).none d v (record { place = r.place; among = r.may; into = refl; one = r.only; says = r.says }) h
      | inr out ↦ closed d v (lies d v h) (takes old d v (inl (record {
        place = r.place;
        may = may_among parts now old now_is lies dim r.place r.may;
        says = r.says;
        only = only_before r.place r.may out r.only;
        other = r.other;
        root = (let c = root_contained (nodes parts) may r.other r.root in contains_filter (is_root was) (below (nodes parts)) r.other (root_before r.other c.0 c.1) c.0);
      })))
    ]
    rests_but takes d v h (inr two) = (let l = less_length (is_root may) (is_root was) (below (nodes parts)) root_before in closed d v (lies d v h) (takes old d v (inr (omega (arith, two, l)))))
