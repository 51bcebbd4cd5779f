-- What valency takes of edges from a box, it takes from each closed box that lies in it, too: where no entry is taken, the
-- counts of the smaller box are those of the larger one.
use Rattle.std.proofs.Common.{◌≡◌, ℕ, ◌<◌, ◌≤◌, inl, inr, Bool, true, List, length, refl, sym, arith, subst}
use Rattle.std.specs.Prelude.{count_by, Contains, All, slice_index_or, ◌==◌, ◌&&◌}
use Rattle.std.proofs.lemmas.Bool.{and_from, eq-eqb}
use Rattle.std.proofs.lemmas.List.Elements.{All-contains}
use Rattle.xdg_problem.specs.declared.analysis.Edge.{Edge}
use Rattle.xdg_problem.specs.declared.parts.Group.{Group}
use Rattle.xdg_problem.specs.declared.parts.Parts.{Parts}
use Rattle.xdg_problem.specs.declared.parts.DimPlan.{DimPlan}
use Rattle.xdg_problem.specs.Analyses.{IsPlace}
use Rattle.xdg_problem.specs.Arguments.{first_dim, label_count, no_plan}
use Rattle.xdg_problem.specs.Features.{in_row, out_row}
use Rattle.xdg_problem.specs.Paths.{edges_into, edges_out_of}
use Rattle.xdg_problem.specs.Places.{nodes, places}
use Rattle.xdg_problem.specs.Problems.{IsProblem}
use Rattle.xdg_problem.specs.Vectors.{shape}
use Rattle.xdg_problem.proofs.PlaceOrder.{is_place}
use Rattle.xdg_problem.specs.Boxes.{Has, IsBox, LiesIn, entry_decision}
use Rattle.xdg_problem.proofs.PlacePlans.{plan_read}
use Rattle.xdg_rules.specs.Rules.{may_edges, must_edges, HasNoneWithin, IsGreatest, IsLeast, ValencyEntry, ValencyFull, ValencyNeeded}
use Rattle.xdg_rules.proofs.Sizes.{node_within}
use Rattle.xdg_rules.proofs.Shrinking.{may_or_not, may_count, must_count, may_count_more, must_count_more, may_is}

-- the label of a place is one of its dimension
label_known : (parts : Parts) (e : Edge) → IsPlace parts e → e.label.0 < label_count parts e.dim.0
label_known parts e is =
    let plan : slice_index_or parts.dims e.dim.0 no_plan ≡ is.plan = plan_read parts e is no_plan in
    subst (λ (p : DimPlan). e.label.0 < length p.labels) (sym plan) is.label

pub label_on : (parts : Parts) (dim : ℕ) (e : Edge) → IsPlace parts e → e.dim.0 ≡ dim → e.label.0 < label_count parts dim
label_on parts dim e is on = subst (λ k. e.label.0 < label_count parts k) on (label_known parts e is)

-- The greatest number of the larger box is that of the smaller one, as soon as an entry of the smaller one has a number within
-- its counts: m is the count of the larger box, from and to are those of the smaller.
greatest_stays : (large small : List (List Bool)) (node : ℕ) (row : ℕ → List ℕ) (m from : ℕ) → LiesIn small large → IsGreatest large node row m → m ≤ from → (c k : ℕ) → Has small (entry_decision node) c → Contains (row c) k → from ≤ k → IsGreatest small node row from × (from ≡ m)
greatest_stays large small node row m from lies greatest less c k remains allowed above =
    let most : k ≤ m = All-contains (λ x. x ≤ m) (row c) k (greatest.most c (lies (entry_decision node) c remains)) allowed in
    let same : m ≡ from = omega (arith, most, above, less) in
    let value : k ≡ from = omega (arith, most, above, less) in (
      record {
        entry = c;
        remains = remains;
        allowed = subst (Contains (row c)) value allowed;
        most = λ x has. subst (λ n. All (λ y. y ≤ n) (row x)) same (greatest.most x (lies (entry_decision node) x has));
      },
      sym same,
    )

least_stays : (large small : List (List Bool)) (node : ℕ) (row : ℕ → List ℕ) (m to : ℕ) → LiesIn small large → IsLeast large node row m → to ≤ m → (c k : ℕ) → Has small (entry_decision node) c → Contains (row c) k → k ≤ to → IsLeast small node row to × (to ≡ m)
least_stays large small node row m to lies least less c k remains allowed below =
    let most : m ≤ k = All-contains (λ x. m ≤ x) (row c) k (least.least c (lies (entry_decision node) c remains)) allowed in
    let same : m ≡ to = omega (arith, most, below, less) in
    let value : k ≡ to = omega (arith, most, below, less) in (
      record {
        entry = c;
        remains = remains;
        allowed = subst (Contains (row c)) value allowed;
        least = λ x has. subst (λ n. All (λ y. n ≤ y) (row x)) same (least.least x (lies (entry_decision node) x has));
      },
      sym same,
    )

module _ (parts : Parts) (group : Group) (small large : List (List Bool)) (problem : IsProblem parts) (is : IsBox (shape parts) small) (lies : LiesIn small large) where
  abbrev one : ℕ
  one = first_dim group

  abbrev may : List (List Bool) → List Edge
  may box = may_edges parts box one

  abbrev must : List (List Bool) → List Edge
  must box = must_edges parts box one

  -- valency takes no entry of the small box
  abbrev pub KeepsEntries : Type 0
  KeepsEntries = (d v : ℕ) → Has small d v → ValencyEntry parts group small d v → ⊥

  -- an edge at one node of a place, mother or daughter, with the label of the place
  abbrev at : (Edge → ℕ) → Edge → Edge → Bool
  at near place e = (near e == near place) && (e.label.0 == place.label.0)

  -- where each entry of that node has in its row a number of such edges that lies within the counts of the small box
  module _ (place : Edge) (placed : Contains (places parts) place) (near : Edge → ℕ) (row : ℕ → List ℕ) (within : near place < nodes parts)
      (keeps : (c : ℕ) → Has small (entry_decision (near place)) c → HasNoneWithin (row c) (count_by (at near place) (must small)) (count_by (at near place) (may small)) → ⊥) where
    here : at near place place ≡ true
    here = and_from (near place == near place) (place.label.0 == place.label.0) (eq-eqb (near place) (near place) refl) (eq-eqb place.label.0 place.label.0 refl)

    -- an entry of the node remains, and a number of it lies there, as far as nothing follows from it
    some : ((c k : ℕ) → Has small (entry_decision (near place)) c → Contains (row c) k → count_by (at near place) (must small) ≤ k → k ≤ count_by (at near place) (may small) → ⊥) → ⊥
    some none = (let entry = is.filled (entry_decision (near place)) (node_within parts (near place) problem within) in keeps entry.0 entry.1 (λ k c a b. none entry.0 k entry.1 c a b))

    -- where as many edges must be in both boxes, the place that need not be in the large one need not be in the small one
    full : (Contains (must large) place → ⊥) → IsGreatest large (near place) row (count_by (at near place) (must large))
        → (IsGreatest small (near place) row (count_by (at near place) (must small)) → (Contains (must small) place → ⊥) → ⊥) → ⊥
    full free greatest none = some (λ c k remains allowed from to.
        let both = greatest_stays large small (near place) row (count_by (at near place) (must large)) (count_by (at near place) (must small)) lies greatest
        (must_count parts small large is lies one (at near place)) c k remains allowed from in
        let same = both.1 in
        none both.0 (λ there. (let more = must_count_more parts small large is lies one (at near place) place here there free in omega (arith, more, same))))

    -- where as many edges may be in both boxes, the place that may be in the large one may be in the small one
    needed : Contains (may large) place → IsLeast large (near place) row (count_by (at near place) (may large)) → (IsLeast small (near place) row (count_by (at near place) (may small)) → Contains (may small) place → ⊥) → ⊥
    needed there least none = some (λ c k remains allowed from to.
        let both = least_stays large small (near place) row (count_by (at near place) (may large)) (count_by (at near place) (may small)) lies least (may_count parts small large is lies one (at near place)) c k remains allowed to in
        let same = both.1 in
        elim (may_or_not parts small one place placed) [
          | inl stays ↦ none both.0 stays
          | inr gone ↦ (let more = may_count_more parts small large is lies one (at near place) place here there gone in omega (arith, more, same))
        ])

  module _ (keeps : KeepsEntries) (place : Edge) (placed : Contains (places parts) place) (on : place.dim.0 ≡ one) where
    stands : IsPlace parts place
    stands = is_place parts place placed

    keeps_out : (c : ℕ) → Has small (entry_decision place.mother.0) c → HasNoneWithin (out_row group place.mother.0 c place.label.0) (edges_out_of (must small) place.mother.0 place.label.0)
        (edges_out_of (may small) place.mother.0 place.label.0) → ⊥
    keeps_out c has none = keeps (entry_decision place.mother.0) c has (record { node = place.mother.0; within = stands.mother; label = place.label.0; known = label_on parts one place stands on; is = refl; none = inl none })

    keeps_in : (c : ℕ) → Has small (entry_decision place.daughter.0) c → HasNoneWithin (in_row group place.daughter.0 c place.label.0) (edges_into (must small) place.daughter.0 place.label.0)
        (edges_into (may small) place.daughter.0 place.label.0) → ⊥
    keeps_in c has none = keeps (entry_decision place.daughter.0) c has (record { node = place.daughter.0; within = stands.daughter; label = place.label.0; known = label_on parts one place stands on; is = refl; none = inr none })

  pub valency_full : KeepsEntries → (d v : ℕ) → (ValencyFull parts group small d v → ⊥) → ValencyFull parts group large d v → ⊥
  valency_full keeps d v none rule =
      let place = rule.place in
      let within = is_place parts place rule.is.0 in
      elim rule.full [
        | inl greatest ↦ full place rule.is.0 (λ e. e.mother.0) (λ x. out_row group place.mother.0 x place.label.0) within.mother (keeps_out keeps place rule.is.0 rule.is.1) rule.free greatest
            (λ most free. none (record { place = place; is = rule.is; says = rule.says; free = free; full = inl most }))
        | inr greatest ↦ full place rule.is.0 (λ e. e.daughter.0) (λ x. in_row group place.daughter.0 x place.label.0) within.daughter (keeps_in keeps place rule.is.0 rule.is.1) rule.free greatest
            (λ most free. none (record { place = place; is = rule.is; says = rule.says; free = free; full = inr most }))
      ]

  pub valency_needed : KeepsEntries → (d v : ℕ) → (ValencyNeeded parts group small d v → ⊥) → ValencyNeeded parts group large d v → ⊥
  valency_needed keeps d v none rule =
      let place = rule.place in
      let there = may_is parts large one place rule.may in
      let within = is_place parts place there.place in
      elim rule.needed [
        | inl least ↦ needed place there.place (λ e. e.mother.0) (λ x. out_row group place.mother.0 x place.label.0) within.mother (keeps_out keeps place there.place there.dim_is) rule.may least
            (λ fewest stays. none (record { place = place; may = stays; says = rule.says; needed = inl fewest }))
        | inr least ↦ needed place there.place (λ e. e.daughter.0) (λ x. in_row group place.daughter.0 x place.label.0) within.daughter (keeps_in keeps place there.place there.dim_is) rule.may least
            (λ fewest stays. none (record { place = place; may = stays; says = rule.says; needed = inr fewest }))
      ]
