-- What a condition asks of a tuple can be decided.
use Rattle.std.proofs.Common.{◌≡◌, ℕ, ◌<◌, ◌⊎◌, inl, true, List, length, map, refl, sym, subst, Option, None, Some}
use Rattle.std.specs.Prelude.{slice_index}
use Rattle.xdg_problem.specs.declared.analysis.Edge.{Edge}
use Rattle.xdg_problem.specs.declared.conditions.Condition.{Condition}
use Rattle.xdg_problem.specs.declared.conditions.Condition.TheVariants as conditions
use Rattle.xdg_problem.specs.declared.parts.Group.{Group}
use Rattle.xdg_problem.specs.declared.parts.Linking.{Linking}
use Rattle.xdg_problem.specs.declared.parts.Linking.TheVariants as linkings
use Rattle.xdg_problem.specs.declared.parts.Parts.{Parts}
use Rattle.xdg_problem.specs.declared.parts.Principle.{Principle}
use Rattle.xdg_problem.specs.declared.parts.Principle.TheVariants as principles
use Rattle.xdg_problem.specs.Paths.{edges_on, edges_into, edges_out_of, edges_joining, mothers, IsDaughter, IsDaughterBy, Above}
use Rattle.xdg_problem.specs.Features.{in_row, out_row, set_row, map_row}
use Rattle.xdg_problem.specs.Principles.{linking_of}
use Rattle.xdg_problem.specs.Arguments.{first_dim, second_dim, truth_of, order_of}
use Rattle.xdg_problem.specs.Asking.{first, second, third, IsBetween, IsInItem, IsLinked, AsksBy, AsksLink, AsksOf, attr_places, Asks}
use Rattle.xdg_facts.proofs.Decided.{Decided, decided_both, decided_from, decided_equal, decided_less, decided_most, decided_contains, decided_either, decided_true, decided_not, decided_pairs, triple_decided}
use Rattle.xdg_facts.proofs.Contained.{contained, any_of}
use Rattle.xdg_problem.proofs.DecidingPaths.{decided_by_edge, decided_daughter, decided_daughter_by, decided_daughter_by_any, decided_entered, decided_sisters, decided_above, decided_above_by_first, decided_above_by_last}
use Rattle.xdg_problem.proofs.DecidingTruths.{decided_whole}

pub decided_between : (u v w : ℕ) → Decided (IsBetween u v w)
decided_between u v w = decided_either ((u < w) × (w < v)) ((v < w) × (w < u)) (decided_both _ _ (decided_less u w) (decided_less w v)) (decided_both _ _ (decided_less v w) (decided_less w u))

decided_yield : (edges : List Edge) (u label x : ℕ) → Decided ((v : ℕ) × IsDaughterBy edges u label v × Above edges v x)
decided_yield edges u label x = decided_by_edge (λ e. (e.mother.0 ≡ u) × (e.label.0 ≡ label) × Above edges e.daughter.0 x) ((v : ℕ) × IsDaughterBy edges u label v × Above edges v x) edges
    (λ e stands p. (e.daughter.0, any_of (λ f. (f.mother.0 ≡ u) × (f.label.0 ≡ label) × (f.daughter.0 ≡ e.daughter.0)) edges e stands (p.0, p.1, refl), p.2))
    (λ (v, is, above). (let c = contained (λ e. (e.mother.0 ≡ u) × (e.label.0 ≡ label) × (e.daughter.0 ≡ v)) edges is in (c.0, c.1, (c.2.0, c.2.1, subst (λ w. Above edges w x) (sym c.2.2) above))))
    (λ e. triple_decided _ _ _ (decided_equal e.mother.0 u) (decided_equal e.label.0 label) (decided_above edges e.daughter.0 x))

decided_item : (edges : List Edge) (yields : Type 0) (own u label x : ℕ) → Decided yields → Decided (IsInItem edges yields own u label x)
decided_item edges yields own u label x takes = decided_either ((label ≡ own) × (x ≡ u)) (IsDaughterBy edges u label x ⊎ (yields × ((v : ℕ) × IsDaughterBy edges u label v × Above edges v x)))
    (decided_both _ _ (decided_equal label own) (decided_equal x u))
    (decided_either (IsDaughterBy edges u label x) (yields × ((v : ℕ) × IsDaughterBy edges u label v × Above edges v x)) (decided_daughter_by edges u label x) (decided_both _ _ takes (decided_yield edges u label x)))

pub decided_linked : (way : Linking) (edges : List Edge) (u : ℕ) (labels : List ℕ) (v : ℕ) → Decided (IsLinked way edges u labels v)
decided_linked linkings.End edges u labels v = decided_entered edges labels v
decided_linked linkings.Daughter edges u labels v = decided_daughter_by_any edges u labels v
decided_linked linkings.Mother edges u labels v = decided_daughter_by_any edges v labels u
decided_linked linkings.BelowStart edges u labels v = decided_above_by_first edges u labels v
decided_linked linkings.AboveStart edges u labels v = decided_above_by_first edges v labels u
decided_linked linkings.Sisters edges u labels v = decided_sisters edges u labels v

labelled : (labels : List ℕ) (P : Type 0) → Decided P → Decided (0 < length labels → P)
labelled labels P p = decided_from (0 < length labels) P (decided_less 0 (length labels)) p

decided_way : (linking : Option Linking) (edges : List Edge) (u : ℕ) (labels : List ℕ) (v : ℕ) → Decided (AsksBy linking edges u labels v)
decided_way None edges u labels v = inl tt
decided_way (Some way) edges u labels v = labelled labels _ (decided_linked way edges u labels v)

decided_link : (principle : Principle) (group : Group) (candidate : ℕ) (edges : List Edge) (u l v : ℕ) → Decided (AsksLink principle group candidate edges u l v)
decided_link principles.LinkingNotDaughter group candidate edges u l v = decided_from _ _ (decided_contains (set_row group u candidate) l) (decided_not (IsDaughter edges u v) (decided_daughter edges u v))
decided_link principle group candidate edges u l v = decided_way (linking_of principle) edges u (map_row group u candidate l) v

pub decided_asks : (condition : Condition) (group : Group) (candidate : ℕ) (values : List ℕ) (edges : List Edge) (tuple : List ℕ) → Decided (AsksOf condition group candidate values edges tuple)
decided_asks conditions.Cycle group candidate values edges tuple = decided_not _ (decided_above (edges_on (first_dim group) edges) (first tuple) (first tuple))
decided_asks conditions.Roots group candidate values edges tuple = decided_equal (first tuple) 1
decided_asks conditions.Mothers group candidate values edges tuple = decided_most (mothers (edges_on (first_dim group) edges) (first tuple)) 1
decided_asks conditions.Pair group candidate values edges tuple = decided_most (edges_joining (edges_on (first_dim group) edges) (first tuple) (second tuple)) 1
decided_asks conditions.InCount group candidate values edges tuple = decided_contains (in_row group (first tuple) candidate (second tuple)) (edges_into (edges_on (first_dim group) edges) (first tuple) (second tuple))
decided_asks conditions.OutCount group candidate values edges tuple = decided_contains (out_row group (first tuple) candidate (second tuple)) (edges_out_of (edges_on (first_dim group) edges) (first tuple) (second tuple))
decided_asks conditions.Order group candidate values edges tuple =
    let item : ℕ → ℕ → Type 0 = λ label x. IsInItem (edges_on (first_dim group) edges) (truth_of group.truths 0 ≡ true) (slice_index values 0) (first tuple) label x in
    let decides : (label x : ℕ) → Decided (item label x) = λ label x. decided_item (edges_on (first_dim group) edges) (truth_of group.truths 0 ≡ true) (slice_index values 0) (first tuple) label x (decided_true (truth_of group.truths 0)) in
    decided_pairs (λ earlier later. item earlier (second tuple) → item later (third tuple) → second tuple < third tuple) (order_of group) (λ earlier later. decided_from (item earlier (second tuple)) _ (decides earlier (second tuple)) (decided_from (item later (third tuple)) _ (decides later (third tuple)) (decided_less (second tuple) (third tuple))))
decided_asks conditions.Between group candidate values edges tuple = decided_from _ _ (decided_daughter (edges_on (first_dim group) edges) (first tuple) (second tuple)) (decided_from _ _ (decided_between (first tuple) (second tuple) (third tuple)) (decided_above (edges_on (first_dim group) edges) (first tuple) (third tuple)))
decided_asks conditions.Agr group candidate values edges tuple = decided_contains (set_row group (first tuple) candidate) (slice_index values 0)
decided_asks conditions.Agree group candidate values edges tuple = decided_from _ _ (decided_daughter_by (edges_on (first_dim group) edges) (first tuple) (second tuple) (third tuple)) (decided_from _ _ (decided_contains (set_row group (first tuple) candidate) (second tuple)) (decided_equal (slice_index values 0) (slice_index values 1)))
decided_asks conditions.Govern group candidate values edges tuple = decided_from _ _ (decided_daughter_by (edges_on (first_dim group) edges) (first tuple) (second tuple) (third tuple)) (labelled (map_row group (first tuple) candidate (second tuple)) _ (decided_contains (map_row group (first tuple) candidate (second tuple)) (slice_index values 0)))
decided_asks conditions.Below group candidate values edges tuple = decided_from _ _ (decided_above (edges_on (first_dim group) edges) (first tuple) (second tuple)) (decided_above (edges_on (second_dim group) edges) (first tuple) (second tuple))
decided_asks conditions.Blocked group candidate values edges tuple = decided_from _ _ (decided_above_by_last (edges_on (second_dim group) edges) (first tuple) (set_row group (first tuple) candidate) (second tuple)) (decided_above (edges_on (first_dim group) edges) (first tuple) (second tuple))
decided_asks conditions.Rule group candidate values edges tuple = inl tt
decided_asks conditions.Bound group candidate values edges tuple = inl tt
decided_asks conditions.Link group candidate values edges tuple = decided_from _ _ (decided_daughter_by (edges_on (first_dim group) edges) (first tuple) (second tuple) (third tuple)) (decided_link group.principle group candidate (edges_on (second_dim group) edges) (first tuple) (second tuple) (third tuple))

-- and what it asks of a tuple of an analysis
pub decided_asked : (condition : Condition) (parts : Parts) (group : Group) (candidates attrs : List ℕ) (edges : List Edge) (tuple : List ℕ) → Decided (Asks condition parts group candidates attrs edges tuple)
decided_asked conditions.Rule parts group candidates attrs edges tuple = decided_whole parts candidates attrs edges group.principle
decided_asked conditions.Bound parts group candidates attrs edges tuple = decided_whole parts candidates attrs edges group.principle
decided_asked condition parts group candidates attrs edges tuple = decided_asks condition group (slice_index candidates (first tuple)) (map (slice_index attrs) (attr_places condition parts group tuple)) edges tuple
