-- The labels of an order from one side, what their items reach, and what is taken by it.
use Rattle.std.proofs.Common.{◌≡◌, ℕ, ◌<◌, ◌≤◌, ◌+◌, ◌-◌, ◌↔◌, ◌&&◌, ◌||◌, inl, inr, Bool, true, List, length, sym, ap, ◌∙◌, arith, subst}
use Rattle.std.proofs.lemmas.Bool.{cases_lt}
use Rattle.std.proofs.lemmas.List.{length-map}
use Rattle.xdg_problem.specs.declared.parts.Group.{Group}
use Rattle.xdg_problem.specs.declared.parts.Parts.{Parts}
use Rattle.xdg_problem.specs.Boxes.{Has, IsOnly, LiesIn, edge_decision}
use Rattle.xdg_problem.specs.Places.{nodes}
use Rattle.xdg_problem.specs.Vectors.{shape}
use Rattle.xdg_rules.specs.Rules.{attr_of_node}
use Rattle.xdg_store.specs.States.{State, Known}
use Rattle.xdg_propcore.specs.Passes.{Progress, IsQuiet}
use Rattle.xdg_propcore.specs.Sweeps.{Sweeps}
use Rattle.xdg_propcore.proofs.Passing.{goes_both}
use Rattle.xdg_propcore.proofs.Sweeping.{sweeps_start, sweeps_skip, sweeps_next}
use Rattle.xdg_porder.specs.Items.{AreWrong, IsAtNode, IsNodeDone, IsWrong, MayStand, MustStand, NoneStand, TakesItems, edge_to, label_at}
use Rattle.xdg_porder.specs.Sides.{IsReached, IsSideDone, label_from}
use Rattle.xdg_porder.specs.declared.sides.Side.{Side}
use Rattle.xdg_porder.specs.declared.sides.Side.TheVariants as sides
use Rattle.xdg_porder.proofs.Pairing.{comes, items_go}
use Rattle.xdg_facts.specs.Rises.{has}
use Rattle.xdg_problem.proofs.BoxPlaces.{has_decision}
use Rattle.xdg_facts.proofs.Numbers.{counted_back}
use Rattle.xdg_facts.proofs.Sets.{both, either}

-- ---- the wrong side of an item

-- an item with a later label, from some side, that one with an earlier label reaches stands on the wrong side of it
side_wrong : (group : Group) (side : Side) (i j v w : ℕ) → i < j → j < length group.order → IsReached side v w → IsWrong group (label_from group side j) (label_from group side i) v w
side_wrong group sides.Left i j v w less within reaches = inl (comes group i j less within, reaches)
side_wrong group sides.Right i j v w less within reaches =
    inr (comes group (length group.order - 1 - j) (length group.order - 1 - i) (omega (arith, less, within)) (omega (arith, less, within)), reaches)

-- ---- items that are taken

stand_within : (parts : Parts) (group : Group) (box : List (List Bool)) (u label v : ℕ) → u < nodes parts → MayStand parts group box u label v → v < nodes parts
stand_within parts group box u label v within (inl (same, own)) = omega (arith, same, within)
stand_within parts group box u label v within (inr (place, may)) = place.daughter

module _ (group : Group) (u label : ℕ) (set items met : List ℕ) (p : Progress) (s : State) (at : IsAtNode group u s) (items_are : (v : ℕ) → (has items v ≡ true) ↔ MayStand s.parts group s.now u label v) (met_is : (v : ℕ) → has met v ≡ (has items v && has set v)) where
  pub reached_takes : AreWrong group u label set s → TakesItems group u label met s
  reached_takes wrong = items_go group u label s at set met wrong
      (λ v there. (let two = (both (has items v) (has set v)).0 (sym (met_is v) ∙ there) in (two.1, (items_are v).0 two.0)))

  pub reached_gone : (q : Progress) (new : State) → Sweeps group (NoneStand s.parts group u label met) p s q new → Sweeps group (NoneStand s.parts group u label set) p s q new
  reached_gone q new a = record {
    goes = a.goes;
    known = a.known;
    done = λ quiet v there may.
        let before = subst (λ box. MayStand s.parts group box u label v) (a.goes.quiet quiet).1 may in
        a.done quiet v (met_is v ∙ (both (has items v) (has set v)).1 ((items_are v).1 before, there)) may;
  }

-- where a set has no node
pub none_reached : (group : Group) (u label : ℕ) (set : List ℕ) (p : Progress) (s : State) → Known s → ((v : ℕ) → has set v ≡ true → ⊥) → Sweeps group (NoneStand s.parts group u label set) p s p s
none_reached group u label set p s known none = sweeps_start group (NoneStand s.parts group u label set) p s known (λ v there may. none v there)

-- ---- items that must be stay so

own_kept : (old new : State) (d label : ℕ) → Known old → Known new → new.parts ≡ old.parts → LiesIn new.now old.now → Has old.now d label → IsOnly old.now d label → Has new.now d label
own_kept old new d label known later same inside may only =
    let l = has_decision old.now d label may in
    let c = length-map old.now length in
    let sizes = ap length known.is_box.sizes in
    let shapes = ap (λ (parts : Parts). length (shape parts)) same in
    let some = later.is_box.filled d (omega (arith, l, c, sizes, shapes)) in
    subst (Has new.now d) (only some.0 (inside d some.0 some.1)) some.1

must_later : (group : Group) (u label w : ℕ) (Done : List (List Bool) → Type 0) (p : Progress) (old : State) (q : Progress) (new : State) → Known old → Sweeps group Done p old q new → MustStand old.parts group old.now u label w → MustStand new.parts group new.now u label w
must_later group u label w Done p old q new known a must = subst (λ parts. MustStand parts group new.now u label w) (sym a.goes.extends.same) (elim must [
  | inl (same, (may, only)) ↦ inl (
    same,
    (
      own_kept old new (attr_of_node old.parts group 0 u) label known a.known a.goes.extends.same a.goes.extends.inside may only,
      λ x there. only x (a.goes.extends.inside (attr_of_node old.parts group 0 u) x there),
    ),
  )
  | inr (place, must) ↦ inr (place, λ absent. must (a.goes.extends.inside (edge_decision old.parts (edge_to group u label w)) 1 absent))
])

-- ---- what the items with the first labels reach

-- a set has just the nodes that an item reaches which must be, with one of the first labels from a side; that it has all of them is known as long as nothing is taken
pub record Reaches (group : Group) (u : ℕ) (side : Side) (k : ℕ) (reached : List ℕ) (q : Progress) (s : State) : Type 0 where
  pub sound : (v : ℕ) → has reached v ≡ true → (i : ℕ) × (w : ℕ) × (i < k) × MustStand s.parts group s.now u (label_from group side i) w × IsReached side v w
  pub whole : IsQuiet q → (i v w : ℕ) → i < k → v < 128 → MustStand s.parts group s.now u (label_from group side i) w → IsReached side v w → has reached v ≡ true

pub none_yet : (group : Group) (u : ℕ) (side : Side) (q : Progress) (s : State) (reached : List ℕ) → ((v : ℕ) → has reached v ≡ true → ⊥) → Reaches group u side 0 reached q s
none_yet group u side q s reached none = record {
  sound = λ v there. absurd (none v there);
  whole = λ quiet i v w less. absurd (omega (arith, less));
}

-- what is reached may not have the next label
pub reached_wrong : (group : Group) (u : ℕ) (side : Side) (k label : ℕ) (reached : List ℕ) (q : Progress) (s : State) → k < length group.order → label ≡ label_from group side k → Reaches group u side k reached q s → AreWrong group u label reached s
reached_wrong group u side k label reached q s within is reaches v there =
    let (i, w, less, must, far) = reaches.sound v there in
    (label_from group side i, w, must, subst (λ l. IsWrong group l (label_from group side i) v w) (sym is) (side_wrong group side i k v w less within far))

module _ (group : Group) (u : ℕ) (side : Side) (k label : ℕ) (is : label ≡ label_from group side k) (reached : List ℕ) (q : Progress) (mid : State) (r : Progress) (new : State) (at : IsAtNode group u mid) (reaches : Reaches group u side k reached q mid) (b : Sweeps group (NoneStand mid.parts group u label reached) q mid r new) where
  -- nothing is left with the next label
  pub side_next : (start : State) (p : Progress) → Sweeps group (IsSideDone start.parts group u side k) p start q mid → Sweeps group (IsSideDone start.parts group u side (k + 1)) p start r new
  side_next start p a = record {
    goes = goes_both group p q r start mid new a.goes b.goes;
    known = b.known;
    done = λ quiet i j v w less within may must far.
        let before = b.goes.quiet quiet in
        elim (cases_lt j k) [
          | inl earlier ↦ a.done before.0 i j v w less earlier
              (subst (λ box. MayStand start.parts group box u (label_from group side j) v) before.1 may)
              (subst (λ box. MustStand start.parts group box u (label_from group side i) w) before.1 must) far
          | inr past ↦ (
              let here : j ≡ k = omega (arith, within, past) in
              let same : start.parts ≡ mid.parts = sym a.goes.extends.same in
              let stands : MayStand mid.parts group new.now u label v = subst (λ parts. MayStand parts group new.now u label v) same (subst (λ l. MayStand start.parts group new.now u l v) (ap (label_from group side) here ∙ sym is) may) in
              let small = stand_within mid.parts group new.now u label v at.1 stands in
              let most = at.0.0.known.problem.most in
              let there = reaches.whole before.0 i v w (omega (arith, less, here)) (omega (arith, small, most))
              (subst (λ parts. MustStand parts group mid.now u (label_from group side i) w) same (subst (λ box. MustStand start.parts group box u (label_from group side i) w) before.1 must)) far in
              b.done quiet v there stands
              )
        ];
  }

  -- what the items with the next label reach is reached with the others
  pub reaches_next : (ends more all : List ℕ) → ((w : ℕ) → (has ends w ≡ true) ↔ MustStand new.parts group new.now u label w)
      → ((v : ℕ) → has more v ≡ true → (w : ℕ) × (has ends w ≡ true) × IsReached side v w)
      → ((v w : ℕ) → v < 128 → has ends w ≡ true → IsReached side v w → has more v ≡ true)
      → ((v : ℕ) → has all v ≡ (has reached v || has more v))
      → Reaches group u side (k + 1) all r new
  reaches_next ends more all ends_are ends_reach reached_all all_is = record {
    sound = λ v there. elim ((either (has reached v) (has more v)).0 (sym (all_is v) ∙ there)) [
      | inl before ↦ (let (i, w, less, must, far) = reaches.sound v before in
          (i, w, omega (arith, less), must_later group u (label_from group side i) w _ q mid r new at.0.0.known b must, far))
      | inr now ↦ (let (w, end, far) = ends_reach v now in
          (k, w, omega arith, subst (λ l. MustStand new.parts group new.now u l w) is ((ends_are w).0 end), far))
    ];
    whole = λ quiet i v w within small must far. all_is v ∙ (either (has reached v) (has more v)).1 (
        let before = b.goes.quiet quiet in
        elim (cases_lt i k) [
          | inl less ↦ inl (reaches.whole before.0 i v w less small (subst (λ parts. MustStand parts group mid.now u (label_from group side i) w) b.goes.extends.same (subst (λ box. MustStand new.parts group box u (label_from group side i) w) before.1 must)) far)
          | inr past ↦ (let here : i ≡ k = omega (arith, within, past) in
              inr (reached_all v w small ((ends_are w).1 (subst (λ l. MustStand new.parts group new.now u l w) (ap (label_from group side) here ∙ sym is) must)) far))
        ]);
  }

-- ---- both sides

-- what is done from both sides is done at each two labels
sides_done : (parts : Parts) (group : Group) (u : ℕ) (box : List (List Bool)) → IsSideDone parts group u sides.Left (length group.order) box → IsSideDone parts group u sides.Right (length group.order) box → IsNodeDone parts group u box
sides_done parts group u box left right i j less within = (
  λ v w may must far. left i j v w less within may must far,
  λ v w may must far. right (length group.order - 1 - j) (length group.order - 1 - i) v w (omega (arith, less, within)) (omega (arith, less, within))
      (subst (λ k. MayStand parts group box u (label_at group k) v) (sym (counted_back (length group.order) i (omega (arith, less, within)))) may)
      (subst (λ k. MustStand parts group box u (label_at group k) w) (sym (counted_back (length group.order) j within)) must)
      far,
)

pub node_done : (group : Group) (u : ℕ) (p : Progress) (old : State) (q : Progress) (mid : State) (r : Progress) (new : State) → Sweeps group (IsSideDone old.parts group u sides.Left (length group.order)) p old q mid → Sweeps group (IsSideDone mid.parts group u sides.Right (length group.order)) q mid r new → Sweeps group (IsNodeDone old.parts group u) p old r new
node_done group u p old q mid r new a b = sweeps_next group (IsSideDone old.parts group u sides.Left (length group.order)) (IsNodeDone old.parts group u) (λ parts. IsSideDone parts group u sides.Right (length group.order)) p old q mid r new a b
    (λ box left right. sides_done old.parts group u box left right)

pub side_first : (group : Group) (u : ℕ) (side : Side) (p : Progress) (s : State) → Known s → Sweeps group (IsSideDone s.parts group u side 0) p s p s
side_first group u side p s known = sweeps_start group (IsSideDone s.parts group u side 0) p s known (λ i j v w less within. absurd (omega (arith, within)))

pub side_end : (group : Group) (u : ℕ) (side : Side) (k n : ℕ) (p : Progress) (old : State) (q : Progress) (new : State) → n ≤ k → Sweeps group (IsSideDone old.parts group u side k) p old q new → Sweeps group (IsSideDone old.parts group u side n) p old q new
side_end group u side k n p old q new all a = sweeps_skip group (IsSideDone old.parts group u side k) (IsSideDone old.parts group u side n) p old q new a (λ done i j v w less within. done i j v w less (omega (arith, within, all)))
