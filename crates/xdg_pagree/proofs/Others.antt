-- Nodes and places where nothing was lost: nothing is left to take there, as before.
use Rattle.std.proofs.Common.{◌≡◌, ◌≢◌, ℕ, ◌<◌, ◌↔◌, ◌&&◌, IsTrue, inl, inr, Bool, true, List, [], length, refl, sym, ◌∙◌, arith, subst}
use Rattle.std.proofs.lemmas.Bool.{false≢true}
use Rattle.std.proofs.lemmas.List.{nil_from_length}
use Rattle.xdg_problem.specs.declared.analysis.Edge.{Edge}
use Rattle.xdg_problem.specs.declared.parts.Group.{Group}
use Rattle.xdg_problem.specs.declared.parts.Parts.{Parts}
use Rattle.xdg_problem.specs.declared.parts.Principle.TheVariants as principles
use Rattle.xdg_problem.specs.Arguments.{attr_of, first_dim}
use Rattle.xdg_problem.specs.Boxes.{Has, IsBox, LiesIn, May, entry_decision}
use Rattle.xdg_problem.specs.Places.{edge, nodes}
use Rattle.xdg_problem.specs.Problems.{IsGroup, IsProblem}
use Rattle.xdg_problem.specs.Vectors.{shape}
use Rattle.xdg_problem.proofs.PlaceOrder.{is_place, place_is}
use Rattle.xdg_rules.specs.Rules.{AgrValues, IsClosedFor, IsPlaceOn, TakesBy, attr_of_node}
use Rattle.xdg_store.specs.InRange.{HasEdges}
use Rattle.xdg_store.specs.States.{State, Known}
use Rattle.xdg_propcore.specs.Passes.{IsQuiet, Progress}
use Rattle.xdg_propcore.specs.Sweeps.{Sweeps}
use Rattle.xdg_propcore.specs.Touching.{HasAll, HasTouched}
use Rattle.xdg_propcore.specs.declared.touched.Touched.{Touched}
use Rattle.xdg_propcore.proofs.Passing.{goes_none}
use Rattle.xdg_propcore.proofs.Sweeping.{sweeps_start}
use Rattle.xdg_pagree.specs.Family.{IsOfFamily, IsOfPlaces}
use Rattle.xdg_pagree.specs.Places.{AreMothersDone, AreNodesDone, IsDoneAt, IsLabelDone, IsNodeDone, PlaceAsks}
use Rattle.xdg_pagree.specs.Untouched.{AreOthersDone, AreOthersDoneAt, AreTouched, HasMothers, HasOwn, IsNodeFree, IsPlaceFree, IsRowFree}
use Rattle.xdg_pagree.proofs.AtNodes.{daughters_last, lacks_present}
use Rattle.xdg_propcore.proofs.Turns.{AreDone, quiet_later, turns_end}
use Rattle.xdg_pagree.proofs.Keeping.{attr_some, took_at}
use Rattle.xdg_rules.proofs.Antitone.{PlaceLies}
use Rattle.xdg_facts.specs.Rises.{has}
use Rattle.xdg_propcore.proofs.Losing.{entry_kept, kept_or_lost, must_kept}
use Rattle.xdg_problem.proofs.AttrPlaces.{attr_dim_within}
use Rattle.xdg_store.proofs.Daughters.{out_is_place}
use Rattle.xdg_problem.specs.Principles.{attr_arguments}
use Rattle.xdg_facts.proofs.Sets.{both, none_in}

-- ---- what was closed is done where nothing was lost

module _ (parts : Parts) (group : Group) (group_is : IsGroup parts group) (family : IsOfFamily group.principle) (old new : List (List Bool)) (was : IsBox (shape parts) old) (is : IsBox (shape parts) new) (lies : LiesIn new old) (t : Touched) (touched : HasTouched parts (first_dim group) old new t) (closed : IsClosedFor parts group old) where
  attr_kept : (argument node x : ℕ) → argument < attr_arguments group.principle → node < nodes parts → (has t.attrs node ≡ true → ⊥) → Has old (attr_of_node parts group argument node) x → Has new (attr_of_node parts group argument node) x
  attr_kept argument node x known within free = kept_or_lost old new (attr_of_node parts group argument node) x (λ lost.
      free (touched.attrs node (attr_of group argument) x (attr_dim_within parts group group_is argument known) within (group_is.attrs argument (record { 0 = 0 }) (let c = group_is.attrs_count in omega (arith, c, known))) lost))

  place_kept : IsOfPlaces group.principle → (e : Edge) → IsPlaceOn parts (first_dim group) e → IsPlaceFree t e → PlaceLies parts group old new group.principle e
  place_kept asks e on free =
      let place = is_place parts e on.0 in
      record {
        entries = λ c. entry_kept parts old new (first_dim group) t touched e.mother.0 c place.mother free.0.0.0;
        mother = λ x. attr_kept 0 e.mother.0 x (attr_some group.principle asks) place.mother free.0.0.1;
        daughter = λ argument known x. attr_kept argument e.daughter.0 x known place.daughter free.1;
        must = must_kept parts old new (first_dim group) t touched was is e (λ marks. free.0.1 marks.out);
      }

  place_done : IsOfPlaces group.principle → (e : Edge) → IsPlaceOn parts (first_dim group) e → PlaceAsks group.principle group new e.mother.0 e.label.0 → IsPlaceFree t e → IsDoneAt parts group e new
  place_done of e on asks free d v remains lacks = closed d v (lies d v remains) (inr (took_at group.principle of parts group old new e on (place_kept of e on free) asks d v lacks))

  node_done : group.principle ≡ principles.Agr → (node : ℕ) → node < nodes parts → IsNodeFree t node → IsNodeDone principles.Agr parts group node new
  node_done agr node within free = (
    λ v remains lacks. takes (attr_of_node parts group 0 node) v remains (record { node = node; within = within; lacks = inl (refl, λ c there. lacks c (entry_kept parts old new (first_dim group) t touched node c within free.0 there)) }),
    λ v remains lacks. takes (entry_decision node) v remains (record { node = node; within = within; lacks = inr (refl, λ x there. lacks x (attr_kept 0 node x known within free.1 there)) }),
  ) where
    known : 0 < attr_arguments group.principle
    known = subst (λ p. 0 < attr_arguments p) (sym agr) (omega arith)

    takes : (d v : ℕ) → Has new d v → AgrValues parts group old d v → ⊥
    takes d v remains rule = closed d v (lies d v remains) (inr (subst (λ p. TakesBy p parts group old d v) (sym agr) rule))

  pub others_stay : AreOthersDone t parts group new
  others_stay = record { at_nodes = node_done; at_places = place_done }

-- where all is taken to be lost there is nothing to show
pub others_none : (t : Touched) (parts : Parts) (group : Group) (box : List (List Bool)) → IsProblem parts → HasAll t → AreOthersDone t parts group box
others_none t parts group box problem all = record {
  at_nodes = λ agr node within free. absurd (free.0 (all.entries node (let most = problem.most in omega (arith, within, most))));
  at_places = λ of e on asks free. absurd (free.0.0.0 (all.entries e.mother.0 (let most = problem.most in let within = (is_place parts e on.0).mother in omega (arith, within, most))));
}

-- as long as nothing is taken that stays so
pub others_later : (t : Touched) (group : Group) (Done : List (List Bool) → Type 0) (p : Progress) (old : State) (q : Progress) (mid : State) → (IsQuiet p → AreOthersDone t old.parts group old.now) → Sweeps group Done p old q mid → IsQuiet q → AreOthersDone t mid.parts group mid.now
others_later t group = quiet_later group (λ parts box. AreOthersDone t parts group box)

-- ---- the daughters at whose places something was lost

-- all that there may be
pub all_touched : (t : Touched) (parts : Parts) (box : List (List Bool)) (dim mother label : ℕ) (set : List ℕ) → ((v : ℕ) → IsTrue (has set v) ↔ ((v < nodes parts) × (mother ≢ v) × May parts box (edge dim mother label v))) → AreTouched parts box t dim mother label set
all_touched t parts box dim mother label set exact = record {
  each = λ v there. (let all = (exact v).0 there in (all.0, all.1));
  others = λ v within differ may out. absurd (out ((exact v).1 (within, differ, may)));
}

-- those that have lost values of attributes
pub some_touched : (t : Touched) (parts : Parts) (box : List (List Bool)) (dim mother label : ℕ) (set met : List ℕ) → ((v : ℕ) → IsTrue (has set v) ↔ ((v < nodes parts) × (mother ≢ v) × May parts box (edge dim mother label v))) → ((v : ℕ) → has met v ≡ (has set v && has t.attrs v)) → IsRowFree t mother label → AreTouched parts box t dim mother label met
some_touched t parts box dim mother label set met exact met_is free = record {
  each = λ v there. (let all = (exact v).0 ((both (has set v) (has t.attrs v)).0 (sym (met_is v) ∙ there)).0 in (all.0, all.1));
  others = λ v within differ may out. (free, λ lost. out (met_is v ∙ (both (has set v) (has t.attrs v)).1 ((exact v).1 (within, differ, may), lost)));
}

-- none, where none has lost a value of an attribute
pub none_touched : (t : Touched) (parts : Parts) (box : List (List Bool)) (dim mother label : ℕ) (set : List ℕ) → set ≡ [] → length t.attrs ≡ 0 → IsRowFree t mother label → AreTouched parts box t dim mother label set
none_touched t parts box dim mother label set empty none free = record {
  each = λ v there. absurd (false≢true (subst (λ s. has s v ≡ true) empty there));
  others = λ v within differ may out. (free, λ lost. false≢true (subst (λ s. has s v ≡ true) (nil_from_length t.attrs none) lost));
}

module _ (t : Touched) (parts : Parts) (group : Group) (box : List (List Bool)) (dim mother label : ℕ) (set : List ℕ) (on : dim ≡ first_dim group) (edges : HasEdges parts dim mother label) (of : IsOfPlaces group.principle) (touched : AreTouched parts box t dim mother label set) where
  -- nothing is left at the places to the others
  pub done_at_others : PlaceAsks group.principle group box mother label → AreOthersDone t parts group box → AreOthersDoneAt parts group dim mother label set box
  done_at_others asks others v within differ out d x remains lacks =
      let e : Edge = edge dim mother label v in
      let place = out_is_place parts dim mother label v edges within differ in
      let may = lacks_present group.principle parts group box e d x lacks remains in
      others.at_places of e (place_is parts e place, on) asks (touched.others v within differ may out) d x remains lacks

-- where there is none nothing is left at the label
pub label_skipped : (t : Touched) (group : Group) (dim mother label : ℕ) (set : List ℕ) (p : Progress) (s : State) → Known s → dim ≡ first_dim group → HasEdges s.parts dim mother label → IsOfPlaces group.principle → AreTouched s.parts s.now t dim mother label set → length set ≡ 0 → (IsQuiet p → AreOthersDone t s.parts group s.now) → Sweeps group (λ box. PlaceAsks group.principle group box mother label → IsLabelDone s.parts group mother label box) p s p s
label_skipped t group dim mother label set p s known on edges of touched empty others = record {
  goes = goes_none group p s;
  known = known;
  done = λ quiet asks.
      (daughters_last group dim mother label set p s p s on (λ still. done_at_others t s.parts group s.now dim mother label set on edges of touched asks (others still))
      (sweeps_start group (AreDone (λ v. IsDoneAt s.parts group (edge dim mother label v)) set []) p s known (λ v there out. absurd (none_in set v empty there)))).done quiet;
}

-- ---- behind the nodes at which something may be left

-- nothing is left at a label
pub mothers_last : (t : Touched) (group : Group) (dim label : ℕ) (first : List ℕ) (p : Progress) (old : State) (q : Progress) (new : State) → dim ≡ first_dim group → IsOfPlaces group.principle → HasMothers old.parts old.now t dim label first → (IsQuiet p → AreOthersDone t old.parts group old.now) → Sweeps group (AreDone (λ u box. PlaceAsks group.principle group box u label → IsLabelDone old.parts group u label box) first []) p old q new → Sweeps group (AreMothersDone old.parts group label) p old q new
mothers_last t group dim label first p old q new on of mothers others =
    turns_end group (λ u box. PlaceAsks group.principle group box u label → IsLabelDone old.parts group u label box) (λ u. u < nodes old.parts) first p old q new
    (λ still u within out asks e is mother_is label_is d v remains lacks.
    let may = lacks_present group.principle old.parts group old.now e d v lacks remains in
    let asked = subst (λ m. PlaceAsks group.principle group old.now m e.label.0) (sym mother_is) (subst (PlaceAsks group.principle group old.now u) (sym label_is) asks) in
    let free = mothers.others e (is.0, is.1 ∙ sym on) label_is (λ there. out (subst (λ m. has first m ≡ true) mother_is there)) may in
    (others still).at_places of e is asked free d v remains lacks)

-- nothing is left at the nodes
pub agr_last : (t : Touched) (group : Group) (first : List ℕ) (p : Progress) (old : State) (q : Progress) (new : State) → group.principle ≡ principles.Agr → HasOwn old.parts t first → (IsQuiet p → AreOthersDone t old.parts group old.now) → Sweeps group (AreDone (IsNodeDone principles.Agr old.parts group) first []) p old q new → Sweeps group (AreNodesDone (nodes old.parts) old.parts group) p old q new
agr_last t group first p old q new agr own others a =
    subst (λ k. Sweeps group (λ box. (node : ℕ) → node < nodes old.parts → IsNodeDone k old.parts group node box) p old q new) (sym agr)
    (turns_end group (IsNodeDone principles.Agr old.parts group) (λ node. node < nodes old.parts) first p old q new (λ still node within out. (others still).at_nodes agr node within (own.others node within out)) a)
