-- What a store keeps of edges by their daughters, over its calls.
use Rattle.std.proofs.Common.{◌≡◌, ◌≢◌, ℕ, ◌<◌, ◌≤◌, ◌+◌, ◌-◌, ◌*◌, ◌↔◌, inl, inr, Bool, false, not, IsTrue, List, [], length, get_or, set, drop, take, replicate, refl, ap, sym, ◌∙◌, arith, subst}
use Rattle.std.specs.Prelude.{All}
use Rattle.std.proofs.lemmas.Nat.{row_fits}
use Rattle.std.proofs.lemmas.List.{get_or_default, get_or-drop, get_or-set_other, get_or-set_same, get_or-take, length-drop, length-take-le}
use Rattle.xdg_problem.specs.declared.analysis.Edge.{Edge}
use Rattle.xdg_problem.specs.declared.parts.DimPlan.{DimPlan}
use Rattle.xdg_problem.specs.declared.parts.Parts.{Parts}
use Rattle.xdg_problem.specs.Analyses.{IsPlace}
use Rattle.xdg_problem.specs.Arguments.{attr_count, no_plan}
use Rattle.xdg_problem.specs.Boxes.{May, Must, entry_decision, attr_decision, edge_decision}
use Rattle.xdg_problem.specs.Places.{edge, nodes}
use Rattle.xdg_problem.specs.Problems.{IsProblem}
use Rattle.xdg_problem.proofs.AttrPlaces.{attr_within}
use Rattle.xdg_problem.proofs.BoxPlaces.{has_decision}
use Rattle.xdg_problem.proofs.PlaceFound.{same_place}
use Rattle.xdg_problem.proofs.PlacePlans.{dim_within, plan_read}
use Rattle.xdg_trail.specs.Trailed.{Trailed, past}
use Rattle.xdg_store.specs.Across.{AreFull, AreKept, AreMothers, Fits, FitsIn, Forbids, Forces, IsFull, IsKept, OnlyOthers, Renews, RenewsAll, edge_at, in_may, in_must, mothers_at, no_mothers, row_count}
use Rattle.xdg_store.specs.Change.{Removes}
use Rattle.xdg_store.specs.Decisions.{IsDecision, number_of}
use Rattle.xdg_store.specs.InRange.{HasEdges}
use Rattle.xdg_store.specs.Labels.{AreTold}
use Rattle.xdg_store.specs.declared.labels.LabelsInto.{LabelsInto}
use Rattle.xdg_store.specs.Layout.{bit_count, bits_of, box_in, edge_bit, edge_row, is_set}
use Rattle.xdg_store.specs.Naming.{AreSteps, SameBut}
use Rattle.xdg_store.specs.States.{State, Keeps, Known, oldest}
use Rattle.xdg_store.specs.declared.across.Mothers.{Mothers}
use Rattle.xdg_store.specs.declared.change.Change.{Change}
use Rattle.xdg_store.specs.declared.change.Change.TheVariants as changes
use Rattle.xdg_store.specs.declared.decision.Decision.{Decision}
use Rattle.xdg_store.specs.declared.decision.Decision.TheVariants as decisions
use Rattle.xdg_store.proofs.Renewed.{daughter_is, kept_beside}
use Rattle.xdg_store.proofs.Apart.{bit_in_range, few_labels}
use Rattle.xdg_store.proofs.Noting.{IsOneStep, Leaves, LeavesOne, one_step, same_or_named}
use Rattle.xdg_store.proofs.Histories.{cut_last, history_cut, history_length, known_of, seen}
use Rattle.xdg_store.proofs.Daughters.{out_is_place}
use Rattle.xdg_store.proofs.Deciding.{has_bits}
use Rattle.xdg_store.proofs.Pairs.{IsPair, edge_is_pair, may_has, may_read, must_has, must_read}
use Rattle.xdg_store.proofs.Starting.{ones_set}
use Rattle.xdg_facts.specs.Rises.{has}
use Rattle.xdg_facts.proofs.Lists.{true_within}

-- ---- decisions that are apart

pub not_entry : (parts : Parts) (e : Edge) (node : ℕ) → IsProblem parts → node < nodes parts → edge_decision parts e ≢ entry_decision node
not_entry parts e node p l same = (let each = p.candidates_each in omega (arith, each, l, same))

pub not_attr : (parts : Parts) (e : Edge) (dim node attr : ℕ) → dim < length parts.dims → node < nodes parts → attr < attr_count parts dim → edge_decision parts e ≢ attr_decision parts dim node attr
not_attr parts e dim node attr d l a same = (let w = attr_within parts dim node attr d l a in omega (arith, w, same))

-- the decision of an edge's number is the one on the edge
pub on_edge : (parts : Parts) (decision : Decision) (e : Edge) → IsProblem parts → IsPlace parts e → IsDecision parts decision → number_of parts decision ≡ edge_decision parts e → decision ≡ decisions.Place e
on_edge parts (decisions.Entry node) e p place is same = absurd (not_entry parts e node.0 p is (sym same))
on_edge parts (decisions.Attr dim node attr) e p place is same = absurd (not_attr parts e dim.0 node.0 attr.0 is.0 is.1 is.2 (sym same))
on_edge parts (decisions.Place f) e p place is same = ap (λ g. decisions.Place g) (same_place parts e f place is same)

-- ---- an edge's place

pub place_fits : (parts : Parts) (rows : ℕ) (e : Edge) → IsProblem parts → IsPlace parts e → row_count parts ≤ rows → Fits (nodes parts) rows e
place_fits parts rows e p is long =
    let few = few_labels parts e p is in
    let daughter = is.daughter in
    let row = row_fits e.dim.0 (nodes parts) (length parts.dims) (nodes parts) (dim_within parts e is) (omega arith) in
    record {
      label = few;
      mother = is.mother;
      daughter = daughter;
      row_in = omega (arith, row, daughter, few, long);
    }

bits_fit : (parts : Parts) (words : ℕ) (e : Edge) → IsProblem parts → IsPlace parts e → bit_count parts ≤ 64 * words → edge_bit (nodes parts) e + 128 < 64 * words
bits_fit parts words e p is wide =
    let bit : edge_bit (nodes parts) e + 128 < bit_count parts = bit_in_range parts p (has_bits parts p (decisions.Place e) is) 1 (omega arith) in
    omega (arith, bit, wide)

pub decision_fits : (parts : Parts) (decision : Decision) (rows words : ℕ) → IsProblem parts → IsDecision parts decision → row_count parts ≤ rows → bit_count parts ≤ 64 * words → FitsIn (nodes parts) rows words decision
decision_fits parts (decisions.Entry node) rows words p is long wide = tt
decision_fits parts (decisions.Attr dim node attr) rows words p is long wide = tt
decision_fits parts (decisions.Place e) rows words p is long wide = (place_fits parts rows e p is long, bits_fit parts words e p is wide)

-- the daughter of an edge has edges with its label
pub place_has : (parts : Parts) (e : Edge) → IsPlace parts e → HasEdges parts e.dim.0 e.daughter.0 e.label.0
place_has parts e is =
    let read = plan_read parts e is no_plan in
    record {
      dim_in = dim_within parts e is;
      graph = ap (λ (q : DimPlan). q.graph) read ∙ is.graph;
      node_in = is.daughter;
      label_in = subst (λ (q : DimPlan). e.label.0 < length q.labels) (sym read) is.label;
    }

-- ---- words that say the same of an edge

-- a node is a mother of a daughter by a label as a row says, on both sides
abbrev AreFrom : Parts → List (List Bool) → ℕ → ℕ → ℕ → Mothers → ℕ → Type 0
AreFrom parts box dim label daughter row node =
    (IsTrue (has row.may node) ↔ ((node < nodes parts) × (node ≢ daughter) × May parts box (edge dim node label daughter)))
    × (IsTrue (has row.must node) ↔ ((node < nodes parts) × (node ≢ daughter) × Must parts box (edge dim node label daughter)))

module _ (parts : Parts) (p : IsProblem parts) where
  pub pair : (e : Edge) → IsPlace parts e → IsPair parts e (edge_bit (nodes parts) e)
  pair e is = edge_is_pair parts e (nodes parts) (edge_row (nodes parts) e.dim.0 e.mother.0 e.label.0) (edge_bit (nodes parts) e) p is refl refl refl

  pub stays : (e : Edge) (old new : List ℕ) (rows : List Mothers) → IsPlace parts e → get_or (box_in (bits_of parts) new) (edge_decision parts e) [] ≡ get_or (box_in (bits_of parts) old) (edge_decision parts e) [] → IsKept (nodes parts) old rows e → IsKept (nodes parts) new rows e
  stays e old new rows is same kept =
      let at = pair e is in
      let may : is_set old (edge_bit (nodes parts) e) ≡ is_set new (edge_bit (nodes parts) e) = sym (may_read old at) ∙ ap (λ row. get_or row 0 false) (sym same) ∙ may_read new at in
      let must : is_set old (edge_bit (nodes parts) e + 128) ≡ is_set new (edge_bit (nodes parts) e + 128) = sym (must_read old at) ∙ ap (λ row. get_or row 1 false) (sym same) ∙ must_read new at in
      record { may = kept.may ∙ may; must = kept.must ∙ ap not must }

  -- ---- a removal

  same_but : (change : Change) (t u : Trailed) (turns d : ℕ) → IsOneStep change (seen parts t turns) (seen parts u turns) d → SameBut (box_in (bits_of parts) t.words) (box_in (bits_of parts) u.words) d
  same_but changes.Changed t u turns d step e n = step.1 e n
  same_but change t u turns d step e n = ap (λ s. get_or s.now e []) step

  -- of no edge
  kept_like : (t u : List ℕ) (rows : List Mothers) → ((e : Edge) → IsPlace parts e → get_or (box_in (bits_of parts) u) (edge_decision parts e) [] ≡ get_or (box_in (bits_of parts) t) (edge_decision parts e) []) → AreKept parts t rows
      → AreKept parts u rows
  kept_like t u rows same kept = record { long = kept.long; each = λ e is. stays e t u rows is (same e is) (kept.each e is) }

  -- of one on an edge
  module _ (t u : Trailed) (turns : ℕ) (f : Edge) (rows more : List Mothers) (at : IsPlace parts f) (kept : AreKept parts t.words rows) where
    kept_same : seen parts u turns ≡ seen parts t turns → more ≡ rows → AreKept parts u.words more
    kept_same same stay = subst (AreKept parts u.words) (sym stay) (kept_like t.words u.words rows (λ e is. ap (λ s. get_or s.now (edge_decision parts e) []) same) kept)

    -- a value of its decision was taken
    module _ (v : ℕ) (removes : Removes changes.Changed (seen parts t turns) (seen parts u turns) (edge_decision parts f) v) where
      bits_now : get_or (box_in (bits_of parts) u.words) (edge_decision parts f) [] ≡ set (get_or (box_in (bits_of parts) t.words) (edge_decision parts f) []) v false
      bits_now = ap (λ s. get_or s.now (edge_decision parts f) []) removes.2 ∙ get_or-set_same (box_in (bits_of parts) t.words) (edge_decision parts f) (set (get_or (box_in (bits_of parts) t.words) (edge_decision parts f) []) v false) [] (has_decision (box_in (bits_of parts) t.words) (edge_decision parts f) v removes.0)

      taken : get_or (get_or (box_in (bits_of parts) u.words) (edge_decision parts f) []) v false ≡ false
      taken = ap (λ row. get_or row v false) bits_now ∙ get_or-set_same (get_or (box_in (bits_of parts) t.words) (edge_decision parts f) []) v false false (true_within _ v removes.0)

      left : (w : ℕ) → w ≢ v → get_or (get_or (box_in (bits_of parts) t.words) (edge_decision parts f) []) w false ≡ get_or (get_or (box_in (bits_of parts) u.words) (edge_decision parts f) []) w false
      left w other = sym (ap (λ row. get_or row w false) bits_now ∙ get_or-set_other (get_or (box_in (bits_of parts) t.words) (edge_decision parts f) []) v w false false other)

      kept_changed : (possible certain : Bool) → Renews (nodes parts) f possible certain rows more → IsKept (nodes parts) u.words more f → AreKept parts u.words more
      kept_changed possible certain renews here = record {
        long = (let l = kept.long in let c = renews.count in omega (arith, l, c));
        each = λ e is. kept_beside (nodes parts) u.words e f possible certain rows more
            (place_fits parts (length rows) e p is kept.long)
            (place_fits parts (length rows) f p at kept.long)
            renews here
            (λ differ. stays e t.words u.words rows is (same_but changes.Changed t u turns (edge_decision parts f) (one_step changes.Changed _ _ _ v removes) (edge_decision parts e) (λ same. differ (same_place parts f e at is same)))
            (kept.each e is));
      }

    kept_forced_by : (change : Change) → Removes change (seen parts t turns) (seen parts u turns) (edge_decision parts f) 1 → Forces change (nodes parts) f rows more → AreKept parts u.words more
    kept_forced_by changes.Same (gone, same) stay = kept_same same stay
    kept_forced_by changes.Changed removes renews = kept_changed 1 removes _ _ renews (record {
      may = renews.may.here ∙ (kept.each f at).may ∙ sym (may_read t.words (pair f at)) ∙ left 1 removes 0 (λ s. omega (arith, s)) ∙ may_read u.words (pair f at);
      must = renews.must.here ∙ ap not (sym (taken 1 removes) ∙ must_read u.words (pair f at));
    })
    kept_forced_by changes.Emptied (has_it, only, same) stay = kept_same same stay

    kept_forbidden_by : (change : Change) → Removes change (seen parts t turns) (seen parts u turns) (edge_decision parts f) 0 → Forbids change (nodes parts) f rows more → AreKept parts u.words more
    kept_forbidden_by changes.Same (gone, same) stay = kept_same same stay
    kept_forbidden_by changes.Changed removes renews = kept_changed 0 removes _ _ renews (record {
      may = renews.may.here ∙ sym (taken 0 removes) ∙ may_read u.words (pair f at);
      must = renews.must.here ∙ (kept.each f at).must ∙ ap not (sym (must_read t.words (pair f at)) ∙ left 0 removes 1 (λ s. omega (arith, s)) ∙ must_read u.words (pair f at));
    })
    kept_forbidden_by changes.Emptied (has_it, only, same) stay = kept_same same stay

  -- ---- going back

  -- the box at a mark
  undone_box : (t u : Trailed) (mark : ℕ) → mark ≤ length t.records → past u ≡ drop (length t.records - mark) (past t) → Known (seen parts u 0) → box_in (bits_of parts) u.words ≡ get_or (oldest (bits_of parts) (past t)) mark []
  undone_box t u mark l e known =
      let h = history_cut (bits_of parts) t u mark l e in
      let long = history_length (bits_of parts) t in
      sym known.last ∙ ap (λ z. get_or z (length z - 1) []) h ∙ cut_last (oldest (bits_of parts) (past t)) mark (omega (arith, long, l))

  -- ---- where a daughter's mothers stand

  into_is_place : (dim node label daughter : ℕ) → HasEdges parts dim daughter label → node < nodes parts → node ≢ daughter → IsPlace parts (edge dim node label daughter)
  into_is_place dim node label daughter h l n = out_is_place parts dim node label daughter (record { dim_in = h.dim_in; graph = h.graph; node_in = l; label_in = h.label_in }) h.node_in n

  label_small : (dim daughter label : ℕ) → HasEdges parts dim daughter label → label < 32
  label_small dim daughter label h =
      let few = (p.dims dim no_plan h.dim_in).labels_most in
      let label_in = h.label_in in
      omega (arith, few, label_in)

  pub row_within : (rows : ℕ) (dim daughter label n place : ℕ) → HasEdges parts dim daughter label → n ≡ nodes parts → place ≡ mothers_at n dim daughter label → row_count parts ≤ rows → place < rows
  row_within rows dim daughter label n place h m at long =
      let few = label_small dim daughter label h in
      let daughter_in = h.node_in in
      let row = row_fits dim (nodes parts) (length parts.dims) (nodes parts) h.dim_in (omega arith) in
      let is : place ≡ mothers_at (nodes parts) dim daughter label = at ∙ ap (λ i. mothers_at i dim daughter label) m in
      omega (arith, few, daughter_in, row, is, long)

  -- ---- the start

  pub full_at : (rows : List Mothers) (dim daughter label : ℕ) → HasEdges parts dim daughter label → AreFull rows (nodes parts) → row_count parts ≤ length rows → IsFull (nodes parts) daughter (get_or rows (mothers_at (nodes parts) dim daughter label) no_mothers)
  full_at rows dim daughter label h full long =
      let place = mothers_at (nodes parts) dim daughter label in
      subst (λ d. IsFull (nodes parts) d (get_or rows place no_mothers)) (daughter_is (nodes parts) dim daughter label h.node_in (label_small dim daughter label h)) (full place (row_within (length rows) dim daughter label (nodes parts) place h refl refl long))

  pub kept_start : (count : ℕ) (words : List ℕ) (rows : List Mothers) → bit_count parts ≤ 64 * count → row_count parts ≤ length rows → words ≡ replicate count 18446744073709551615 → AreFull rows (nodes parts) → AreKept parts words rows
  kept_start count words rows wide long words_are full = record {
    long = long;
    each = λ e is.
        let bit = bits_fit parts count e p is wide in
        let row = full_at rows e.dim.0 e.daughter.0 e.label.0 (place_has parts e is) full long in
        record {
          may = (row.may e.mother.0).1 (is.mother, is.differ) ∙ sym (ones_set count (edge_bit (nodes parts) e) words words_are (omega (arith, bit)));
          must = ap (λ z. has z e.mother.0) row.must ∙ sym (ap not (ones_set count (edge_bit (nodes parts) e + 128) words words_are bit));
        };
  }

  -- ---- the mothers of a daughter as a set

  module _ (words : List ℕ) (rows : List Mothers) (kept : AreKept parts words rows) where
    pub may_says : (e : Edge) → IsPlace parts e → IsTrue (in_may rows (edge_at (nodes parts) e) e.mother.0) ↔ May parts (box_in (bits_of parts) words) e
    may_says e is = may_has words (pair e is) (kept.each e is).may

    pub must_says : (e : Edge) → IsPlace parts e → IsTrue (in_must rows (edge_at (nodes parts) e) e.mother.0) ↔ Must parts (box_in (bits_of parts) words) e
    must_says e is =
        let k = (kept.each e is).must in
        let w = must_has words (pair e is) {result = is_set words (edge_bit (nodes parts) e + 128)} refl in
        (λ i. w.0 (sym k ∙ i), λ i. k ∙ w.1 i)

    module _ (dim daughter label : ℕ) (h : HasEdges parts dim daughter label) (row : Mothers) (there : get_or rows (mothers_at (nodes parts) dim daughter label) no_mothers ≡ row) (node : ℕ) where
      -- for the edges that may be present, and for those that must be
      exact : (look : Mothers → List ℕ) (P : Edge → Type 0) → OnlyOthers (λ xs i m. has (look (get_or xs i no_mothers)) m) (nodes parts) rows → (IsPlace parts (edge dim node label daughter) → IsTrue (has (look (get_or rows (mothers_at (nodes parts) dim daughter label) no_mothers)) node) ↔ P (edge dim node label daughter)) → IsTrue (has (look row) node) ↔ ((node < nodes parts) × (node ≢ daughter) × P (edge dim node label daughter))
      exact look P only says = (
        λ i.
            let j = ap (λ r. has (look r) node) there ∙ i in
            let o = only (mothers_at (nodes parts) dim daughter label) node j in
            let differ : node ≢ daughter = λ s. o.1 (s ∙ sym (daughter_is (nodes parts) dim daughter label h.node_in (label_small dim daughter label h))) in
            (o.0, differ, (says (into_is_place dim node label daughter h o.0 differ)).0 j),
        λ (l, d, holds). ap (λ r. has (look r) node) (sym there) ∙ (says (into_is_place dim node label daughter h l d)).1 holds,
      )

      both_exact : OnlyOthers in_may (nodes parts) rows → OnlyOthers in_must (nodes parts) rows → AreFrom parts (box_in (bits_of parts) words) dim label daughter row node
      both_exact may_only must_only = (
        exact (λ r. r.may) (May parts (box_in (bits_of parts) words)) may_only (may_says (edge dim node label daughter)),
        exact (λ r. r.must) (Must parts (box_in (bits_of parts) words)) must_only (must_says (edge dim node label daughter)),
      )

-- a removal of values of a decision that is none on an edge
pub kept_by_other : {parts : Parts} {change : Change} {t u : Trailed} {turns : ℕ} {decision : Decision} {Removal : State → State → ℕ → Type 0} {rows : List Mothers}
    → Leaves parts change t u turns decision Removal → ((e : Edge) → decision ≡ decisions.Place e → ⊥) → AreKept parts t.words rows → AreKept parts u.words rows
kept_by_other {parts} {change} {t} {u} {turns} {decision} {rows = rows} left none =
    kept_like parts left.kept.problem t.words u.words rows
    (λ e place. same_but parts left.kept.problem change t u turns (number_of parts decision) left.step (edge_decision parts e) (λ same. none e (on_edge parts decision e left.kept.problem place left.is (sym same))))

-- the place of an edge's row
pub edge_fits : {parts : Parts} {t : Trailed} {turns n : ℕ} {s : State} {e : Edge} {rows : List Mothers}
    → Keeps parts t → seen parts t turns ≡ s → IsPlace s.parts e → n ≡ nodes parts → AreKept parts t.words rows → Fits n (length rows) e
edge_fits {parts} {e = e} {rows} keeps is place m kept =
    subst (λ n. Fits n (length rows) e) (sym m) (place_fits parts (length rows) e keeps.problem (subst (λ s. IsPlace s.parts e) (sym is) place) kept.long)

-- and of one that is one on an edge
module _ {parts : Parts} {change : Change} {t u : Trailed} {turns : ℕ} {e : Edge} {rows more : List Mothers} where
  pub kept_forced : LeavesOne parts change t u turns (decisions.Place e) 1 → AreKept parts t.words rows → Forces change (nodes parts) e rows more → AreKept parts u.words more
  kept_forced left kept = kept_forced_by parts left.kept.problem t u turns e rows more left.is kept change left.removes

  pub kept_forbidden : LeavesOne parts change t u turns (decisions.Place e) 0 → AreKept parts t.words rows → Forbids change (nodes parts) e rows more → AreKept parts u.words more
  kept_forbidden left kept = kept_forbidden_by parts left.kept.problem t u turns e rows more left.is kept change left.removes

-- ---- going back, as the code goes

module _ {parts : Parts} {t : Trailed} {removed named : List Decision} {room n : ℕ} {rows : List Mothers} (mark : ℕ) (keeps : Keeps parts t) (steps : AreSteps parts (oldest (bits_of parts) (past t)) removed room)
    (kept : AreKept parts t.words rows) (m : n ≡ nodes parts) (named_is : named ≡ drop mark removed) where
  -- those behind a mark
  pub all_decided : All (IsDecision parts) named
  all_decided = subst (All (IsDecision parts)) (sym named_is) (λ k d l. (let size = length-drop mark removed in subst (IsDecision parts) (sym (get_or-drop mark removed k d)) (steps.each (mark + k) (omega (arith, size, l)) d).0))

  pub all_fit : {u : Trailed} → Keeps parts u → All (FitsIn n (length rows) (length u.words)) named
  all_fit {u} later k d l = subst (λ i. FitsIn i (length rows) (length u.words) (get_or named k d)) (sym m) (decision_fits parts (get_or named k d) (length rows) (length u.words) keeps.problem (all_decided k d l) kept.long later.long)

  pub kept_undone : {u : Trailed} {more : List Mothers} → Keeps parts u → mark ≤ length t.records → past u ≡ drop (length t.records - mark) (past t) → RenewsAll n u.words named rows more → AreKept parts u.words more
  kept_undone {u} {more} later l e renews_all =
      let p = keeps.problem in
      let renews = subst (λ k. RenewsAll k u.words (drop mark removed) rows more) m (subst (λ ds. RenewsAll n u.words ds rows more) named_is renews_all) in
      let history = oldest (bits_of parts) (past t) in
      let long = history_length (bits_of parts) t in
      let c = steps.count in
      let default = decisions.Entry (record { 0 = 0 }) in
      let now = known_of parts 0 t keeps in
      let then_is = undone_box parts p t u mark l e (known_of parts 0 u later) in
      let end : length history - 1 ≡ mark + (length removed - mark) = omega (arith, c, long, l) in
      let now_is : get_or history (mark + (length removed - mark)) [] ≡ box_in (bits_of parts) t.words = ap (λ i. get_or history i []) (sym end) ∙ now.last in
      record {
        long = (let a = kept.long in let b = renews.count in omega (arith, a, b));
        each = λ e is. renews.each e (place_fits parts (length rows) e p is kept.long) (elim (same_or_named parts history removed steps.each mark (edge_decision parts e) default (length removed - mark) (omega (arith, c, long, l))) [
          | inl same ↦ inl (stays parts p e t.words u.words rows is (ap (λ b. get_or b (edge_decision parts e) []) then_is ∙ sym same ∙ ap (λ b. get_or b (edge_decision parts e) []) now_is) (kept.each e is))
          | inr (k, w, number) ↦
              let within : mark + k < length removed = omega (arith, w) in
              let step = steps.each (mark + k) within default in
              let size = length-drop mark removed in
              inr (k, omega (arith, size, w), get_or-drop mark removed k (decisions.Place e) ∙ get_or_default removed (mark + k) (decisions.Place e) default within ∙ on_edge parts (get_or removed (mark + k) default) e p is step.0 number)
        ]);
      }

-- ---- as the code reads them

module _ {parts : Parts} {t : Trailed} {turns : ℕ} {s : State} {rows : List Mothers} {into : List LabelsInto} (keeps : Keeps parts t) (is : seen parts t turns ≡ s) (kept : AreKept parts t.words rows) (told : AreTold parts rows into)
    {n dim daughter : ℕ} (m : n ≡ nodes parts) where
  module _ {label place : ℕ} (has_them : HasEdges s.parts dim daughter label) (at : place ≡ mothers_at n dim daughter label) where
    h : HasEdges parts dim daughter label
    h = subst (λ s. HasEdges s.parts dim daughter label) (sym is) has_them

    pub mothers_within : place < length rows
    mothers_within = row_within parts keeps.problem (length rows) dim daughter label n place h m at kept.long

    mothers_there : (row : Mothers) → get_or rows place no_mothers ≡ row → (node : ℕ) → AreFrom s.parts s.now dim label daughter row node
    mothers_there row row_is node =
        let there = ap (λ i. get_or rows i no_mothers) (ap (λ i. mothers_at i dim daughter label) (sym m) ∙ sym at) ∙ row_is in
        subst (λ s. AreFrom s.parts s.now dim label daughter row node) is (both_exact parts keeps.problem t.words rows kept dim daughter label h row there node told.may_others told.must_others)

    pub mothers_read : (row : Mothers) → row ≡ get_or rows place row → (node : ℕ) → AreFrom s.parts s.now dim label daughter row node
    mothers_read row row_is = mothers_there row (get_or_default rows place no_mothers row mothers_within ∙ sym row_is)

  -- of the first so many labels
  module _ {labels first : ℕ} (some : labels ≢ 0) (has_them : (label : ℕ) → label < labels → HasEdges s.parts dim daughter label) (at : first ≡ mothers_at n dim daughter 0) where
    pub rows_within : first + labels ≤ length rows
    rows_within =
        let last = mothers_within {place = mothers_at n dim daughter (labels - 1)} (has_them (labels - 1) (omega (arith, some))) refl in
        omega (arith, last, at, some)

    pub mothers_are : {part : List Mothers} → part ≡ take labels (drop first rows) → AreMothers s.parts s.now dim daughter labels part
    mothers_are {part} part_is =
        let within = rows_within in
        let behind = length-drop first rows in
        let each = λ (label : ℕ) (l : label < labels).
        let place : mothers_at n dim daughter label ≡ first + label = omega (arith, at) in
        mothers_there (has_them label l) refl (get_or part label no_mothers)
        (ap (λ i. get_or rows i no_mothers) place ∙ sym (ap (λ xs. get_or xs label no_mothers) part_is ∙ get_or-take labels (drop first rows) label no_mothers l ∙ get_or-drop first rows label no_mothers)) in
        record {
          count = ap length part_is ∙ length-take-le labels (drop first rows) (omega (arith, within, behind));
          may = λ mother label l. (each label l mother).0;
          must = λ mother label l. (each label l mother).1;
        }
