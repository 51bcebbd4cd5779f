-- Entries and attributes: decisions whose bits stand in a row.
use Rattle.std.proofs.Common.{◌≡◌, ℕ, ◌<◌, ◌≤◌, ◌+◌, ◌/◌, ◌%◌, ◌↔◌, Bool, true, IsTrue, List, [], length, get_or, refl, ap, ap₂, sym, ◌∙◌, arith, subst}
use Rattle.std.specs.Int.{bit_at}
use Rattle.std.proofs.lemmas.Bool.{eq-eqb, eqb-true}
use Rattle.std.proofs.lemmas.List.{get_or_default}
use Rattle.xdg_base.specs.declared.ids.AttrId.{AttrId}
use Rattle.xdg_base.specs.declared.ids.DimId.{DimId}
use Rattle.xdg_base.specs.declared.ids.EntryNo.{EntryNo}
use Rattle.xdg_base.specs.declared.ids.NodeId.{NodeId}
use Rattle.xdg_problem.specs.declared.parts.AttrPlan.{AttrPlan}
use Rattle.xdg_problem.specs.declared.parts.DimPlan.{DimPlan}
use Rattle.xdg_problem.specs.declared.parts.Parts.{Parts}
use Rattle.xdg_problem.specs.Arguments.{no_plan, no_attr, value_count}
use Rattle.xdg_problem.specs.Boxes.{Has, entry_decision}
use Rattle.xdg_problem.specs.Places.{nodes}
use Rattle.xdg_trail.specs.Trailed.{Trailed}
use Rattle.xdg_store.specs.Change.{IsTaken}
use Rattle.xdg_store.specs.Decisions.{IsDecision, number_of}
use Rattle.xdg_store.specs.InRange.{HasCandidate, HasValue}
use Rattle.xdg_store.specs.Layout.{attr_row, entry_row, is_set}
use Rattle.xdg_store.specs.Rows.{HasOther, Takes, TakesAll}
use Rattle.xdg_store.specs.States.{State, Keeps}
use Rattle.xdg_store.specs.declared.change.Change.{Change}
use Rattle.xdg_store.specs.declared.change.Change.TheVariants as changes
use Rattle.xdg_store.specs.declared.decision.Decision.{Decision}
use Rattle.xdg_store.specs.declared.decision.Decision.TheVariants as decisions
use Rattle.xdg_store.proofs.Deciding.{HasBits, has_bits}
use Rattle.xdg_store.proofs.Histories.{seen}
use Rattle.xdg_store.proofs.Noting.{LeavesAll, LeavesOne}
use Rattle.xdg_store.proofs.OneBit.{one_taken}
use Rattle.xdg_store.proofs.OneBlock.{taken_or}
use Rattle.xdg_store.proofs.Removals.{has_bit, has_room}
use Rattle.xdg_store.proofs.Several.{TakesThose, all_taken}

-- the bits of a decision are a row, and it has the value
pub record IsRow (parts : Parts) (decision : Decision) (start size v : ℕ) : Type 0 where
  pub is : IsDecision parts decision
  pub bits : HasBits parts (number_of parts decision) size (λ x. start + x)
  pub within : v < size

module _ {parts : Parts} {t : Trailed} {decision : Decision} {start size v : ℕ} (keeps : Keeps parts t) (at : IsRow parts decision start size v) where
  -- a removal finds room
  pub block_room : (x : ℕ) → x < size → is_set t.words (start + x) ≡ true → HasOther t.words start size x → 1 ≤ t.spare
  block_room x l e other = has_room at.bits x keeps l e other

  pub row_room : is_set t.words (start + v) ≡ true → HasOther t.words start size v → 1 ≤ t.spare
  row_room = block_room v at.within

  pub row_taken : {u : Trailed} {change : Change} {turns : ℕ} → Takes change t u (start + v) (HasOther t.words start size v) → LeavesOne parts change t u turns decision v
  row_taken takes = one_taken v keeps at.is at.bits at.within takes

  pub block_taken : {u : Trailed} {change : Change} {turns : ℕ} (block taken : ℕ) → TakesAll change t u start size block taken → LeavesAll parts change t u turns decision (IsTaken block taken)
  block_taken {u} {change} block taken takes = all_taken (IsTaken block taken) (taken_or block taken) keeps at.is at.bits (as_those change takes)
    where
      as_those : (change : Change) → TakesAll change t u start size block taken → TakesThose change t u size (λ x. start + x) (IsTaken block taken)
      as_those changes.Same (none, same) = (λ (x, l, g, h). none x l g h, same)
      as_those changes.Changed (found, left, c) = (found, left, record { count = c.count; gone = c.gone; others = c.others; past_is = c.past_is; room = c.room })
      as_those changes.Emptied takes = takes

-- what the code reads of a value
pub row_has : {parts : Parts} {t : Trailed} {turns : ℕ} {s : State} {decision : Decision} {start size v : ℕ} {result : Bool}
    → Keeps parts t → seen parts t turns ≡ s → IsRow parts decision start size v → result ≡ is_set t.words (start + v) → IsTrue result ↔ Has s.now (number_of s.parts decision) v
row_has {t = t} {decision = decision} {v = v} {result} keeps is at e =
    let q = e ∙ sym (has_bit at.bits t.words v at.within) in
    subst (λ s. IsTrue result ↔ Has s.now (number_of s.parts decision) v) is (λ h. sym q ∙ h, λ h. q ∙ h)

-- ---- entries

module _ {parts : Parts} {t : Trailed} {turns : ℕ} {s : State} (keeps : Keeps parts t) (is : seen parts t turns ≡ s) where
  pub entry_is_row : (node : NodeId) {place start size : ℕ} → HasCandidate s.parts node.0 place → start ≡ entry_row node.0 → size ≡ length (get_or parts.candidates node.0 []) → IsRow parts (decisions.Entry node) start size place
  entry_is_row node {place} {start} {size} has s l =
      let h = subst (λ s. HasCandidate s.parts node.0 place) (sym is) has in
      record {
        is = h.node_in;
        bits = subst (λ i. HasBits parts (entry_decision node.0) size (λ x. i + x)) (sym s)
            (subst (λ i. HasBits parts (entry_decision node.0) i (λ x. entry_row node.0 + x)) (sym l) (has_bits parts keeps.problem (decisions.Entry node) h.node_in));
        within = (let w = h.place_in in omega (arith, w, l));
      }

  -- with as many candidates as the code finds
  pub entry_found : (node : NodeId) {place start size : ℕ} {shown : Parts} {all : List (List EntryNo)} {item : List EntryNo}
      → HasCandidate s.parts node.0 place → start ≡ entry_row node.0 → shown ≡ parts → all ≡ shown.candidates → item ≡ get_or all node.0 item → size ≡ length item → IsRow parts (decisions.Entry node) start size place
  entry_found node {place} {all = all} {item} h s p a i l =
      let each = keeps.problem.candidates_each in
      let w = (subst (λ s. HasCandidate s.parts node.0 place) (sym is) h).node_in in
      let e : all ≡ parts.candidates = a ∙ ap (λ (q : Parts). q.candidates) p in
      entry_is_row node h s (l ∙ ap length (i ∙ ap (λ z. get_or z node.0 item) e ∙ get_or_default parts.candidates node.0 item [] (omega (arith, each, w))))

  -- the word of the first of them is there
  pub entry_word : {node start : ℕ} → node < nodes s.parts → start ≡ entry_row node → start / 64 < length t.words
  entry_word {node} l e = (let m = subst (λ s. node < nodes s.parts) (sym is) l in let long = keeps.long in omega (arith, m, e, long))

  -- and says of each of the first 64 whether it remains
  pub entries_have : (node : NodeId) {place start word : ℕ} → HasCandidate s.parts node.0 place → start ≡ entry_row node.0 → word ≡ get_or t.words (start / 64) 0 → place < 64
      → (bit_at word place ≡ 1) ↔ Has s.now (entry_decision node.0) place
  entries_have node {place} {start} {word} h s w few =
      let same = row_has keeps is (entry_is_row node h s refl) refl in
      let at : (start + place) / 64 ≡ start / 64 = omega (arith, s, few) in
      let bit : (start + place) % 64 ≡ place = omega (arith, s, few) in
      let read : bit_at (get_or t.words ((start + place) / 64) 0) ((start + place) % 64) ≡ bit_at word place = ap₂ (λ i b. bit_at (get_or t.words i 0) b) at bit ∙ ap (λ z. bit_at z place) (sym w) in (
        λ is. same.0 (eq-eqb (bit_at (get_or t.words ((start + place) / 64) 0) ((start + place) % 64)) 1 (read ∙ is)),
        λ has. sym read ∙ eqb-true (bit_at (get_or t.words ((start + place) / 64) 0) ((start + place) % 64)) 1 (same.1 has),
      )

  -- ---- attributes

  module _ (dim : DimId) (node : NodeId) (attr : AttrId) {n value start : ℕ} (has : HasValue s.parts node.0 dim.0 attr.0 value) (m : n ≡ nodes parts) (at : start ≡ attr_row n dim.0 node.0 attr.0) where
    has_value : HasValue parts node.0 dim.0 attr.0 value
    has_value = subst (λ s. HasValue s.parts node.0 dim.0 attr.0 value) (sym is) has

    pub attr_is_row : {size : ℕ} → size ≡ value_count parts dim.0 attr.0 → IsRow parts (decisions.Attr dim node attr) start size value
    attr_is_row {size} l =
        let d = number_of parts (decisions.Attr dim node attr) in
        let h = has_value in
        record {
          is = (h.dim_in, h.node_in, h.attr_in);
          bits = subst (λ i. HasBits parts d size (λ x. i + x)) (sym (at ∙ ap (λ i. attr_row i dim.0 node.0 attr.0) m))
              (subst (λ i. HasBits parts d i (λ x. attr_row (nodes parts) dim.0 node.0 attr.0 + x)) (sym l) (has_bits parts keeps.problem (decisions.Attr dim node attr) (h.dim_in, h.node_in, h.attr_in)));
          within = (let w = h.value_in in omega (arith, w, l));
        }

    -- with as many values as the code finds
    pub attr_found : {size : ℕ} {shown : Parts} {dims : List DimPlan} {plan : DimPlan} {attrs : List AttrPlan} {item : AttrPlan}
        → shown ≡ parts → dims ≡ shown.dims → plan ≡ get_or dims dim.0 plan → attrs ≡ plan.attrs → item ≡ get_or attrs attr.0 item → size ≡ length item.values → IsRow parts (decisions.Attr dim node attr) start size value
    attr_found {dims = dims} {plan} {attrs} {item} p d i a j l =
        let e : dims ≡ parts.dims = d ∙ ap (λ (q : Parts). q.dims) p in
        let f : plan ≡ get_or parts.dims dim.0 no_plan = i ∙ ap (λ z. get_or z dim.0 plan) e ∙ get_or_default parts.dims dim.0 plan no_plan has_value.dim_in in
        let g : attrs ≡ (get_or parts.dims dim.0 no_plan).attrs = a ∙ ap (λ (q : DimPlan). q.attrs) f in
        attr_is_row (l ∙ ap (λ (q : AttrPlan). length q.values) (j ∙ ap (λ z. get_or z attr.0 item) g ∙ get_or_default (get_or parts.dims dim.0 no_plan).attrs attr.0 item no_attr has_value.attr_in))
