-- Edge places: decisions with two bits.
use Rattle.std.proofs.Common.{◌≡◌, ◌≢◌, ℕ, ◌<◌, ◌≤◌, ◌+◌, ◌-◌, ◌*◌, ◌↔◌, Bool, true, false, not, IsTrue, List, [], length, get_or, ap, sym, ◌∙◌, arith, subst, refl}
use Rattle.xdg_problem.specs.declared.analysis.Edge.{Edge}
use Rattle.xdg_problem.specs.declared.parts.Parts.{Parts}
use Rattle.xdg_problem.specs.Analyses.{IsPlace}
use Rattle.xdg_problem.specs.Boxes.{May, Must, edge_decision}
use Rattle.xdg_problem.specs.Places.{nodes}
use Rattle.xdg_problem.specs.Problems.{IsProblem}
use Rattle.xdg_trail.specs.Trailed.{Trailed}
use Rattle.xdg_store.specs.Layout.{bits_of, box_in, edge_bit, edge_row, is_set}
use Rattle.xdg_store.specs.Rows.{Takes}
use Rattle.xdg_store.specs.States.{State, Keeps}
use Rattle.xdg_store.specs.declared.change.Change.{Change}
use Rattle.xdg_store.specs.declared.change.Change.TheVariants as changes
use Rattle.xdg_store.specs.declared.decision.Decision.TheVariants as decisions
use Rattle.xdg_store.proofs.Apart.{bit_in_range}
use Rattle.xdg_store.proofs.Deciding.{HasBits, has_bits, pair_bit}
use Rattle.xdg_store.proofs.Histories.{seen}
use Rattle.xdg_store.proofs.Noting.{LeavesOne}
use Rattle.xdg_store.proofs.OneBit.{one_taken}
use Rattle.xdg_store.proofs.Removals.{has_bit, has_room}
use Rattle.xdg_facts.proofs.Truths.{not_true, true_not}

-- an edge place, and the bit that says whether its edge may be present
pub record IsPair (parts : Parts) (e : Edge) (present : ℕ) : Type 0 where
  pub is : IsPlace parts e
  pub bits : HasBits parts (edge_decision parts e) 2 (pair_bit parts e)
  pub present_is : present ≡ edge_bit (nodes parts) e

pub edge_is_pair : (parts : Parts) (e : Edge) (n row present : ℕ) → IsProblem parts → IsPlace parts e → n ≡ nodes parts → row ≡ edge_row n e.dim.0 e.mother.0 e.label.0 → present ≡ row + e.daughter.0 → IsPair parts e present
edge_is_pair parts e n row present p is m r b = record {
  is = is;
  bits = has_bits parts p (decisions.Place e) is;
  present_is = b ∙ ap (λ i. i + e.daughter.0) (r ∙ ap (λ i. edge_row i e.dim.0 e.mother.0 e.label.0) m);
}

-- the edge place of a call
pub edge_seen : {parts : Parts} {t : Trailed} {turns : ℕ} {s : State} {e : Edge} {n row : ℕ}
    → Keeps parts t → seen parts t turns ≡ s → IsPlace s.parts e → n ≡ nodes parts → row ≡ edge_row n e.dim.0 e.mother.0 e.label.0 → IsPair parts e (row + e.daughter.0)
edge_seen {parts} {e = e} {n} {row} keeps is place m r = edge_is_pair parts e n row (row + e.daughter.0) keeps.problem (subst (λ s. IsPlace s.parts e) (sym is) place) m r refl

-- the bit of a value of an edge place, and that of the other value
pub record AreBits (parts : Parts) (e : Edge) (v bit other : ℕ) : Type 0 where
  pub is : IsPlace parts e
  pub bits : HasBits parts (edge_decision parts e) 2 (pair_bit parts e)
  pub small : v < 2
  pub bit_is : bit ≡ pair_bit parts e v
  pub other_is : other ≡ pair_bit parts e (1 - v)

module _ {parts : Parts} {e : Edge} {present : ℕ} (at : IsPair parts e present) where
  pub forbid_bits : AreBits parts e 0 present (present + 128)
  forbid_bits = record { is = at.is; bits = at.bits; small = omega arith; bit_is = at.present_is; other_is = ap (λ i. i + 128) at.present_is }

  pub force_bits : AreBits parts e 1 (present + 128) present
  force_bits = record { is = at.is; bits = at.bits; small = omega arith; bit_is = ap (λ i. i + 128) at.present_is; other_is = at.present_is }

module _ {parts : Parts} {t : Trailed} {e : Edge} {v bit other : ℕ} (keeps : Keeps parts t) (at : AreBits parts e v bit other) where
  abbrev Other : Type 0
  Other = is_set t.words other ≡ true

  -- both are among those of the words
  pub pair_within : (bit < 64 * length t.words) × (other < 64 * length t.words)
  pair_within =
      let small = at.small in
      let this = bit_in_range parts keeps.problem at.bits v small in
      let that = bit_in_range parts keeps.problem at.bits (1 - v) (omega arith) in
      let long = keeps.long in
      let b = at.bit_is in
      let o = at.other_is in
      (omega (arith, this, long, b), omega (arith, that, long, o))

  abbrev OtherOne : Type 0
  OtherOne = (x : ℕ) × (x < 2) × (x ≢ v) × (is_set t.words (pair_bit parts e x) ≡ true)

  to_other : Other → OtherOne
  to_other h = (let small = at.small in (1 - v, omega arith, (λ s. omega (arith, s, small)), subst (λ b. is_set t.words b ≡ true) at.other_is h))

  from_other : OtherOne → Other
  from_other (x, l, n, h) =
      let small = at.small in
      let s : x ≡ 1 - v = omega (arith, l, n, small) in
      ap (is_set t.words) at.other_is ∙ ap (λ i. is_set t.words (pair_bit parts e i)) (sym s) ∙ h

  pub pair_room : is_set t.words bit ≡ true → is_set t.words other ≡ true → 1 ≤ t.spare
  pair_room h h' = has_room at.bits v keeps at.small (subst (λ b. is_set t.words b ≡ true) at.bit_is h) (to_other h')

  pub pair_taken : {u : Trailed} {change : Change} {turns : ℕ} → Takes change t u bit Other → LeavesOne parts change t u turns (decisions.Place e) v
  pair_taken {u} {change} takes = one_taken v keeps at.is at.bits at.small (subst (λ b. Takes change t u b OtherOne) at.bit_is (of_other change takes))
    where
      of_other : (change : Change) → Takes change t u bit Other → Takes change t u bit OtherOne
      of_other changes.Same takes = takes
      of_other changes.Changed (e, other, clears) = (e, to_other other, clears)
      of_other changes.Emptied (e, none, same) = (e, λ x. none (from_other x), same)

-- what the bits say of an edge

module _ {parts : Parts} {e : Edge} {present : ℕ} (words : List ℕ) (at : IsPair parts e present) where
  pub may_read : get_or (get_or (box_in (bits_of parts) words) (edge_decision parts e) []) 0 false ≡ is_set words present
  may_read = has_bit at.bits words 0 (omega arith) ∙ ap (is_set words) (sym at.present_is)

  pub must_read : get_or (get_or (box_in (bits_of parts) words) (edge_decision parts e) []) 1 false ≡ is_set words (present + 128)
  must_read = has_bit at.bits words 1 (omega arith) ∙ ap (λ i. is_set words (i + 128)) (sym at.present_is)

  pub may_has : {result : Bool} → result ≡ is_set words present → IsTrue result ↔ May parts (box_in (bits_of parts) words) e
  may_has h = let q = h ∙ sym may_read in (λ i. sym q ∙ i, λ i. q ∙ i)

  pub must_has : {result : Bool} → result ≡ is_set words (present + 128) → IsTrue (not result) ↔ Must parts (box_in (bits_of parts) words) e
  must_has {result} h = let q = h ∙ sym must_read in (λ i j. not_true result i (q ∙ j), λ i. true_not result (λ k. i (sym q ∙ k)))
