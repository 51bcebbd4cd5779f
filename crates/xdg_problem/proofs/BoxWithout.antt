-- A box without a value has all that the box has, but that value.
use Rattle.std.proofs.Common.{◌≡◌, ◌↔◌, ℕ, inl, inr, Bool, false, List, [], get_or, set, refl, subst}
use Rattle.std.proofs.lemmas.Bool.{cases_eq}
use Rattle.std.proofs.lemmas.List.{get_or_past, get_or-set_other}
use Rattle.xdg_problem.specs.Boxes.{Has, LiesIn, without}
use Rattle.xdg_facts.proofs.Lists.{set_read, row_without}

pub without_has : (box : List (List Bool)) (d v e w : ℕ) → Has (without box d v) e w ↔ (Has box e w × (e ≡ d → w ≡ v → ⊥))
without_has box d v e w =
    let row : List Bool = set (get_or box d []) v false in
    let values = row_without (get_or box d []) v w in
    let taken : get_or (set box d row) d [] ≡ row = set_read box d row [] (λ past. rw (get_or_past box d [] past) refl) in
    elim (cases_eq e d) [
      | inl same ↦ rw (same, taken) (λ h. ((values.0 h).0, λ at. (values.0 h).1), λ h. values.1 (h.0, h.1 refl))
      | inr other ↦ rw (get_or-set_other box d e row [] other) (λ h. (h, λ same. absurd (other same)), λ h. h.0)
    ]

pub taken_gone : (box : List (List Bool)) (d v : ℕ) → Has (without box d v) d v → ⊥
taken_gone box d v has = ((without_has box d v d v).0 has).1 refl refl

pub without_inside : (box : List (List Bool)) (d v : ℕ) → LiesIn (without box d v) box
without_inside box d v e w has = ((without_has box d v e w).0 has).0

-- what lies in a box and hasn't a value of it lies in the box without the value
pub lies_without : (small large : List (List Bool)) (d v : ℕ) → LiesIn small large → (Has small d v → ⊥) → LiesIn small (without large d v)
lies_without small large d v lies gone e w has =
    (without_has large d v e w).1 (lies e w has, λ same value. gone (subst (Has small d) value (subst (λ k. Has small k w) same has)))
