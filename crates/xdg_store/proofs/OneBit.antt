-- What it does to a store that the bit of one value is taken.
use Rattle.std.proofs.Common.{◌≡◌, ℕ, ◌<◌, ◌*◌, inl, inr, Bool, false, List, [], ◌∷◌, length, get_or, set, ap, sym, ◌∙◌, arith, subst, refl}
use Rattle.std.proofs.lemmas.Bool.{cases_eq}
use Rattle.std.proofs.lemmas.List.{ext_get_or, get_or-set_other, get_or-set_same, length-set}
use Rattle.xdg_problem.specs.declared.parts.Parts.{Parts}
use Rattle.xdg_problem.specs.Boxes.{without}
use Rattle.xdg_trail.specs.Trailed.{Trailed, past}
use Rattle.xdg_store.specs.Change.{Removes, with_box}
use Rattle.xdg_store.specs.Decisions.{IsDecision, number_of}
use Rattle.xdg_store.specs.Layout.{bits_of, box_in, is_set}
use Rattle.xdg_store.specs.Rows.{Clears, Takes, cleared}
use Rattle.xdg_store.specs.States.{Keeps}
use Rattle.xdg_store.specs.declared.change.Change.{Change}
use Rattle.xdg_store.specs.declared.change.Change.TheVariants as changes
use Rattle.xdg_store.specs.declared.decision.Decision.{Decision}
use Rattle.xdg_store.proofs.Apart.{bit_in_range}
use Rattle.xdg_store.proofs.Bits.{cleared_same, cleared_other, length-cleared}
use Rattle.xdg_store.proofs.Deciding.{HasBits}
use Rattle.xdg_store.proofs.Histories.{seen}
use Rattle.xdg_store.proofs.Noting.{LeavesOne, one_step}
use Rattle.xdg_store.proofs.Removals.{has_bit, length_box_in, row_size}
use Rattle.xdg_store.proofs.Several.{Loses, SomeStay, TakesThose, all_keep, is_left, removes_all, same_others, shrinks}

abbrev pub Is : ℕ → ℕ → Type 0
Is v x = x ≡ v

module _ {parts : Parts} (t u : Trailed) {d size : ℕ} {bit : ℕ → ℕ} (v : ℕ) (keeps : Keeps parts t) (at : HasBits parts d size bit) (within : v < size) where
  abbrev Other : Type 0
  Other = SomeStay t.words size bit (Is v)

  abbrev old : List (List Bool)
  old = box_in (bits_of parts) t.words

  abbrev new : List (List Bool)
  new = box_in (bits_of parts) u.words

  loses_one : Clears t u (bit v) → Loses t u size bit (Is v)
  loses_one clears =
      let there : bit v < 64 * length t.words = (let r = bit_in_range parts keeps.problem at v within in let l = keeps.long in omega (arith, r, l)) in
      record {
        count = ap length clears.words ∙ length-cleared t.words (bit v);
        gone = λ x l e. ap (λ w. is_set w (bit x)) clears.words ∙ subst (λ i. is_set (cleared t.words (bit v)) (bit i) ≡ false) (sym e) (cleared_same t.words (bit v) there);
        others = λ b n. ap (λ w. is_set w b) clears.words ∙ cleared_other t.words (bit v) b there (n v within refl);
        past_is = clears.past_is ∙ ap (λ w. w ∷ past t) (sym clears.words);
        room = clears.room;
      }

  takes_one : (change : Change) → Takes change t u (bit v) Other → TakesThose change t u size bit (Is v)
  takes_one changes.Same (e, same) = (λ (x, l, g, h). (let f = ap (λ i. is_set t.words (bit i)) g in cc), same)
  takes_one changes.Changed (e, other, clears) = ((v, within, refl, e), other, loses_one clears)
  takes_one changes.Emptied (e, none, same) = (none, same)

  -- the box is the one before without the value
  taken_is : Loses t u size bit (Is v) → new ≡ without old d v
  taken_is loses = ext_get_or [] new (without old d v) (length_box_in (bits_of parts) u.words ∙ sym (length_box_in (bits_of parts) t.words) ∙ sym (length-set old d _)) (λ e l. elim (cases_eq e d) [
    | inl same ↦ subst (λ i. get_or new i [] ≡ get_or (without old d v) i []) (sym same)
        (here ∙ sym (get_or-set_same old d (set (get_or old d []) v false) [] (let k = at.within in let n = length_box_in (bits_of parts) t.words in omega (arith, k, n))))
    | inr n ↦ same_others u (Is v) (λ x. cases_eq x v) keeps at loses e n ∙ sym (get_or-set_other old d e (set (get_or old d []) v false) [] n)
  ])
    where
      here : get_or new d [] ≡ set (get_or old d []) v false
      here = ext_get_or false (get_or new d []) (set (get_or old d []) v false) (row_size at u.words ∙ sym (row_size at t.words) ∙ sym (length-set (get_or old d []) v false)) (λ x l. elim (cases_eq x v) [
        | inl same ↦ subst (λ i. get_or (get_or new d []) i false ≡ get_or (set (get_or old d []) v false) i false) (sym same)
            (has_bit at u.words v within ∙ loses.gone v within refl ∙ sym (get_or-set_same (get_or old d []) v false false (let n = row_size at t.words in omega (arith, n, within))))
        | inr n ↦ is_left u (Is v) (λ x. cases_eq x v) keeps at loses x (let k = row_size at u.words in omega (arith, k, l)) n ∙ sym (get_or-set_other (get_or old d []) v x false false n)
      ])

  -- what a removal answers and leaves
  removes : (change : Change) (turns : ℕ) → Takes change t u (bit v) Other → Removes change (seen parts t turns) (seen parts u turns) d v
  removes changes.Same turns takes = (let all = removes_all u (Is v) (λ x. cases_eq x v) keeps at changes.Same turns (takes_one changes.Same takes) in (λ h. all.0 v refl h, all.1))
  removes changes.Emptied turns takes = (let all = removes_all u (Is v) (λ x. cases_eq x v) keeps at changes.Emptied turns (takes_one changes.Emptied takes) in (has_bit at t.words v within ∙ takes.0, all.0, all.1))
  removes changes.Changed turns (e, other, clears) =
      let loses = loses_one clears in
      let all = shrinks u (Is v) (λ x. cases_eq x v) keeps at loses turns in (
        has_bit at t.words v within ∙ e,
        λ only. other.2 (only other.0 (has_bit at t.words other.0 other.1 ∙ other.3)),
        ap (λ h. record { parts = parts; now = new; history = h; turns = turns }) all.grown ∙ ap (with_box (seen parts t turns)) (taken_is loses),
      )

pub one_taken : {parts : Parts} {t u : Trailed} {change : Change} {turns : ℕ} {decision : Decision} {size : ℕ} {bit : ℕ → ℕ} (v : ℕ) → Keeps parts t → IsDecision parts decision → HasBits parts (number_of parts decision) size bit → v < size
    → Takes change t u (bit v) (SomeStay t.words size bit (Is v)) → LeavesOne parts change t u turns decision v
one_taken {parts} {t} {u} {change} {turns} {decision} v keeps is at within takes =
    let removal = removes t u v keeps at within change turns takes in record {
      is = is;
      kept = keeps;
      keeps = all_keep u (Is v) (λ x. cases_eq x v) keeps at change (takes_one t u v keeps at within change takes);
      removes = removal;
      step = one_step change (seen parts t turns) (seen parts u turns) (number_of parts decision) v removal;
    }
