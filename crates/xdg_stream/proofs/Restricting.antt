-- All values of a decision but one are taken away.
use Rattle.std.proofs.Common.{◌≡◌, ◌≢◌, ℕ, ◌<◌, ◌≤◌, ◌+◌, ◌*◌, inl, inr, Bool, List, refl, ap, sym, ◌∙◌, arith, subst}
use Rattle.std.specs.Prelude.{slice_index, slice_index_or}
use Rattle.std.proofs.lemmas.Bool.{cases_eq, cases_lt}
use Rattle.xdg_problem.specs.Boxes.{Has, IsOnly, LiesIn}
use Rattle.xdg_problem.specs.Vectors.{shape}
use Rattle.xdg_propcore.specs.Steps.{Extends}
use Rattle.xdg_propcore.proofs.Settling.{extends_both}
use Rattle.xdg_propcore.proofs.Shrinking.{lies_shrunk, removal_extends, shrinks_keeps}
use Rattle.xdg_rules.proofs.Sizes.{within_sizes}
use Rattle.xdg_store.specs.Change.{RemovesAll}
use Rattle.xdg_store.specs.Naming.{LosesOf}
use Rattle.xdg_store.specs.States.{State, Known}
use Rattle.xdg_store.specs.declared.change.Change.{Change}
use Rattle.xdg_store.specs.declared.change.Change.TheVariants as changes
use Rattle.xdg_stream.specs.Levels.{IsRestricted, Restricts}
use Rattle.xdg_stream.specs.Others.{IsOther}

-- so far the values of the first i blocks of 64 were taken
pub record Restricting (old now : State) (made : Change) (d v i : ℕ) : Type 0 where
  pub known : Known now
  pub extends : Extends old now
  pub proper : made ≢ changes.Emptied
  pub same : made ≡ changes.Same → now ≡ old
  pub gone : (x : ℕ) → x < i * 64 → x ≢ v → Has now.now d x → ⊥
  pub kept : (small : List (List Bool)) → LiesIn small old.now → IsOnly small d v → LiesIn small now.now
  pub stays : Has old.now d v → Has now.now d v
  pub others : LosesOf old.now now.now d

next_gone : (P : ℕ → Type 0) (v i x : ℕ) → ((y : ℕ) → y < i * 64 → y ≢ v → P y → ⊥) → (IsOther i v x → P x → ⊥) → x < (i + 1) * 64 → x ≢ v → P x → ⊥
next_gone P v i x before here l n p = elim (cases_lt x (i * 64)) [
  | inl less ↦ before x less n p
  | inr more ↦ here (more, omega (arith, l), n) p
]

-- none of the block remained
pub restrict_same : (old now new : State) (made : Change) (d v i : ℕ) → Known new → RemovesAll changes.Same now new d (IsOther i v) → Restricting old now made d v i → Restricting old new made d v (i + 1)
restrict_same old now new made d v i known m r = record {
  known = known;
  extends = extends_both old now new r.extends (removal_extends changes.Same now new d (IsOther i v) m);
  proper = r.proper;
  same = λ e. m.1 ∙ r.same e;
  gone = λ x l n. next_gone (Has new.now d) v i x (λ y k o h. r.gone y k o (subst (λ s. Has s.now d y) m.1 h)) (λ other h. m.0 x other (subst (λ s. Has s.now d x) m.1 h)) l n;
  kept = λ small lies only. subst (λ s. LiesIn small s.now) (sym m.1) (r.kept small lies only);
  stays = λ h. subst (λ s. Has s.now d v) (sym m.1) (r.stays h);
  others = λ e x h n. subst (λ s. Has s.now e x) (sym m.1) (r.others e x h n);
}

-- some are taken
pub restrict_changed : (old now new : State) (made : Change) (d v i : ℕ) → Known new → RemovesAll changes.Changed now new d (IsOther i v) → Restricting old now made d v i → Restricting old new changes.Changed d v (i + 1)
restrict_changed old now new made d v i known m r = record {
  known = known;
  extends = extends_both old now new r.extends (removal_extends changes.Changed now new d (IsOther i v) m);
  proper = λ e. cc;
  same = λ e. cc;
  gone = λ x l n. next_gone (Has new.now d) v i x (λ y k o h. r.gone y k o (m.1.inside d y h)) (m.1.gone x) l n;
  kept = λ small lies only. lies_shrunk now new d (IsOther i v) m.1 small (r.kept small lies only) (λ x other h. other.2 (only x h));
  stays = λ h. m.1.left v (λ other. other.2 refl) (r.stays h);
  others = λ e x h n. shrinks_keeps now new d (IsOther i v) m.1 e x (r.others e x h n) (λ same other. n same);
}

all_gone : (old now : State) (made : Change) (d v i size : ℕ) → size ≡ slice_index (shape old.parts) d → size ≤ i * 64 → Restricting old now made d v i → IsRestricted old.now now.now d v
all_gone old now made d v i size is past r = record {
  inside = r.extends.inside;
  only = λ x h. elim (cases_eq x v) [
    | inl e ↦ e
    | inr n ↦ absurd (
        let l : x < slice_index (shape old.parts) d = subst (λ s. x < slice_index (shape s) d) r.extends.same (subst (λ z. x < slice_index_or z d 0) r.known.is_box.sizes (within_sizes now.now d x h)) in
        r.gone x (omega (arith, l, is, past)) n h
        )
  ];
  most = r.kept;
}

pub restrict_done : (old now : State) (made : Change) (d v i size : ℕ) → size ≡ slice_index (shape old.parts) d → size ≤ i * 64 → Restricting old now made d v i → Restricts made old.now now.now d v
restrict_done old now changes.Same d v i size is past r = (ap (λ s. s.now) (r.same refl), all_gone old now changes.Same d v i size is past r)
restrict_done old now changes.Changed d v i size is past r = all_gone old now changes.Changed d v i size is past r
restrict_done old now changes.Emptied d v i size is past r = absurd (r.proper refl)

-- ---- all that remain are other values of a block

module _ {old now new : State} {made : Change} {d v i : ℕ} (m : RemovesAll changes.Emptied now new d (IsOther i v)) (r : Restricting old now made d v i) where
  pub emptied_extends : Extends old new
  emptied_extends = extends_both old now new r.extends (removal_extends changes.Emptied now new d (IsOther i v) m)

  -- the value to stay doesn't remain
  pub emptied_lacks : Has old.now d v → ⊥
  emptied_lacks h = (m.0 v (r.stays h)).2 refl

  -- nothing was lost of other decisions
  pub emptied_others : LosesOf old.now new.now d
  emptied_others e x h n = subst (λ s. Has s.now e x) (sym m.1) (r.others e x h n)
