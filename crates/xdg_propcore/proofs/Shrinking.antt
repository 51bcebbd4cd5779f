-- What a removal of some values of a decision leaves. The removal of one value is one of these.
use Rattle.std.proofs.Common.{◌≡◌, ℕ, inl, inr, Bool, false, List, [], ◌∷◌, get_or, set, refl, ap, sym, ◌∙◌, subst}
use Rattle.std.proofs.lemmas.Bool.{cases_eq}
use Rattle.std.proofs.lemmas.List.{get_or-set_other}
use Rattle.xdg_problem.specs.Boxes.{Has, LiesIn, without}
use Rattle.xdg_store.specs.Change.{Removes, RemovesAll, Shrinks, with_box}
use Rattle.xdg_store.specs.States.{State}
use Rattle.xdg_store.specs.declared.change.Change.{Change}
use Rattle.xdg_store.specs.declared.change.Change.TheVariants as changes
use Rattle.xdg_problem.proofs.BoxWithout.{without_has, taken_gone, without_inside}
use Rattle.xdg_propcore.specs.Steps.{Extends}
use Rattle.xdg_propcore.proofs.Settling.{extends_none}

-- ---- one value

shrinks_one : (old : State) (d v : ℕ) → Shrinks old (with_box old (without old.now d v)) d (λ x. x ≡ v)
shrinks_one old d v = record {
  parts = refl;
  turns = refl;
  grown = refl;
  inside = without_inside old.now d v;
  others = λ e other. get_or-set_other old.now d e (set (get_or old.now d []) v false) [] other;
  gone = λ x is h. taken_gone old.now d v (subst (Has (without old.now d v) d) is h);
  left = λ x other h. (without_has old.now d v d x).1 (h, λ same. other);
}

pub one_removed : (change : Change) (old new : State) (d v : ℕ) → Removes change old new d v → RemovesAll change old new d (λ x. x ≡ v)
one_removed changes.Same old new d v r = (λ x is h. r.0 (subst (Has old.now d) is h), r.1)
one_removed changes.Changed old new d v r = ((v, refl, r.0), subst (λ s. Shrinks old s d (λ x. x ≡ v)) (sym r.2) (shrinks_one old d v))
one_removed changes.Emptied old new d v r = (r.1, r.2)

-- ---- several values

module _ (old new : State) (d : ℕ) (Taken : ℕ → Type 0) (s : Shrinks old new d Taken) where
  -- what isn't taken stays
  pub shrinks_keeps : (e x : ℕ) → Has old.now e x → (e ≡ d → Taken x → ⊥) → Has new.now e x
  shrinks_keeps e x h kept = elim (cases_eq e d) [
    | inl same ↦ subst (λ i. Has new.now i x) (sym same) (s.left x (kept same) (subst (λ i. Has old.now i x) same h))
    | inr other ↦ ap (λ row. get_or row x false) (s.others e other) ∙ h
  ]

  -- a box that has none of the values taken lies in what is left
  pub lies_shrunk : (small : List (List Bool)) → LiesIn small old.now → ((v : ℕ) → Taken v → Has small d v → ⊥) → LiesIn small new.now
  lies_shrunk small inside none e x h = shrinks_keeps e x (inside e x h) (λ same taken. none x taken (subst (λ i. Has small i x) same h))

-- the history before is the front of the one after
pub removal_extends : (change : Change) (old new : State) (d : ℕ) (Taken : ℕ → Type 0) → RemovesAll change old new d Taken → Extends old new
removal_extends changes.Same old new d Taken r = subst (Extends old) (sym r.1) (extends_none old)
removal_extends changes.Changed old new d Taken r = record { same = r.1.parts; more = new.now ∷ []; grown = r.1.grown; inside = r.1.inside }
removal_extends changes.Emptied old new d Taken r = subst (Extends old) (sym r.1) (extends_none old)
