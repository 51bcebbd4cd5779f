-- Boxes of the history on which propagators were still.
use Rattle.std.proofs.Common.{◌≡◌, ℕ, ◌<◌, ◌+◌, inl, inr, Bool, List, [], Option, Some, None, All, length, get_or, set, ap, sym, ◌∙◌, arith, subst, length-append, length-set}
use Rattle.std.proofs.lemmas.Bool.{cases_eq}
use Rattle.std.proofs.lemmas.List.{get_or_append_left, get_or_default, get_or-set_same, get_or-set_other}
use Rattle.xdg_problem.specs.declared.parts.Parts.{Parts}
use Rattle.xdg_problem.specs.Boxes.{IsBox, LiesIn}
use Rattle.xdg_problem.specs.Vectors.{shape}
use Rattle.xdg_store.specs.States.{State, Known}
use Rattle.xdg_propcore.specs.Standing.{AreHeld, Held, box_at}
use Rattle.xdg_propcore.specs.Steps.{Extends}
use Rattle.xdg_facts.proofs.Options.{same_mark}

module _ (still : Parts → List (List Bool) → Type 0) where
  -- a box of the history is one of it still
  pub held_on : (s new : State) (mark : ℕ) → Extends s new → Held still s mark → Held still new mark
  held_on s new mark e h =
      let within = h.within in
      let long = ap length e.grown in
      let more = length-append s.history e.more in
      let same : box_at new mark ≡ box_at s mark = ap (λ g. get_or g mark []) e.grown ∙ get_or_append_left s.history e.more [] mark h.within in
      record {
        within = omega (arith, within, long, more);
        is = subst (λ b. IsBox (shape new.parts) b) (sym same) (subst (λ q. IsBox (shape q) (box_at s mark)) (sym e.same) h.is);
        inside = λ d v k. subst (λ b. LiesIn s.now b) (sym same) h.inside d v (e.inside d v k);
        calm = subst (still new.parts) (sym same) (subst (λ q. still q (box_at s mark)) (sym e.same) h.calm);
      }

  -- the present box is one of it
  pub held_now : (s : State) (mark : ℕ) → Known s → still s.parts s.now → mark + 1 ≡ length s.history → box_at s mark ≡ s.now → Held still s mark
  held_now s mark known calm last same = record {
    within = omega (arith, last);
    is = subst (IsBox (shape s.parts)) (sym same) known.is_box;
    inside = subst (LiesIn s.now) (sym same) (λ d v h. h);
    calm = subst (still s.parts) (sym same) calm;
  }

-- ---- marks

module _ {P : Type 0} (still : P → Parts → List (List Bool) → Type 0) (props : List P) where
  pub are_held_on : (s new : State) (marks : List (Option ℕ)) → Extends s new → AreHeld still props s marks → AreHeld still props new marks
  are_held_on s new marks e h = record { count = h.count; each = λ at d l mark is. held_on (still (get_or props at d)) s new mark e (h.each at d l mark is) }

  -- none has a mark
  pub none_held : (s : State) (marks : List (Option ℕ)) → length marks ≡ length props → ((at : ℕ) → at < length marks → get_or marks at None ≡ None) → AreHeld still props s marks
  none_held s marks count none = record {
    count = count;
    each = λ at d l mark is. absurd (let n : None ≡ Some mark = sym (none at (omega (arith, l, count))) ∙ is in cc);
  }

  -- all have the same
  pub all_held : (s : State) (mark : ℕ) (marks : List (Option ℕ)) → length marks ≡ length props → ((at : ℕ) → at < length marks → get_or marks at None ≡ Some mark) → All (λ p. Held (still p) s mark) props → AreHeld still props s marks
  all_held s mark marks count all held = record {
    count = count;
    each = λ at d l other is. subst (λ m. Held (still (get_or props at d)) s m) (same_mark mark other (sym (all at (omega (arith, l, count))) ∙ is)) (held at d l);
  }

  -- one gets another
  pub held_set : (s : State) (mark at : ℕ) (p : P) (marks next : List (Option ℕ)) → at < length props → p ≡ get_or props at p → Held (still p) s mark → next ≡ set marks at (Some mark) → AreHeld still props s marks → AreHeld still props s next
  held_set s mark at p marks next l is held next_is h =
      let count = h.count in
      record {
        count = ap length next_is ∙ length-set marks at (Some mark) ∙ count;
        each = λ i d m other some. elim (cases_eq at i) [
          | inl q ↦
              let here : get_or next i None ≡ Some mark = ap (λ z. get_or z i None) next_is ∙ ap (λ z. get_or (set marks at (Some mark)) z None) (sym q) ∙ get_or-set_same marks at (Some mark) None (omega (arith, l, count)) in
              subst (λ z. Held (still z) s other) (is ∙ ap (λ z. get_or props z p) q ∙ get_or_default props i p d m) (subst (Held (still p) s) (same_mark mark other (sym here ∙ some)) held)
          | inr f ↦ h.each i d m other (sym (ap (λ z. get_or z i None) next_is ∙ get_or-set_other marks at i (Some mark) None (λ z. f (sym z))) ∙ some)
        ];
      }
