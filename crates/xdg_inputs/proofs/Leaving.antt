-- What a run leaves behind, from what its steps left.
use Rattle.std.proofs.Common.{◌≡◌, ◌<◌, inl, inr, ℕ, List, [], length, refl, sym, ◌∙◌, ap, subst}
use Rattle.std.specs.Prelude.{Option}
use Rattle.xdg_base.specs.declared.faults.Fault.{Fault}
use Rattle.xdg_io.proofs.Written.{appends_nothing}
use Rattle.xdg_io.specs.Held.{Appends, AppendsFront}
use Rattle.xdg_text.specs.Lines.{fault_text}
use Rattle.xdg_inputs.specs.Places.{line_column}
use Rattle.xdg_inputs.specs.Refusals.{Stops, Refuses}
use Rattle.xdg_inputs.specs.Runs.{Ends, Leaves, LeavesFront}
use Rattle.xdg_inputs.specs.Stages.{Behind, refused, accepted, Accepts, Rejects}
use Rattle.xdg_inputs.specs.declared.refusals.Refusal.{Refusal}
use Rattle.xdg_inputs.specs.declared.refusals.Refusal.TheVariants as refusals
use Rattle.xdg_inputs.specs.declared.status.Status.{Status}
use Rattle.xdg_inputs.specs.declared.status.Status.TheVariants as statuses

-- ---- one outcome

-- O has this status and this text, and no other
pub record IsOnly (O : Status → List ℕ → Type 0) (status : Status) (text : List ℕ) : Type 0 where
  pub is : O status text
  pub only : (other : Status) (more : List ℕ) → O other more → (status ≡ other) × (text ≡ more)

-- its text was added
pub ends_of : (O : Status → List ℕ → Type 0) (status : Status) (text : List ℕ) (old new : Option (List ℕ)) → IsOnly O status text → Appends old new text → Ends O status old new
ends_of O status text old new one a = record { text = text; outcome = one.is; only = one.only; appends = a }

-- a front of its text was added
pub front_of : (O : Status → List ℕ → Type 0) (status : Status) (text : List ℕ) (old new : Option (List ℕ)) → IsOnly O status text → AppendsFront old new text → (other : Status) (more : List ℕ) → O other more → AppendsFront old new more
front_of O status text old new one a other more b = subst (AppendsFront old new) (one.only other more b).1 a

-- ---- a front for want of memory

-- nothing is a front of each text that isn't empty
nothing_added : (old new : Option (List ℕ)) (text : List ℕ) → new ≡ old → 0 < length text → AppendsFront old new text
nothing_added old new text same some = subst (λ z. AppendsFront old z text) (sym same) (record { front = []; rest = text; parts = refl; proper = some; appends = appends_nothing old })

-- what adds nothing for want of memory adds a front, where no outcome has an empty text
pub leaves_front : (O : Status → List ℕ → Type 0) (result : Status) (old new : Option (List ℕ)) → ((status : Status) (text : List ℕ) → O status text → 0 < length text) → Leaves O result old new → LeavesFront O result old new
leaves_front O statuses.ReadFault old new some e = e
leaves_front O statuses.OutOfMemory old new some e = λ status text o. nothing_added old new text e (some status text o)
leaves_front O statuses.WriteFault old new some e = e
leaves_front O result old new some e = e

-- ---- a step that accepts

module _ (A : Type 0) (bad : Status) (Refused : List ℕ → Fault → Type 0) (Has : A → Type 0) (next : A → Status → List ℕ → Type 0) where
  O : Status → List ℕ → Type 0
  O = Behind A bad Refused Has next

  pub past : (a : A) (status : Status) (line : List ℕ) → Accepts A Refused Has a → Behind A bad Refused Has next status line → next a status line
  past a status line k (refused text f r s l) = absurd (k.never text f r)
  past a status line k (accepted b h n) = subst (λ z. next z status line) (k.one b h) n

  pub accepted_ends : (a : A) (result : Status) (old new : Option (List ℕ)) → Accepts A Refused Has a → Ends (next a) result old new → Ends (Behind A bad Refused Has next) result old new
  accepted_ends a result old new k e = record { text = e.text; outcome = accepted a k.has e.outcome; only = λ other more o. e.only other more (past a other more k o); appends = e.appends }

  -- what comes next leaves what the step leaves
  pub accepted_leaves : (a : A) (result : Status) (old new : Option (List ℕ)) → Accepts A Refused Has a → Leaves (next a) result old new → Leaves (Behind A bad Refused Has next) result old new
  accepted_leaves a statuses.ReadFault old new k e = e
  accepted_leaves a statuses.OutOfMemory old new k e = e
  accepted_leaves a statuses.WriteFault old new k e = λ status text o. e status text (past a status text k o)
  accepted_leaves a result old new k e = accepted_ends a result old new k e

  -- so it does where a front is left for want of memory
  pub accepted_front : (a : A) (result : Status) (old new : Option (List ℕ)) → Accepts A Refused Has a → LeavesFront (next a) result old new → LeavesFront (Behind A bad Refused Has next) result old new
  accepted_front a statuses.ReadFault old new k e = e
  accepted_front a statuses.OutOfMemory old new k e = λ status text o. e status text (past a status text k o)
  accepted_front a statuses.WriteFault old new k e = λ status text o. e status text (past a status text k o)
  accepted_front a result old new k e = accepted_ends a result old new k e

  -- ---- a step that rejects

  only_refused : (text : List ℕ) (f : Fault) → Rejects A Refused Has text f → IsOnly (Behind A bad Refused Has next) bad (fault_text f (line_column text f))
  only_refused text f r = record {
    is = refused text f r.is refl refl;
    only = λ other more o. same other more o;
  }
    where
      same : (other : Status) (more : List ℕ) → Behind A bad Refused Has next other more → (bad ≡ other) × (fault_text f (line_column text f) ≡ more)
      same other more (refused t g q s l) =
          let both = r.one t g q in
          (sym s, ap (λ z. fault_text z (line_column text z)) (sym both.1) ∙ ap (λ z. fault_text g (line_column z g)) (sym both.0) ∙ sym l)
      same other more (accepted b h n) = absurd (r.never b h)

  -- why a step came to nothing is the outcome, unless a device or memory failed; `build` is the identity for a status of refusals
  pub stopped_leaves : (Told : Type 0) (before after : ℕ) (result : Status) (refusal : Refusal) (old new : Option (List ℕ)) → Told → (Ends (Behind A bad Refused Has next) bad old new → Leaves (Behind A bad Refused Has next) bad old new)
      → Stops Told before after A Refused Has refusal → Refuses result bad refusal old new → Leaves (Behind A bad Refused Has next) result old new
  stopped_leaves Told before after result refusals.Read old new told build s r = subst (λ z. Leaves (Behind A bad Refused Has next) z old new) (sym r.0) r.1
  stopped_leaves Told before after result refusals.Memory old new told build s r = subst (λ z. Leaves (Behind A bad Refused Has next) z old new) (sym r.0) r.1
  stopped_leaves Told before after result (refusals.Text f p) old new told build s (inl r) =
      let at = s told in
      subst (λ z. Leaves (Behind A bad Refused Has next) z old new) (sym r.0)
      (build (ends_of (Behind A bad Refused Has next) bad (fault_text f (line_column at.text f)) old new (only_refused at.text f at.rejects) (subst (λ z. Appends old new (fault_text f z)) at.place_is r.1)))
  stopped_leaves Told before after result (refusals.Text f p) old new told build s (inr r) =
      let at = s told in
      subst (λ z. Leaves (Behind A bad Refused Has next) z old new) (sym r.0)
      (front_of (Behind A bad Refused Has next) bad (fault_text f (line_column at.text f)) old new (only_refused at.text f at.rejects) (subst (λ z. AppendsFront old new (fault_text f z)) at.place_is r.1))
