-- What a run leaves, part or all of its text, from what its steps left.
use Rattle.std.proofs.Common.{◌≡◌, ℕ, List, [], Ok, Err, refl, sym, subst}
use Rattle.std.specs.Prelude.{Option}
use Rattle.xdg_base.specs.declared.faults.Fault.{Fault}
use Rattle.xdg_base.specs.declared.faults.Stop.{Stop}
use Rattle.xdg_corpus.specs.Runs.{LeavesPart}
use Rattle.xdg_inputs.specs.Answers.{Tells, meaning_of}
use Rattle.xdg_inputs.specs.Meanings.{Meaning, Means}
use Rattle.xdg_inputs.specs.declared.expanding.Expanded.{Expanded}
use Rattle.xdg_io.specs.Held.{Appends, WrittenSoFar}
use Rattle.xdg_io.proofs.Written.{appends_nothing}
use Rattle.xdg_inputs.specs.Grammars.{IsBadGrammar}
use Rattle.xdg_inputs.specs.Outcomes.{MeaningThen}
use Rattle.xdg_inputs.specs.Refusals.{Refuses, Stops, refusal_of}
use Rattle.xdg_inputs.specs.Runs.{Ends, Leaves}
use Rattle.xdg_inputs.specs.Stages.{Accepts, Behind}
use Rattle.xdg_inputs.specs.GrammarFiles.{ReadText}
use Rattle.xdg_inputs.specs.declared.refusals.Refusal.{Refusal}
use Rattle.xdg_inputs.specs.declared.status.Status.{Status}
use Rattle.xdg_inputs.specs.declared.status.Status.TheVariants as statuses
use Rattle.xdg_inputs.proofs.Leaving.{accepted_ends, past, stopped_leaves}
use Rattle.xdg_inputs.proofs.Meaning.{Only, meaning_accepted, meaning_refused}

-- where nothing was added, all is left
nothing_added : (old new : Option (List ℕ)) (text : List ℕ) → new ≡ old → (rest : List ℕ) × WrittenSoFar old new text rest
nothing_added old new text same = (text, record { front = []; parts = refl; appends = subst (λ z. Appends old z []) (sym same) (appends_nothing old) })

-- what adds nothing for want of memory leaves all
pub leaves_part : (O : Status → List ℕ → Type 0) (result : Status) (old new : Option (List ℕ)) → Leaves O result old new → LeavesPart O result old new
leaves_part O statuses.ReadFault old new e = e
leaves_part O statuses.OutOfMemory old new e = λ status text o. nothing_added old new text e
leaves_part O statuses.WriteFault old new e = e
leaves_part O result old new e = e

pub memory_part : (O : Status → List ℕ → Type 0) (held : Option (List ℕ)) → LeavesPart O statuses.OutOfMemory held held
memory_part O held = λ status text o. nothing_added held held text refl

-- ---- a step

module _ (A : Type 0) (bad : Status) (Refused : List ℕ → Fault → Type 0) (Has : A → Type 0) (next : A → Status → List ℕ → Type 0) where
  -- what comes next leaves what the step leaves
  pub accepted_part : (a : A) (result : Status) (old new : Option (List ℕ)) → Accepts A Refused Has a → LeavesPart (next a) result old new → LeavesPart (Behind A bad Refused Has next) result old new
  accepted_part a statuses.ReadFault old new k e = e
  accepted_part a statuses.OutOfMemory old new k e = λ status text o. e status text (past A bad Refused Has next a status text k o)
  accepted_part a statuses.WriteFault old new k e = λ status text o. e status text (past A bad Refused Has next a status text k o)
  accepted_part a result old new k e = accepted_ends A bad Refused Has next a result old new k e

  -- why a step came to nothing, as `stopped_leaves` says it
  pub stopped_part : (Told : Type 0) (before after : ℕ) (result : Status) (refusal : Refusal) (old new : Option (List ℕ)) → Told → (Ends (Behind A bad Refused Has next) bad old new → Leaves (Behind A bad Refused Has next) bad old new)
      → Stops Told before after A Refused Has refusal → Refuses result bad refusal old new → LeavesPart (Behind A bad Refused Has next) result old new
  stopped_part Told before after result refusal old new told build s r =
      leaves_part (Behind A bad Refused Has next) result old new (stopped_leaves A bad Refused Has next Told before after result refusal old new told build s r)

-- ---- a grammar

pub refused_part : (read : ReadText) (next : Meaning → Status → List ℕ → Type 0) (result : Status) (text : List ℕ) (stop : Stop) (refusal : Refusal) (old new : Option (List ℕ)) → text ≡ read.text → Tells read.tree (Err stop) → Only read (Err stop) → refusal ≡ refusal_of text stop
    → Refuses result statuses.BadGrammar refusal old new → LeavesPart (MeaningThen read next) result old new
refused_part read next result text stop refusal old new e tells only r written =
    leaves_part (MeaningThen read next) result old new (meaning_refused read next result text stop refusal old new e tells only r written)

pub meaning_part : (read : ReadText) (next : Meaning → Status → List ℕ → Type 0) (result : Status) (made : Expanded) (old new : Option (List ℕ)) → Tells read.tree (Ok made) → Only read (Ok made) → LeavesPart (next (meaning_of made)) result old new
    → LeavesPart (MeaningThen read next) result old new
meaning_part read next result made old new tells only leaves =
    accepted_part Meaning statuses.BadGrammar (IsBadGrammar read) (Means read.tree) next (meaning_of made) result old new (meaning_accepted read made tells only) leaves
