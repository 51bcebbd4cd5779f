-- What a tree means: accepted or rejected.
use Rattle.std.proofs.Common.{◌≡◌, ℕ, List, Ok, Err, refl, sym, ◌∙◌, ap, subst}
use Rattle.std.specs.Prelude.{Option, Result}
use Rattle.xdg_base.specs.declared.faults.Fault.{Fault}
use Rattle.xdg_base.specs.declared.faults.Stop.{Stop}
use Rattle.xdg_base.specs.declared.faults.Stop.TheVariants as stops
use Rattle.xdg_base.specs.Told.{Gives, answer_of}
use Rattle.xdg_base.proofs.Told.{same_value, same_error, no_error, no_value}
use Rattle.xdg_inputs.specs.Answers.{IsAnswer, Tells, meaning_of}
use Rattle.xdg_inputs.specs.Meanings.{Meaning, Means}
use Rattle.xdg_inputs.specs.declared.expanding.Expanded.{Expanded}
use Rattle.xdg_inputs.specs.Grammars.{IsBadGrammar}
use Rattle.xdg_inputs.specs.Refusals.{Stops, refusal_of, Refuses}
use Rattle.xdg_inputs.specs.Stages.{Accepts}
use Rattle.xdg_inputs.specs.GrammarFiles.{ReadText}
use Rattle.xdg_inputs.specs.Outcomes.{MeaningThen}
use Rattle.xdg_inputs.specs.Runs.{Leaves}
use Rattle.xdg_inputs.specs.declared.refusals.Refusal.{Refusal}
use Rattle.xdg_inputs.specs.declared.status.Status.{Status}
use Rattle.xdg_inputs.specs.declared.status.Status.TheVariants as statuses
use Rattle.xdg_inputs.proofs.Leaving.{accepted_leaves, stopped_leaves}

-- what `expand_tree` says of its answer
abbrev pub Only : ReadText → Result Expanded Stop → Type 0
Only read result = (answer : Result Meaning Fault) → IsAnswer read.tree answer → Gives answer (answer_of meaning_of result)

pub meaning_accepted : (read : ReadText) (made : Expanded) → Tells read.tree (Ok made) → Only read (Ok made) → Accepts Meaning (IsBadGrammar read) (Means read.tree) (meaning_of made)
meaning_accepted read made tells only = record { has = tells; one = λ b h. same_value b (meaning_of made) (only (Ok b) h); never = λ text f o. no_value (meaning_of made) f (only (Err f) o.1) }

pub meaning_stops : (read : ReadText) (stop : Stop) → Tells read.tree (Err stop) → Only read (Err stop) → Stops (Unit {0}) 0 0 Meaning (IsBadGrammar read) (Means read.tree) (refusal_of read.text stop)
meaning_stops read (stops.Fault f) tells only = λ told. record {
  text = read.text;
  rejects = record { is = (refl, tells); one = λ text g o. (o.0, same_error g f (only (Err g) o.1)); never = λ b h. no_error b f (only (Ok b) h) };
  place_is = refl;
}
meaning_stops read stops.OutOfMemory tells only = tt

-- a refused grammar leaves what the step leaves
pub meaning_refused : (read : ReadText) (next : Meaning → Status → List ℕ → Type 0) (result : Status) (text : List ℕ) (stop : Stop) (refusal : Refusal) (old new : Option (List ℕ)) → text ≡ read.text → Tells read.tree (Err stop) → Only read (Err stop) → refusal ≡ refusal_of text stop
    → Refuses result statuses.BadGrammar refusal old new → Leaves (MeaningThen read next) result old new
meaning_refused read next result text stop refusal old new e tells only r written =
    stopped_leaves Meaning statuses.BadGrammar (IsBadGrammar read) (Means read.tree) next (Unit {0}) 0 0 result refusal old new tt (λ z. z)
    (subst (Stops (Unit {0}) 0 0 Meaning (IsBadGrammar read) (Means read.tree)) (sym (r ∙ ap (λ z. refusal_of z stop) e)) (meaning_stops read stop tells only)) written

-- and what comes behind its meaning
pub meaning_leaves : (read : ReadText) (next : Meaning → Status → List ℕ → Type 0) (result : Status) (made : Expanded) (old new : Option (List ℕ)) → Tells read.tree (Ok made) → Only read (Ok made) → Leaves (next (meaning_of made)) result old new → Leaves (MeaningThen read next) result old new
meaning_leaves read next result made old new tells only leaves =
    accepted_leaves Meaning statuses.BadGrammar (IsBadGrammar read) (Means read.tree) next (meaning_of made) result old new (meaning_accepted read made tells only) leaves
