-- What `arrange` leaves, from what its steps left.
use Rattle.std.proofs.Common.{◌≡◌, ℕ, List, Ok, Err}
use Rattle.std.specs.Prelude.{Option}
use Rattle.xdg_arrange.specs.Lists.{HasList, IsBadList, Listed}
use Rattle.xdg_arrange.specs.Outcomes.{ListThen}
use Rattle.xdg_arrange.specs.Texts.{AreArranged}
use Rattle.xdg_arrange.proofs.Fronting.{IsSaid, behind_said}
use Rattle.xdg_arrange.proofs.Passing.{arranged_said}
use Rattle.xdg_base.specs.declared.faults.Stop.{Stop}
use Rattle.xdg_command.specs.declared.commands.ArrangeOptions.{ArrangeOptions}
use Rattle.xdg_inputs.specs.Answers.{Tells, meaning_of}
use Rattle.xdg_inputs.specs.Meanings.{Meaning, Means}
use Rattle.xdg_inputs.specs.declared.expanding.Expanded.{Expanded}
use Rattle.xdg_inputs.specs.Grammars.{IsBadGrammar}
use Rattle.xdg_inputs.specs.Outcomes.{MeaningThen}
use Rattle.xdg_inputs.specs.Refusals.{Refuses, refusal_of}
use Rattle.xdg_inputs.specs.Runs.{LeavesFront}
use Rattle.xdg_inputs.specs.GrammarFiles.{ReadText}
use Rattle.xdg_inputs.specs.declared.refusals.Refusal.{Refusal}
use Rattle.xdg_inputs.specs.declared.status.Status.{Status}
use Rattle.xdg_inputs.specs.declared.status.Status.TheVariants as statuses
use Rattle.xdg_inputs.proofs.Leaving.{accepted_front, leaves_front}
use Rattle.xdg_inputs.proofs.Meaning.{Only, meaning_accepted, meaning_refused}

-- ---- no text is empty

list_said : (options : ArrangeOptions) (content : List ℕ) (m : Meaning) → IsSaid (ListThen options content m)
list_said options content m = behind_said Listed statuses.BadSentence (IsBadList m options.segment content) (HasList m options.segment content) (AreArranged options.budget) (λ listed. arranged_said options.budget listed)

pub meaning_said : (read : ReadText) (options : ArrangeOptions) (content : List ℕ) → IsSaid (MeaningThen read (ListThen options content))
meaning_said read options content = behind_said Meaning statuses.BadGrammar (IsBadGrammar read) (Means read.tree) (ListThen options content) (λ m. list_said options content m)

-- ---- a grammar

pub refused_front : (read : ReadText) (options : ArrangeOptions) (content : List ℕ) (result : Status) (text : List ℕ) (stop : Stop) (refusal : Refusal) (old new : Option (List ℕ)) → text ≡ read.text → Tells read.tree (Err stop) → Only read (Err stop) → refusal ≡ refusal_of text stop
    → Refuses result statuses.BadGrammar refusal old new → LeavesFront (MeaningThen read (ListThen options content)) result old new
refused_front read options content result text stop refusal old new e tells only r written =
    leaves_front (MeaningThen read (ListThen options content)) result old new (meaning_said read options content) (meaning_refused read (ListThen options content) result text stop refusal old new e tells only r written)

pub meaning_front : (read : ReadText) (options : ArrangeOptions) (content : List ℕ) (result : Status) (made : Expanded) (old new : Option (List ℕ)) → Tells read.tree (Ok made) → Only read (Ok made) → LeavesFront (ListThen options content (meaning_of made)) result old new
    → LeavesFront (MeaningThen read (ListThen options content)) result old new
meaning_front read options content result made old new tells only leaves =
    accepted_front Meaning statuses.BadGrammar (IsBadGrammar read) (Means read.tree) (ListThen options content) (meaning_of made) result old new (meaning_accepted read made tells only) leaves
