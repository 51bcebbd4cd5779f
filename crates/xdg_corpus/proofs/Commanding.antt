-- What a corpus leaves, from what its steps left.
use Rattle.std.proofs.Common.{◌≡◌, ℕ, List, subst}
use Rattle.std.specs.Prelude.{Option, Some}
use Rattle.xdg_command.specs.declared.commands.CorpusOptions.{CorpusOptions}
use Rattle.xdg_corpus.specs.Inputs.{HasText, IsBadCorpus}
use Rattle.xdg_corpus.specs.Outcomes.{AreSearched, LinesThen}
use Rattle.xdg_inputs.specs.Meanings.{Meaning}
use Rattle.xdg_io.specs.Left.{TakesAll}
use Rattle.xdg_inputs.specs.Refusals.{Refuses, Stops}
use Rattle.xdg_corpus.specs.Runs.{LeavesPart}
use Rattle.xdg_inputs.specs.Stages.{Accepts}
use Rattle.xdg_inputs.specs.declared.refusals.Refusal.{Refusal}
use Rattle.xdg_inputs.specs.declared.status.Status.{Status}
use Rattle.xdg_inputs.specs.declared.status.Status.TheVariants as statuses
use Rattle.xdg_corpus.proofs.Parting.{accepted_part, stopped_part}

module _ (m : Meaning) (options : CorpusOptions) (told new : Option (List ℕ)) (bytes content : List ℕ) (takes : TakesAll told new bytes) (given : told ≡ Some content) where
  same : bytes ≡ content
  same = (subst (λ z. TakesAll z new bytes) given takes).0

  pub lines_leave : (text : List ℕ) (result : Status) (old now : Option (List ℕ)) → Accepts (List ℕ) (IsBadCorpus bytes) (HasText bytes) text → LeavesPart (AreSearched options m text) result old now → LeavesPart (LinesThen options content m) result old now
  lines_leave text result old now accepts leaves =
      subst (λ z. LeavesPart (LinesThen options z m) result old now) same (accepted_part (List ℕ) statuses.BadSentence (IsBadCorpus bytes) (HasText bytes) (AreSearched options m) text result old now accepts leaves)

  pub text_leaves : (result : Status) (refusal : Refusal) (old now : Option (List ℕ)) → Stops (Unit {0}) 0 0 (List ℕ) (IsBadCorpus bytes) (HasText bytes) refusal → Refuses result statuses.BadSentence refusal old now → LeavesPart (LinesThen options content m) result old now
  text_leaves result refusal old now stops written =
      subst (λ z. LeavesPart (LinesThen options z m) result old now) same
      (stopped_part (List ℕ) statuses.BadSentence (IsBadCorpus bytes) (HasText bytes) (AreSearched options m) (Unit {0}) 0 0 result refusal old now tt (λ e. e) stops written)
