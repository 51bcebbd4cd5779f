-- What a run answered is told of any listing of the counted prefixes and any of the solutions.
use Rattle.std.proofs.Common.{ℕ, List, length}
use Rattle.std.specs.Prelude.{Option}
use Rattle.xdg_facts.specs.Answered.{Answered}
use Rattle.xdg_facts.specs.declared.Ending.{Ending}
use Rattle.xdg_facts.proofs.Wholes.{whole_unique}
use Rattle.xdg_facts.proofs.Drawing.{ending_of}
use Rattle.xdg_facts.proofs.OneEnding.{ending_unique}
use Rattle.xdg_stream.specs.Outcomes.{IsOutcome}

pub outcome_of : (ending : Ending) (shape : List ℕ) (P : List ℕ → Type 0) (start : List ℕ) (b : ℕ) (wanted : Option ℕ) (answers : List (List ℕ)) → Answered ending shape P start b wanted answers → IsOutcome shape P start b wanted ending answers
outcome_of ending shape P start b wanted answers a = record {
  first = λ counted solutions i j. (ending_of ending shape P start b wanted answers a counted solutions i j).0;
  ends = λ counted solutions i j. (ending_of ending shape P start b wanted answers a counted solutions i j).1;
  only = λ counted solutions i j other m e. ending_unique other ending shape b wanted counted solutions m (length answers) (whole_unique shape P start counted solutions i j) e (ending_of ending shape P start b wanted answers a counted solutions i j).1;
}
