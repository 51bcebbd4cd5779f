-- What a search for the cheapest analysis leaves.
use Rattle.std.proofs.Common.{◌≡◌, ◌∙◌, ◌⊎◌, inl, inr, ℕ, Bool, List, refl, sym, ap, subst, Some, None}
use Rattle.std.specs.Prelude.{Option}
use Rattle.xdg_best.specs.declared.rounds.BestAnswer.{BestAnswer}
use Rattle.xdg_best.specs.Best.{IsAnswer, IsOneAnswer, Solves}
use Rattle.xdg_best.specs.Outcomes.{Searched, status_of}
use Rattle.xdg_best.specs.CheapestTexts.{answer_text}
use Rattle.xdg_io.specs.Held.{Appends, AppendsFront}
use Rattle.xdg_io.specs.Rose.{Rose}
use Rattle.xdg_inputs.specs.Runs.{Ends}
use Rattle.xdg_inputs.specs.declared.status.Status.{Status}
use Rattle.xdg_problem.specs.Costs.{CostLists}
use Rattle.xdg_problem.specs.declared.analysis.Analysis.{Analysis}
use Rattle.xdg_problem.specs.declared.parts.Parts.{Parts}
use Rattle.xdg_stream.specs.Streamed.{IsStart}

-- what was found is an analysis of the problem
pub found_fits : (parts : Parts) (found : Option Analysis) → Solves parts found → IsStart parts found
found_fits parts None solves = tt
found_fits parts (Some analysis) solves = solves.fits

module _ (budget : ℕ) (costs : CostLists) (parts : Parts) (answer : BestAnswer) (is : IsAnswer parts costs budget answer) (one : IsOneAnswer parts costs budget) where
  same_text : (status : Status) (text : List ℕ) → Searched budget costs parts status text → (status_of answer.spent ≡ status) × (answer_text parts answer ≡ text)
  same_text status text s =
      let same : answer ≡ s.answer = one answer s.answer is s.is in
      (ap (λ (a : BestAnswer). status_of a.spent) same ∙ sym s.status_is, ap (answer_text parts) same ∙ sym s.text_is)

  -- a search that was printed
  pub answer_ends : (spent : Bool) (old new : Option (List ℕ)) → answer.spent ≡ spent → Appends old new (answer_text parts answer) → Ends (Searched budget costs parts) (status_of spent) old new
  answer_ends spent old new so added =
      let ends : Ends (Searched budget costs parts) (status_of answer.spent) old new = record {
        text = answer_text parts answer;
        outcome = record { answer = answer; is = is; status_is = refl; text_is = refl };
        only = λ other more s. same_text other more s;
        appends = added;
      } in
      subst (λ b. Ends (Searched budget costs parts) (status_of b) old new) so ends

  -- a search whose sink failed
  pub answer_front : (old new : Option (List ℕ)) → AppendsFront old new (answer_text parts answer) → (status : Status) (text : List ℕ) → Searched budget costs parts status text → AppendsFront old new text
  answer_front old new front status text s = subst (AppendsFront old new) (same_text status text s).1 front

-- a read that fails behind one that didn't
pub behind_first : (First Other : Type 0) (old mid new : ℕ) → mid ≡ old → Rose mid new ⊎ Other → First ⊎ (Rose old new ⊎ Other)
behind_first First Other old mid new same (inl rose) = inr (inl (subst (λ z. Rose z new) same rose))
behind_first First Other old mid new same (inr other) = inr (inr other)
