-- What is printed of arrangements, and the status that goes with it.
use Rattle.std.specs.Prelude.{◌≡◌, ℕ, ◌+◌, List, [], ◌∷◌, ◌++◌}
use Rattle.xdg_build.specs.Compiled.{compiled}
use Rattle.xdg_build.specs.Solutions.{KeepsSolutions}
use Rattle.xdg_build.specs.Grammars.{Grammar}
use Rattle.xdg_linear.specs.Listed.{AreArrangements}
use Rattle.xdg_linear.specs.Ranks.{ranks_of, words_at}
use Rattle.xdg_facts.specs.declared.Ending.{Ending}
use Rattle.xdg_facts.specs.declared.Ending.TheVariants as endings
use Rattle.xdg_inputs.specs.declared.status.Status.{Status}
use Rattle.xdg_inputs.specs.declared.status.Status.TheVariants as statuses
use Rattle.xdg_problem.specs.declared.analysis.Analysis.{Analysis}
use Rattle.xdg_problem.specs.declared.parts.SentenceWord.{SentenceWord}
use Rattle.xdg_text.specs.Lines.{complete_line, spent_line}
use Rattle.xdg_arrange.specs.Found.{Finds, arrangement_line, led_blocks}
use Rattle.xdg_arrange.specs.Lists.{Listed}

-- how many arrangements are printed with one more, of which these analyses were found
abbrev pub with_printed : ℕ → List Analysis → ℕ
with_printed number [] = number
with_printed number (analysis ∷ more) = number + 1

-- what stands behind an arrangement whose search ended so: what is printed of the next ones, or, where the budget was spent, the last line
abbrev pub Follows : Ending → ℕ → (Status → List ℕ → Type 0) → Status → List ℕ → Type 0
Follows endings.Complete number Next status text = Next status text
Follows endings.First number Next status text = ⊥
Follows endings.Spent number Next status text = (status ≡ statuses.Spent) × (text ≡ spent_line number)

-- What is printed of an arrangement, before which so many were printed, and of those behind it. It is searched as a sentence, with the
-- whole budget, and its analyses are those of the grammar.
pub record FirstArranged (budget : ℕ) (g : Grammar) (words : List SentenceWord) (number : ℕ) (Next : ℕ → Status → List ℕ → Type 0) (status : Status)
    (text : List ℕ) : Type 0 where
  pub keeps : KeepsSolutions g words (compiled g words)
  pub ending : Ending
  pub analyses : List Analysis
  pub finds : Finds ending budget (compiled g words) analyses
  pub later : List ℕ
  pub follows : Follows ending (with_printed number analyses) (Next (with_printed number analyses)) status later
  pub text_is : text ≡ led_blocks (arrangement_line (number + 1) words) (compiled g words) analyses ++ later

-- what is printed of arrangements, each given by its ranks, before which so many were printed
abbrev pub Arranges : ℕ → Listed → ℕ → List (List ℕ) → Status → List ℕ → Type 0
Arranges budget listed number [] status text = (status ≡ statuses.Done) × (text ≡ complete_line number)
Arranges budget listed number (ranks ∷ more) status text =
    FirstArranged budget listed.grammar (words_at listed.words ranks) number (λ n. Arranges budget listed n more) status text

-- what is printed of all arrangements of words, in rising order of their ranks and each once
pub record AreArranged (budget : ℕ) (listed : Listed) (status : Status) (text : List ℕ) : Type 0 where
  pub all : List (List ℕ)
  pub all_are : AreArrangements (ranks_of listed.words) all
  pub arranges : Arranges budget listed 0 all status text
