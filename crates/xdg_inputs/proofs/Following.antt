-- What is left behind rules, from what is left with the problem that they make.
use Rattle.std.proofs.Common.{◌≡◌, ℕ, List, subst}
use Rattle.std.specs.Prelude.{Option}
use Rattle.xdg_formula.specs.declared.tree.Rule.{Rule}
use Rattle.xdg_inputs.specs.Answers.{grammar_in, meaning_of}
use Rattle.xdg_inputs.specs.RightLexicons.{HasRightLexicon}
use Rattle.xdg_inputs.specs.declared.expanding.Expanded.{Expanded}
use Rattle.xdg_build.specs.Grammars.{Grammar}
use Rattle.xdg_inputs.proofs.Wording.{grammar_is}
use Rattle.xdg_inputs.specs.Runs.{Ends, Leaves}
use Rattle.xdg_inputs.specs.declared.status.Status.{Status}
use Rattle.xdg_inputs.specs.declared.status.Status.TheVariants as statuses
use Rattle.xdg_problem.specs.declared.parts.Parts.{Parts}
use Rattle.xdg_inputs.specs.RuledSteps.{WithRules}
use Rattle.xdg_inputs.specs.Ruled.{KeepsRules, ruled}

module _ (made : Expanded) (right : HasRightLexicon made) (rules : List Rule) (parts : Parts) (next : Parts → Status → List ℕ → Type 0) where
  -- what came next goes by this problem
  past : (status : Status) (text : List ℕ) → WithRules (meaning_of made) rules parts next status text → next (ruled (grammar_in made) rules parts) status text
  past status text w = subst (λ (g : Grammar). next (ruled g rules parts) status text) (grammar_is made w.dim w.field right w.place) w.follows

  ended : (result : Status) (old new : Option (List ℕ)) → KeepsRules (grammar_in made) rules parts (ruled (grammar_in made) rules parts) → Ends (next (ruled (grammar_in made) rules parts)) result old new
      → Ends (WithRules (meaning_of made) rules parts next) result old new
  ended result old new keeps e = record {
    text = e.text;
    outcome = record {
      dim = made.lexicon.dim;
      field = made.lexicon.field;
      place = right.placed.place;
      keeps = keeps;
      follows = e.outcome;
    };
    only = λ other more o. e.only other more (past other more o);
    appends = e.appends;
  }

  problem_leaves : (result : Status) (old new : Option (List ℕ)) → KeepsRules (grammar_in made) rules parts (ruled (grammar_in made) rules parts) → Leaves (next (ruled (grammar_in made) rules parts)) result old new
      → Leaves (WithRules (meaning_of made) rules parts next) result old new
  problem_leaves statuses.ReadFault old new keeps e = e
  problem_leaves statuses.OutOfMemory old new keeps e = e
  problem_leaves statuses.WriteFault old new keeps e = λ status text o. e status text (past status text o)
  problem_leaves result old new keeps e = ended result old new keeps e

  -- the problem that was made leaves what comes behind the rules
  pub ruled_leaves : (problem : Parts) (result : Status) (old new : Option (List ℕ)) → problem ≡ ruled (grammar_in made) rules parts → KeepsRules (grammar_in made) rules parts problem → Leaves (next problem) result old new
      → Leaves (WithRules (meaning_of made) rules parts next) result old new
  ruled_leaves problem result old new is keeps leaves =
      problem_leaves result old new (subst (KeepsRules (grammar_in made) rules parts) is keeps) (subst (λ (z : Parts). Leaves (next z) result old new) is leaves)
