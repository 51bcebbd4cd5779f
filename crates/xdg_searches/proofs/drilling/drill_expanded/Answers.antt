use Rattle.std.proofs.Common.{◌≡◌, ◌∙◌, subst, false}
use Rattle.xdg_searches.specs.Generated.{sentence_text}
use Rattle.xdg_inputs.specs.Answers.{meaning_of}
use Rattle.xdg_problem.specs.declared.parts.Parts.{Parts}
use Rattle.xdg_searches.specs.Outcomes.{Drilled}
use Rattle.xdg_inputs.specs.Refusals.{Stops}
use Rattle.xdg_inputs.specs.Sentences.{HasProblem, IsBadSentence}
use Rattle.xdg_inputs.specs.Stages.{Accepts}
use Rattle.xdg_inputs.specs.declared.status.Status.TheVariants as statuses
use Rattle.xdg_inputs.proofs.Leaving.{accepted_leaves, stopped_leaves}
use Rattle.xdg_searches.specs.Runs.{DrillEnds}
use Rattle.xdg_searches.proofs.Drilled.{step_wrote}
use Rattle.xdg_inputs.proofs.Writing.{searched_wrote}
use Rattle.xdg_searches.proofs.drilling.drill_expanded.Goals as goal

pub returns-in-Ok-problem_in-clause-leaves : goal.returns-in-Ok-problem_in-clause-leaves
returns-in-Ok-problem_in-clause-leaves g c =
    let m = meaning_of c.args.expanded.now in
    let same : c.as_bytes.result.now ≡ sentence_text c.args.number = c.as_bytes.ensures.value ∙ c.as_str.ensures ∙ c.in-Ok.ensures.text in
    accepted_leaves Parts statuses.BadSentence (IsBadSentence m false (sentence_text c.args.number)) (HasProblem m false (sentence_text c.args.number)) (Drilled c.args.number m) c.in-Ok-problem_in.problem c.drill_problem.result _ _
    (subst (λ input. Accepts Parts (IsBadSentence m false input) (HasProblem m false input) c.in-Ok-problem_in.problem) same c.in-Ok-problem_in.ensures.found) c.drill_problem.ensures.leaves

pub returns-clause-leaves : goal.returns-clause-leaves
returns-clause-leaves g c =
    let m = meaning_of c.args.expanded.now in
    let same : c.as_bytes.result.now ≡ sentence_text c.args.number = c.as_bytes.ensures.value ∙ c.as_str.ensures ∙ c.in-Ok.ensures.text in
    stopped_leaves Parts statuses.BadSentence (IsBadSentence m false (sentence_text c.args.number)) (HasProblem m false (sentence_text c.args.number)) (Drilled c.args.number m) (Unit {0}) 0 0 c.refuse.result c.in-Err.refusal _ _
    tt (λ e. e) (subst (λ input. Stops (Unit {0}) 0 0 Parts (IsBadSentence m false input) (HasProblem m false input) c.in-Err.refusal) same c.in-Err.ensures.refused) c.refuse.ensures.written

pub returns-in-Ok-problem_in-clause-wrote : goal.returns-in-Ok-problem_in-clause-wrote
returns-in-Ok-problem_in-clause-wrote g c =
    searched_wrote DrillEnds (Drilled c.args.number (meaning_of c.args.expanded.now) c.in-Ok-problem_in.problem) c.drill_problem.result _ _ _ _ tt tt tt tt c.drill_problem.ensures.ends c.drill_problem.ensures.leaves c.drill_problem.ensures.out_quiet

pub returns-clause-wrote : goal.returns-clause-wrote
returns-clause-wrote g c =
    step_wrote Parts (IsBadSentence (meaning_of c.args.expanded.now) false c.as_bytes.result.now) (HasProblem (meaning_of c.args.expanded.now) false c.as_bytes.result.now) statuses.BadSentence c.refuse.result c.in-Err.refusal _ _ _ _ tt tt
    c.in-Err.ensures.refused c.refuse.ensures.written c.refuse.ensures.quiet
