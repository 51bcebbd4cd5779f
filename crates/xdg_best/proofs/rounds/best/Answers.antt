use Rattle.std.proofs.Common.{true, false}
use Rattle.xdg_best.specs.declared.searching.Round.TheVariants as rounds
use Rattle.xdg_best.proofs.Going.{answer_none, answer_used, bound_laws, going_on, round_as}
use Rattle.xdg_best.proofs.OneAnswer.{one_answer}
use Rattle.xdg_best.proofs.rounds.best.Goals as goal

pub returns-in_err-analysis-clause-one : goal.returns-in_err-analysis-clause-one
returns-in_err-analysis-clause-one g c = one_answer c.args.problem.now c.args.costs.now c.parts-parts.ensures.kept (bound_laws c.args.problem.now c.args.costs.now c.parts-parts.ensures.kept) c.args.budget

pub rounds-preserved : goal.rounds-preserved
rounds-preserved g c =
    going_on c.args.problem.now c.args.costs.now c.args.budget (bound_laws c.args.problem.now c.args.costs.now c.parts-parts.ensures.kept) c.rounds.found c.rounds.cost c.rounds.left c.rounds.invariant c.in-Found.analysis c.in-Found.charged
    (round_as c.args.problem.now c.args.costs.now _ c.rounds.found c.rounds.left _ (rounds.Found c.in-Found.analysis c.in-Found.charged) c.as_ref.ensures.value c.in-Found.is c.in_ok-analysis.ensures) _ c.cost_of-cost.ensures

pub returns-in-End-clause-answers : goal.returns-in-End-clause-answers
returns-in-End-clause-answers g c =
    answer_none c.args.problem.now c.args.costs.now c.args.budget c.parts-parts.ensures.kept (bound_laws c.args.problem.now c.args.costs.now c.parts-parts.ensures.kept) c.rounds.found c.rounds.cost c.rounds.left c.rounds.invariant false c.rounds-test.true
    (round_as c.args.problem.now c.args.costs.now _ c.rounds.found c.rounds.left _ rounds.End c.as_ref.ensures.value c.in-End.is c.in_ok-analysis.ensures)

pub returns-in-End-clause-one : goal.returns-in-End-clause-one
returns-in-End-clause-one g c = one_answer c.args.problem.now c.args.costs.now c.parts-parts.ensures.kept (bound_laws c.args.problem.now c.args.costs.now c.parts-parts.ensures.kept) c.args.budget

pub returns-in-Spent-clause-answers : goal.returns-in-Spent-clause-answers
returns-in-Spent-clause-answers g c =
    answer_none c.args.problem.now c.args.costs.now c.args.budget c.parts-parts.ensures.kept (bound_laws c.args.problem.now c.args.costs.now c.parts-parts.ensures.kept) c.rounds.found c.rounds.cost c.rounds.left c.rounds.invariant true c.rounds-test.true
    (round_as c.args.problem.now c.args.costs.now _ c.rounds.found c.rounds.left _ rounds.Spent c.as_ref.ensures.value c.in-Spent.is c.in_ok-analysis.ensures)

pub returns-in-Spent-clause-one : goal.returns-in-Spent-clause-one
returns-in-Spent-clause-one g c = one_answer c.args.problem.now c.args.costs.now c.parts-parts.ensures.kept (bound_laws c.args.problem.now c.args.costs.now c.parts-parts.ensures.kept) c.args.budget

pub returns-clause-answers : goal.returns-clause-answers
returns-clause-answers g c =
    answer_used c.args.problem.now c.args.costs.now c.args.budget c.parts-parts.ensures.kept (bound_laws c.args.problem.now c.args.costs.now c.parts-parts.ensures.kept) c.rounds.found c.rounds.cost c.rounds.left c.rounds.invariant c.rounds-test.false

pub returns-clause-one : goal.returns-clause-one
returns-clause-one g c = one_answer c.args.problem.now c.args.costs.now c.parts-parts.ensures.kept (bound_laws c.args.problem.now c.args.costs.now c.parts-parts.ensures.kept) c.args.budget
