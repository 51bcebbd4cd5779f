use Rattle.std.proofs.Common.{◌∙◌, sym, true, false}
use Rattle.xdg_best.proofs.Ending.{answer_ends, answer_front, found_fits}
use Rattle.xdg_best.proofs.cheapest.search.Goals as goal
use Rattle.xdg_facts.proofs.Options.{done_of, failed_of}

pub write_answer-written-requires : goal.write_answer-written-requires
write_answer-written-requires g c = found_fits c.args.problem.now c.in-Ok.answer.found c.in-Ok.ensures.answers.solution

pub returns-then-is_err-clause-leaves : goal.returns-then-is_err-clause-leaves
returns-then-is_err-clause-leaves g c =
    answer_front c.args.budget c.args.costs.now c.args.problem.now c.in-Ok.answer c.in-Ok.ensures.answers c.best.ensures.one _ _ (failed_of c.write_answer-written.result _ (sym c.is_err.ensures.value ∙ c.if-is_err.true) c.write_answer-written.ensures.front)

pub returns-then-answer-clause-leaves : goal.returns-then-answer-clause-leaves
returns-then-answer-clause-leaves g c =
    answer_ends c.args.budget c.args.costs.now c.args.problem.now c.in-Ok.answer c.in-Ok.ensures.answers c.best.ensures.one true _ _ c.if-answer.true (done_of c.write_answer-written.result _ (sym c.is_err.ensures.value ∙ c.if-is_err.false) c.write_answer-written.ensures.all)

pub returns-clause-leaves : goal.returns-clause-leaves
returns-clause-leaves g c =
    answer_ends c.args.budget c.args.costs.now c.args.problem.now c.in-Ok.answer c.in-Ok.ensures.answers c.best.ensures.one false _ _ c.if-answer.false (done_of c.write_answer-written.result _ (sym c.is_err.ensures.value ∙ c.if-is_err.false) c.write_answer-written.ensures.all)

pub returns-then-answer-clause-out_quiet : goal.returns-then-answer-clause-out_quiet
returns-then-answer-clause-out_quiet g c differs = done_of c.write_answer-written.result _ (sym c.is_err.ensures.value ∙ c.if-is_err.false) c.write_answer-written.ensures.quiet

pub returns-clause-out_quiet : goal.returns-clause-out_quiet
returns-clause-out_quiet g c differs = done_of c.write_answer-written.result _ (sym c.is_err.ensures.value ∙ c.if-is_err.false) c.write_answer-written.ensures.quiet
