use Rattle.std.proofs.Common.{◌∙◌, subst, sym}
use Rattle.xdg_searches.specs.Branched.{IsBranched}
use Rattle.xdg_searches.proofs.Branching.{branched_laws, found_fit, written_all, written_front}
use Rattle.xdg_searches.proofs.branch_printing.print_branches.Goals as goal
use Rattle.xdg_facts.proofs.Options.{done_of, failed_of}

pub print_found-written-requires : goal.print_found-written-requires
print_found-written-requires g c = found_fit c.args.problem.now c.parts-parts.ensures.kept c.args.budget c.args.first c.in-Ok.answer.ending c.as_slice.result.now (subst (IsBranched c.args.budget c.args.first c.args.problem.now c.in-Ok.answer.ending) (sym c.as_slice.ensures.value) c.in-Ok.ensures)

pub returns-in_default-clause-laws : goal.returns-in_default-clause-laws
returns-in_default-clause-laws g c = branched_laws c.args.problem.now c.parts-parts.ensures.kept c.args.budget c.args.first c.args.form

pub returns-then-is_err-clause-written : goal.returns-then-is_err-clause-written
returns-then-is_err-clause-written g c =
    written_front c.args.problem.now c.parts-parts.ensures.kept c.args.budget c.args.first c.args.form c.in-Ok.answer.ending c.as_slice.result.now (g.K.Sink.held c.args.sink.now) (g.K.Sink.held c.print_found-written.new.sink) (subst (IsBranched c.args.budget c.args.first c.args.problem.now c.in-Ok.answer.ending) (sym c.as_slice.ensures.value) c.in-Ok.ensures)
    (failed_of c.print_found-written.result _ (sym c.is_err.ensures.value ∙ c.if-is_err.true) c.print_found-written.ensures.front)

pub returns-then-is_err-clause-laws : goal.returns-then-is_err-clause-laws
returns-then-is_err-clause-laws g c = branched_laws c.args.problem.now c.parts-parts.ensures.kept c.args.budget c.args.first c.args.form

pub returns-clause-written : goal.returns-clause-written
returns-clause-written g c =
    written_all c.args.problem.now c.parts-parts.ensures.kept c.args.budget c.args.first c.args.form c.in-Ok.answer.ending c.as_slice.result.now (g.K.Sink.held c.args.sink.now) (g.K.Sink.held c.print_found-written.new.sink) (subst (IsBranched c.args.budget c.args.first c.args.problem.now c.in-Ok.answer.ending) (sym c.as_slice.ensures.value) c.in-Ok.ensures)
    (done_of c.print_found-written.result _ (sym c.is_err.ensures.value ∙ c.if-is_err.false) c.print_found-written.ensures.all)

pub returns-clause-laws : goal.returns-clause-laws
returns-clause-laws g c = branched_laws c.args.problem.now c.parts-parts.ensures.kept c.args.budget c.args.first c.args.form
