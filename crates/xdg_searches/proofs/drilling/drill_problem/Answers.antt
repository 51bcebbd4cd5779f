use Rattle.std.proofs.Common.{◌∙◌, ap, length, sym}
use Rattle.xdg_inputs.specs.Answers.{meaning_of}
use Rattle.xdg_searches.proofs.Drilled.{drilled_ends, drilled_front}
use Rattle.xdg_searches.proofs.SearchLeaves.{ends_so, no_fault}
use Rattle.xdg_searches.proofs.drilling.drill_problem.Goals as goal
use Rattle.xdg_facts.proofs.Options.{done_of, failed_of}

pub returns-then-is_err-clause-leaves : goal.returns-then-is_err-clause-leaves
returns-then-is_err-clause-leaves g c =
    drilled_front c.args.number (meaning_of c.args.expanded.now) c.args.problem.now c.len-words.result c.len.result c.in-Ok-count_judged.counts
    (c.len-words.ensures ∙ ap (λ p. length p.words) c.parts.ensures.same) c.len.ensures.len c.in-Ok-count_judged.ensures.counts c.count_judged.ensures.one _ _
    (failed_of c.write_counts-written.result _ (sym c.is_err.ensures.value ∙ c.if-is_err.true) c.write_counts-written.ensures.front)

pub returns-clause-leaves : goal.returns-clause-leaves
returns-clause-leaves g c =
    drilled_ends c.args.number (meaning_of c.args.expanded.now) c.args.problem.now c.len-words.result c.len.result c.in-Ok-count_judged.counts
    (c.len-words.ensures ∙ ap (λ p. length p.words) c.parts.ensures.same) c.len.ensures.len c.in-Ok-count_judged.ensures.counts c.count_judged.ensures.one c.status_of.result _ _ c.status_of.ensures.is
    (done_of c.write_counts-written.result _ (sym c.is_err.ensures.value ∙ c.if-is_err.false) c.write_counts-written.ensures.all)

pub returns-clause-write_fault : goal.returns-clause-write_fault
returns-clause-write_fault g c = no_fault c.status_of.result _ _ c.status_of.ensures.ends

pub returns-clause-ends : goal.returns-clause-ends
returns-clause-ends g c = ends_so c.status_of.result c.status_of.ensures.ends

pub returns-clause-out_quiet : goal.returns-clause-out_quiet
returns-clause-out_quiet g c differs = done_of c.write_counts-written.result _ (sym c.is_err.ensures.value ∙ c.if-is_err.false) c.write_counts-written.ensures.quiet
