use Rattle.std.proofs.Common.{◌∙◌, ap}
use Rattle.xdg_problem.specs.declared.parts.Parts.{Parts}
use Rattle.xdg_arrange.proofs.Finding.{one_find}
use Rattle.xdg_arrange.proofs.Leading.{led_written}
use Rattle.xdg_arrange.proofs.searching.print_searched.Goals as goal

pub returns-clause-written : goal.returns-clause-written
returns-clause-written g c =
    led_written c.print_found.result c.args.budget c.in-Ok-start.stream.budget c.args.number c.args.problem.now c.as_slice-words.result.now c.as_slice.result.now c.in-Ok.lead.items (g.K.Sink.held c.args.out.now) (g.K.Sink.held c.print_found.new.out) c.in-Ok-start.ensures.given.2
    (c.as_slice-words.ensures ∙ ap (λ (p : Parts). p.words) c.parts.ensures.same) c.as_slice.ensures.value c.in-Ok.ensures c.print_found.ensures.written

pub returns-clause-one : goal.returns-clause-one
returns-clause-one g c = λ differs. one_find c.args.budget c.args.problem.now c.parts.ensures.kept
