use Rattle.std.proofs.Common.{subst, sym}
use Rattle.xdg_inputs.specs.Runs.{Leaves}
use Rattle.xdg_searches.specs.Outcomes.{ParsedBy}
use Rattle.xdg_searches.proofs.printing.search_asked.Goals as goal

pub returns-then-options-clause-leaves : goal.returns-then-options-clause-leaves
returns-then-options-clause-leaves g c =
    subst (λ z. Leaves (ParsedBy z c.args.options.now c.args.problem.now) c.search_branches.result (g.K.Sink.held c.args.out.now) (g.K.Sink.held c.search_branches.new.out)) (sym c.if-options.true) c.search_branches.ensures.leaves

pub returns-clause-leaves : goal.returns-clause-leaves
returns-clause-leaves g c =
    subst (λ z. Leaves (ParsedBy z c.args.options.now c.args.problem.now) c.search.result (g.K.Sink.held c.args.out.now) (g.K.Sink.held c.search.new.out)) (sym c.if-options.false) c.search.ensures.leaves
