use Rattle.std.proofs.Common.{ap, sym, subst, ◌≡◌, [], false, length}
use Rattle.std.specs.Prelude.{slice_get, None}
use Rattle.xdg_problem.specs.declared.parts.DimPlan.{DimPlan}
use Rattle.xdg_facts.proofs.Lookups.{read_none}
use Rattle.xdg_judge.proofs.reads.label_count_of.Goals as goal

pub returns-in-None-clause-value : goal.returns-in-None-clause-value
returns-in-None-clause-value c =
    sym (ap (λ (plan : DimPlan). length plan.labels)
    (read_none c.args.parts.now.dims c.args.dim (record { name = []; labels = []; attrs = []; graph = false }) (subst (λ i. None ≡ slice_get c.args.parts.now.dims i) c.from.ensures c.in-None.ensures)))
