-- Jobs may be lent to threads: what they hold says the same to each. The search that shows so of other types breaks off at types that
-- hold formulas, which hold formulas themselves; so it goes from type to type here.
use denote.RattleType.{RattleType}
use denote.Param.Send.{IsSync, sendable, view_sync}
use denote.Param.SendFields.{as_row_sync, declared_sync, variants_sync}
use Rattle.std.proofs.Crossing.{crosses}
use Rattle.std.proofs.option.Option.TheSendSync as option
use Rattle.xdg_base.proofs.ids.AttrId.TheSendSync as attr_id
use Rattle.xdg_base.proofs.ids.DimId.TheSendSync as dim_id
use Rattle.xdg_base.proofs.ids.EntryNo.TheSendSync as entry_no
use Rattle.xdg_base.proofs.ids.LabelId.TheSendSync as label_id
use Rattle.xdg_base.proofs.lists.List.TheSendSync as list
use Rattle.xdg_problem.proofs.costs.Costs.TheSendSync as costs_shared
use Rattle.xdg_problem.proofs.formula.Formula.TheLaws.TheKnot as knot
use Rattle.xdg_problem.proofs.parts.DimPlan.TheSendSync as dim_plan
use Rattle.xdg_problem.proofs.parts.Feat.TheSendSync as feat
use Rattle.xdg_problem.proofs.parts.SentenceWord.TheSendSync as word
use Rattle.xdg_problem.proofs.shared.SharedList.TheSendSync as shared
use Rattle.xdg_problem.specs.contracts.formula.Formula as formula
use Rattle.xdg_problem.specs.contracts.parts.Group as group
use Rattle.xdg_problem.specs.contracts.parts.Parts as parts
use Rattle.xdg_problem.specs.contracts.parts.Principle as principle
use Rattle.xdg_problem.specs.contracts.problem.Problem as problem
use Rattle.xdg_problem.specs.contracts.problem.Problem.TheInside as problem_inside
use Rattle.xdg_propcore.specs.declared.propagator.Propagator.{Ghosts}
use Rattle.xdg_split.specs.contracts.job.Job as job
use Rattle.xdg_split.specs.contracts.job.Job.TheInside as job_inside

ruleset leaves = (
  attr_id.the_sync,
  dim_id.the_sync,
  label_id.the_sync,
  entry_no.the_sync,
  entry_no.the_send,
  list.the_sync,
  list.the_send,
  shared.the_sync,
  feat.the_sync,
  feat.the_send,
  option.the_sync,
  as_row_sync,
  sendable,
)

formula_sync : IsSync formula.the_row
formula_sync = search (crosses, knot.crosses, sendable) depth 60 fits 20000

principle_sync : IsSync principle.the_row
principle_sync = variants_sync principle.enum (search (formula_sync, costs_shared.the_sync, sendable) depth 40 fits 20000)

group_sync : IsSync group.the_row
group_sync =
    declared_sync group.the_type
    (principle_sync, (search leaves depth 30 fits 20000, (search leaves depth 30 fits 20000, (search leaves depth 30 fits 20000, (search leaves depth 30 fits 20000, (search leaves depth 30 fits 20000, tt))))))

parts_sync : IsSync parts.the_row
parts_sync = search (group_sync, word.the_sync, dim_plan.the_sync, dim_plan.the_send, entry_no.the_sync, entry_no.the_send, list.the_sync, shared.the_sync, crosses, sendable) depth 60 fits 20000

problem_sync : IsSync problem.the_row
problem_sync = view_sync problem_inside.the_row _ _ _ _ (declared_sync problem_inside.the_type (parts_sync, tt))

pub job_sync : (P : RattleType) (ghosts : Ghosts P.Denot) → IsSync P → IsSync (job.the_row P ghosts)
job_sync P ghosts shareable =
    view_sync (job_inside.the_row P ghosts) _ _ _ _
    (declared_sync (job_inside.the_type P ghosts) (as_row_sync problem.the_field problem_sync, (search leaves depth 30 fits 20000, (search sendable depth 10, (search leaves depth 30 fits 20000, tt)))))
