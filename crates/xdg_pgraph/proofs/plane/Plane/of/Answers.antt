use Rattle.std.proofs.Common.{◌≡◌, ◌<◌, ◌∙◌, sym, length, get_or, ap, ap₂, arith, rules}
use Rattle.std.specs.Prelude.{cond}
use Rattle.std.proofs.lemmas.List.{get_or_default}
use Rattle.xdg_problem.specs.declared.parts.Principle.{Principle}
use Rattle.xdg_problem.specs.declared.parts.Principle.TheVariants as principles
use Rattle.xdg_problem.specs.Arguments.{no_plan}
use Rattle.xdg_problem.specs.Principles.{dim_arguments}
use Rattle.xdg_problem.proofs.AttrPlaces.{first_dim_within}
use Rattle.xdg_graph.specs.Edges.{plan_labels}
use Rattle.xdg_pgraph.specs.Family.{IsOfFamily}
use Rattle.xdg_pgraph.proofs.PlaneFacts.{plane_is}
use Rattle.xdg_pgraph.proofs.plane.Plane.of.Goals as goal
use Rattle.xdg_pgraph.proofs.plane.Plane.of.Goals.{then-plan, else-plan}

dim_needed : (p : Principle) → IsOfFamily p → 0 < dim_arguments p
dim_needed principles.Graph family = omega arith
dim_needed p family = search (rules, arith)

pub returns-clause-plane : goal.returns-clause-plane
returns-clause-plane c =
    let plan = c.index-as_slice-from.result in
    let within : c.dim_of-dim.result.0 < length c.args.parts.now.dims = (let w = first_dim_within c.args.parts.now c.args.group.now c.requires.group (dim_needed c.args.group.now.principle c.requires.family) in let e = c.dim_of-dim.ensures in omega (arith, w, e)) in
    let plan_is : plan ≡ get_or c.args.parts.now.dims c.dim_of-dim.result.0 no_plan =
    c.index-as_slice-from.is ∙ ap₂ (λ xs k. get_or xs k plan) c.as_slice.ensures c.from.ensures ∙ sym (get_or_default c.args.parts.now.dims c.dim_of-dim.result.0 no_plan plan within) in
    plane_is c.args.parts.now (record { dim = c.dim_of-dim.result; nodes = c.len.result; labels = c.if-plan.labels }) c.requires.problem within c.len.ensures
    (elim c.if-plan.branch [
      | then-plan w ↦ w.labels-is ∙ w.len-labels.ensures ∙ ap (λ b. cond b (length plan.labels) 0) (sym w.if-plan.true)
      | else-plan w ↦ w.labels-is ∙ ap (λ b. cond b (length plan.labels) 0) (sym w.if-plan.false)
    ] ∙ ap plan_labels plan_is)
