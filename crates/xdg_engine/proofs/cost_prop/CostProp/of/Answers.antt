use Rattle.std.proofs.Common.{◌∙◌, get_or, length, refl, ap, subst, arith}
use Rattle.xdg_problem.specs.declared.parts.Group.{Group}
use Rattle.xdg_problem.specs.declared.parts.Parts.{Parts}
use Rattle.xdg_propcore.specs.Uses.{use_at}
use Rattle.xdg_engine.specs.Bounding.{IsBound}
use Rattle.xdg_propcore.proofs.Stepping.{use_found}
use Rattle.xdg_engine.proofs.Swept.{bound_found, rows_hold}
use Rattle.xdg_engine.proofs.cost_prop.CostProp.of.Goals as goal

pub bounds-as_slice-group : goal.bounds-as_slice-group
bounds-as_slice-group c = (let l = c.requires.within in let e = ap length (c.as_slice.ensures ∙ ap (λ (p : Parts). p.groups) c.parts-parts.ensures.same) in omega (arith, l, e))

pub returns-in_ok-entries-in-Bound : goal.returns-in_ok-entries-in-Bound
returns-in_ok-entries-in-Bound c =
    let found = use_found c.args.problem.now c.args.group c.as_slice.result.now c.index-as_slice-group.result c.requires.within (c.as_slice.ensures ∙ ap (λ (p : Parts). p.groups) c.parts-parts.ensures.same) c.index-as_slice-group.is in
    (c.requires.within, record { number_is = refl; holds = rows_hold c.args.problem.now c.parts-parts.result.now (use_at c.args.problem.now c.args.group) (get_or c.as_slice.result.now c.args.group c.index-as_slice-group.result) c.in-Bound.costs c.in-Bound.bound c.in_ok-entries-in-Bound.entries c.label_rows.result (found ∙ c.index-as_slice-group.is) c.in-Bound.is c.in_ok-entries-in-Bound.ensures c.parts-parts.ensures.same c.label_rows.ensures })

pub returns-in_default : goal.returns-in_default
returns-in_default c =
    let found = use_found c.args.problem.now c.args.group c.as_slice.result.now c.index-as_slice-group.result c.requires.within (c.as_slice.ensures ∙ ap (λ (p : Parts). p.groups) c.parts-parts.ensures.same) c.index-as_slice-group.is in
    let bound = bound_found (get_or c.as_slice.result.now c.args.group c.index-as_slice-group.result).principle (subst (λ (g : Group). IsBound g.principle) (found ∙ c.index-as_slice-group.is) c.requires.bound) in
    absurd (c.in_default.not-Bound bound.0 bound.1 bound.2)
