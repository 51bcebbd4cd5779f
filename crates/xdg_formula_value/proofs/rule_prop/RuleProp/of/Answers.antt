use Rattle.std.proofs.Common.{◌∙◌, length, refl, sym, ap, subst, arith}
use Rattle.xdg_problem.specs.declared.parts.Group.{Group}
use Rattle.xdg_problem.specs.declared.parts.Parts.{Parts}
use Rattle.xdg_problem.specs.Problems.{IsGroup, IsProblem}
use Rattle.xdg_propcore.specs.Uses.{no_use}
use Rattle.xdg_formula_value.specs.Standing.{HasKindsOf, IsRule}
use Rattle.xdg_propcore.proofs.Stepping.{use_found}
use Rattle.xdg_formula_value.proofs.rule_prop.RuleProp.of.Goals as goal

pub bounds-as_slice-group : goal.bounds-as_slice-group
bounds-as_slice-group c = (let l = c.requires.within in let e = ap length (c.as_slice.ensures ∙ ap (λ (p : Parts). p.groups) c.parts-parts.ensures.same) in omega (arith, l, e))

pub wakes_of-requires-clause-problem : goal.wakes_of-requires-clause-problem
wakes_of-requires-clause-problem c = subst IsProblem (sym c.parts-parts.ensures.same) c.parts-parts.ensures.kept

pub wakes_of-requires-clause-group : goal.wakes_of-requires-clause-group
wakes_of-requires-clause-group c =
    let found = use_found c.args.problem.now c.args.group c.as_slice.result.now c.index-as_slice-group.result c.requires.within (c.as_slice.ensures ∙ ap (λ (p : Parts). p.groups) c.parts-parts.ensures.same) c.index-as_slice-group.is in
    subst (λ parts. IsGroup parts c.index-as_slice-group.result) (sym c.parts-parts.ensures.same) (subst (IsGroup c.args.problem.now) found (c.parts-parts.ensures.kept.groups c.args.group no_use c.requires.within))

pub wakes_of-requires-clause-rule : goal.wakes_of-requires-clause-rule
wakes_of-requires-clause-rule c =
    let found = use_found c.args.problem.now c.args.group c.as_slice.result.now c.index-as_slice-group.result c.requires.within (c.as_slice.ensures ∙ ap (λ (p : Parts). p.groups) c.parts-parts.ensures.same) c.index-as_slice-group.is in
    subst (λ (g : Group). IsRule g.principle) found c.requires.rule

pub returns : goal.returns
returns c =
    let found = use_found c.args.problem.now c.args.group c.as_slice.result.now c.index-as_slice-group.result c.requires.within (c.as_slice.ensures ∙ ap (λ (p : Parts). p.groups) c.parts-parts.ensures.same) c.index-as_slice-group.is in
    (c.requires.within, record { number_is = refl; rule = c.requires.rule; kinds = subst (λ (g : Group). HasKindsOf g.principle c.wakes_of.result.0) (sym found) c.wakes_of.ensures })
