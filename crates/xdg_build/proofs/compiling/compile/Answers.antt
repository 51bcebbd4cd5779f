use Rattle.std.proofs.Common.{◌≡◌, ◌∙◌, All, [], sym, subst, ap}
use Rattle.std.proofs.lemmas.List.{take_all}
use Rattle.xdg_formula.specs.Formulas.{formula_faults}
use Rattle.xdg_formula.specs.Tables.{used_dims}
use Rattle.xdg_formula.specs.declared.tree.Rule.{Rule}
use Rattle.xdg_build.specs.Formulas.{formulas_of}
use Rattle.xdg_build.specs.Says.{KeepsEach}
use Rattle.xdg_build.proofs.Compiled.{keeps_each}
use Rattle.xdg_build.proofs.Rightly.{rules_right}
use Rattle.xdg_build.proofs.compiling.compile.Goals as goal

pub compile_rule-requires-clause-right : goal.compile_rule-requires-clause-right
compile_rule-requires-clause-right c =
    let P : Rule → Type 0 = λ rule. formula_faults (used_dims c.args.types.now) [] rule.body ≡ [] in
    subst P (sym c.rule-item.is) (subst (All P) (sym c.as_slice-rule-items.ensures) (rules_right c.args.types.now c.args.rules.now.rules c.requires.right) c.loop-rule.rule-index c.rule-item.result c.loop-rule-test.true)

pub returns-clause-keeps : goal.returns-clause-keeps
returns-clause-keeps c =
    let made = c.loop-rule.invariant ∙ ap (formulas_of c.args.types.now c.args.packed.now c.args.problem.now) (take_all c.loop-rule.rule-index c.as_slice-rule-items.result.now c.loop-rule-test.false ∙ c.as_slice-rule-items.ensures) in
    subst (KeepsEach c.args.types.now c.args.packed.now c.args.problem.now c.args.rules.now.rules) (sym made)
    (keeps_each c.args.types.now c.args.packed.now c.args.problem.now c.dims.ensures.keeps c.requires.fits c.parts.ensures.kept c.args.rules.now.rules (rules_right c.args.types.now c.args.rules.now.rules c.requires.right))
