use Rattle.std.proofs.Common.{◌≡◌, ◌∙◌, true, false, ap, sym, subst}
use Rattle.xdg_formula.specs.Answers.{Offends}
use Rattle.xdg_build.specs.Formulas.{formulas_of}
use Rattle.xdg_build.specs.Problems.{IsFor}
use Rattle.xdg_build.specs.Says.{KeepsEach}
use Rattle.xdg_inputs.specs.Answers.{grammar_in}
use Rattle.xdg_types.specs.Table.{Table}
use Rattle.xdg_inputs.proofs.Ruling.{each_suits, made_for, made_keeps, made_ruled, none_keeps, none_ruled}
use Rattle.xdg_inputs.proofs.adding.add_rules.Goals as goal

pub compile-requires-clause-right : goal.compile-requires-clause-right
compile-requires-clause-right c f offends = c.requires.right f (subst (λ (t : Table). Offends t c.args.rules.now.rules f) c.types.ensures.same offends)

pub compile-requires-clause-fits : goal.compile-requires-clause-fits
compile-requires-clause-fits c =
    subst (λ (t : Table). IsFor t c.args.expanded.now.lexicon c.args.problem) (sym c.types.ensures.same) (made_for c.args.expanded.now c.args.problem c.requires.lexicon c.requires.made)

pub with_rules-requires : goal.with_rules-requires
with_rules-requires c =
    each_suits (grammar_in c.args.expanded.now) c.args.problem c.args.rules.now.rules c.in_ok-formulas.formulas
    (subst (λ (t : Table). KeepsEach t c.args.expanded.now.lexicon c.args.problem c.args.rules.now.rules c.in_ok-formulas.formulas) c.types.ensures.same c.in_ok-formulas.ensures.keeps)

pub returns-then-is_empty-clause-ruled : goal.returns-then-is_empty-clause-ruled
returns-then-is_empty-clause-ruled c = none_ruled (grammar_in c.args.expanded.now) c.args.rules.now.rules c.args.problem (c.is_empty.ensures.0 c.if-is_empty.true)

pub returns-then-is_empty-clause-keeps : goal.returns-then-is_empty-clause-keeps
returns-then-is_empty-clause-keeps c = none_keeps (grammar_in c.args.expanded.now) c.args.rules.now.rules c.args.problem (c.is_empty.ensures.0 c.if-is_empty.true)

pub returns-clause-ruled : goal.returns-clause-ruled
returns-clause-ruled c =
    made_ruled (grammar_in c.args.expanded.now) c.args.rules.now.rules c.args.problem c.in_ok-formulas.formulas c.with_rules.result
    (λ none. let e : false ≡ true = sym c.if-is_empty.false ∙ c.is_empty.ensures.1 none in cc)
    (c.in_ok-formulas.ensures.is ∙ ap (λ (t : Table). formulas_of t c.args.expanded.now.lexicon c.args.problem c.args.rules.now.rules) c.types.ensures.same) c.with_rules.ensures

pub returns-clause-keeps : goal.returns-clause-keeps
returns-clause-keeps c =
    made_keeps (grammar_in c.args.expanded.now) c.args.rules.now.rules c.args.problem c.in_ok-formulas.formulas c.with_rules.result c.parts-parts.ensures.kept
    (subst (λ (t : Table). KeepsEach t c.args.expanded.now.lexicon c.args.problem c.args.rules.now.rules c.in_ok-formulas.formulas) c.types.ensures.same c.in_ok-formulas.ensures.keeps) c.with_rules.ensures
