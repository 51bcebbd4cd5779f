use Rattle.xdg_build.proofs.compiling.compile_rule.Goals as goal

pub formula_of-requires-clause-right : goal.formula_of-requires-clause-right
formula_of-requires-clause-right c = (c.args.rule.now.body.span.start, c.requires.right)
