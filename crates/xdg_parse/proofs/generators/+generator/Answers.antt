use Rattle.std.proofs.Common.{rules}
use Rattle.xdg_ast.specs.Grammar.{gen}
use Rattle.xdg_parse.proofs.generators.+generator.Goals as goal

pub generator-returns-in_err-members : goal.generator-returns-in_err-members
unfolding gen
generator-returns-in_err-members t c = search rules

pub generator-returns : goal.generator-returns
unfolding gen
generator-returns t c = search rules
