use Rattle.std.proofs.Common.{[], subst}
use Rattle.xdg_ast.specs.Lexemes.{lexemes_of}
use Rattle.xdg_best.specs.declared.statements.Open.TheVariants as open_
use Rattle.xdg_best.specs.Turns.{run, Runs}
use Rattle.xdg_best.proofs.Read.{run_tells, run_only}
use Rattle.xdg_best.proofs.reading.statements.Goals as goal

pub returns-clause-tells : goal.returns-clause-tells
returns-clause-tells c =
    run_tells (lexemes_of c.args.tokens.now) c.args.end c.run.result
    (subst (λ tokens. Runs (run c.args.end [] open_.Nothing (lexemes_of tokens)) c.run.result) c.as_slice.ensures c.run.ensures)

pub returns-clause-only : goal.returns-clause-only
returns-clause-only c =
    run_only (lexemes_of c.args.tokens.now) c.args.end c.run.result
    (subst (λ tokens. Runs (run c.args.end [] open_.Nothing (lexemes_of tokens)) c.run.result) c.as_slice.ensures c.run.ensures)
