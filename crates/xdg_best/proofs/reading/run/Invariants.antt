use Rattle.std.proofs.Common.{◌≡◌, [], drop}
use Rattle.xdg_best.specs.declared.statements.Open.TheVariants as open_
use Rattle.xdg_best.specs.Turns.{run}
use Rattle.xdg_ast.specs.Lexemes.{lexemes_of}
use Rattle.xdg_best.proofs.reading.run.Given as goal

abbrev pub invariant-loop-token : goal.invariant-loop-token
invariant-loop-token l = run l.fn.end l.made l.so_far (lexemes_of (drop l.token-index l.tokens)) ≡ run l.fn.end [] open_.Nothing (lexemes_of l.tokens)
