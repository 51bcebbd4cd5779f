use Rattle.std.proofs.Common.{◌≡◌, take}
use Rattle.xdg_ast.specs.Lexemes.{lexemes_of}
use Rattle.xdg_formula.specs.Words.{seen_all}
use Rattle.xdg_formula.proofs.words.seen_all.Given as goal

abbrev pub invariant-loop-token : goal.invariant-loop-token
invariant-loop-token l = lexemes_of l.seen ≡ seen_all (lexemes_of (take l.token-index l.tokens))
