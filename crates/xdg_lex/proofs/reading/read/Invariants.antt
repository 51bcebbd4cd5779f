use Rattle.std.specs.Str.Iter.{chars_rest}
use Rattle.xdg_ast.specs.Lexemes.{lexemes_of}
use Rattle.xdg_lex.proofs.Steps.{IsRead}
use Rattle.xdg_lex.proofs.reading.read.Given as goal

abbrev pub invariant-loop-c : goal.invariant-loop-c
invariant-loop-c l = IsRead l.fn.text (lexemes_of l.tokens) l.start l.at l.left l.mode (chars_rest l.c-iterator)
