use Rattle.std.specs.String.{string_bytes}
use Rattle.std.specs.Str.Iter.{chars_rest}
use Rattle.xdg_lex.proofs.Undone.{IsUndone}
use Rattle.xdg_lex.proofs.contents.unquoted.Given as goal

abbrev pub invariant-loop-c : goal.invariant-loop-c
invariant-loop-c l = IsUndone l.fn.text (string_bytes l.made) l.escaped (chars_rest l.c-iterator)
