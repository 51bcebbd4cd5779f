use Rattle.std.specs.String.{string_bytes}
use Rattle.std.specs.Str.Iter.{chars_rest}
use Rattle.xdg_linear.proofs.Reading.{IsRead}
use Rattle.xdg_linear.proofs.runs.runs_of.Given as goal

abbrev pub invariant-loop-c : goal.invariant-loop-c
invariant-loop-c l = IsRead l.fn.text l.words l.at (string_bytes l.piece) (chars_rest l.c-iterator)
