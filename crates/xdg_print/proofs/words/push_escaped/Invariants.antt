use Rattle.std.proofs.Common.{◌≡◌, ◌++◌}
use Rattle.std.specs.Str.Iter.{chars_rest}
use Rattle.std.specs.List.{flat_map}
use Rattle.xdg_base.specs.Spelling.{escaped}
use Rattle.xdg_print.proofs.words.push_escaped.Given as goal

abbrev pub invariant-loop-c : goal.invariant-loop-c
invariant-loop-c l = l.text ++ flat_map escaped (chars_rest l.c-iterator) ≡ l.initial.text ++ flat_map escaped l.characters
