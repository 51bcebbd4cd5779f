use Rattle.std.proofs.Common.{◌≡◌, ◌-◌, length, drop}
use Rattle.std.specs.List.{range_with_len}
use Rattle.std.specs.Str.{bytes_eq}
use Rattle.xdg_print.proofs.defaults.is_full.Given as goal

abbrev pub invariant-loop-place : goal.invariant-loop-place
invariant-loop-place l = bytes_eq l.numbers (range_with_len 0 (length l.numbers)) ≡ bytes_eq (drop l.place l.numbers) (range_with_len l.place (length l.numbers - l.place))
