use Rattle.std.proofs.Common.{◌≡◌, ◌++◌, map, take}
use Rattle.xdg_build.proofs.arguments.add_numbers.Given as goal

abbrev pub invariant-loop-number : goal.invariant-loop-number
invariant-loop-number l = l.made ≡ l.fn.made ++ map (λ n. record { 0 = n }) (take l.number-index l.numbers)
