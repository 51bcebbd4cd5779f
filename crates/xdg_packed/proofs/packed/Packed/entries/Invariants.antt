use Rattle.std.proofs.Common.{◌≡◌, take}
use Rattle.xdg_packed.proofs.packed.Packed.entries.Given as goal

abbrev pub invariant-loop-number : goal.invariant-loop-number
invariant-loop-number l = l.made ≡ take l.number l.self.entries
