use Rattle.std.proofs.Common.{◌≡◌, take}
use Rattle.xdg_lexicon.specs.Partial.{nothing}
use Rattle.xdg_lexicon.proofs.entries.say_nothing.Given as goal

abbrev pub invariant-loop : goal.invariant-loop
invariant-loop l = l.made ≡ nothing (take l.index l.fn.dims)
