use Rattle.std.proofs.Common.{◌≡◌, drop}
use Rattle.xdg_names.specs.First.{first, earlier}
use Rattle.xdg_typing.specs.Listed as listing
use Rattle.xdg_typing.proofs.singles.parts_again.Given as goal

abbrev pub invariant-loop-part : goal.invariant-loop-part
invariant-loop-part l = earlier l.found (first (listing.parts_again l.stood (drop l.part-index l.parts))) ≡ first (listing.parts_again listing.none_stood l.parts)
