use Rattle.std.proofs.Common.{◌≡◌, ◌++◌, take}
use Rattle.xdg_terms.proofs.copying.+copy_generator.Given as goal

abbrev pub invariant-add_generators-loop-member : goal.invariant-add_generators-loop-member
invariant-add_generators-loop-member l = l.made ≡ l.initial.made ++ take l.member-index l.members
