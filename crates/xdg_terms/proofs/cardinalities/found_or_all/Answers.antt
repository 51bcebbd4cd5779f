use Rattle.xdg_terms.proofs.Counting.{found_some, found_none}
use Rattle.xdg_terms.proofs.cardinalities.found_or_all.Goals as goal

pub returns-in-Some : goal.returns-in-Some
returns-in-Some c p same = found_some p c.args.made c.in-Some.cards c.in-Some.is c.requires same

pub returns-in-None : goal.returns-in-None
returns-in-None c p same = found_none p c.args.made c.all.result c.in-None.is same c.all.ensures.value
