use Rattle.std.proofs.Common.{rules}
use Rattle.xdg_lexicon.proofs.Taken.{none_said, taken_here, taken_front, taken_rises, taken_below}
use Rattle.xdg_lexicon.proofs.taking.take_last.Goals as goal

pub returns-then-not-is_last-clause-here : goal.returns-then-not-is_last-clause-here
returns-then-not-is_last-clause-here c = none_said c.args.said.now c.args.key (search rules)

pub returns-in-Some-clause-here : goal.returns-in-Some-clause-here
returns-in-Some-clause-here c = taken_here c.args.said.now c.pop.new.self c.args.key c.in-Some.entry c.in-Some.ensures (search rules) c.requires.rises

pub returns-in-Some-clause-front : goal.returns-in-Some-clause-front
returns-in-Some-clause-front c = taken_front c.args.said.now c.pop.new.self c.args.key c.in-Some.entry c.in-Some.ensures (search rules) c.requires.rises

pub returns-in-Some-clause-rises : goal.returns-in-Some-clause-rises
returns-in-Some-clause-rises c = taken_rises c.args.said.now c.pop.new.self c.args.key c.in-Some.entry c.in-Some.ensures (search rules) c.requires.rises

pub returns-in-Some-clause-below : goal.returns-in-Some-clause-below
returns-in-Some-clause-below c = taken_below c.args.said.now c.pop.new.self c.args.key c.in-Some.entry c.in-Some.ensures (search rules) c.requires.rises
