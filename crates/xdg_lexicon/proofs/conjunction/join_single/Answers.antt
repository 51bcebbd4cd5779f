use Rattle.xdg_lexicon.proofs.Joining.{single_clash, single_join}
use Rattle.xdg_lexicon.proofs.conjunction.join_single.Goals as goal

pub returns-in-None-clause-joins : goal.returns-in-None-clause-joins
returns-in-None-clause-joins c =
    single_clash c.args.dims.now c.args.first.items c.args.second.items c.pop.new.self.items c.pop-2.new.self.items c.pop.result c.pop-2.result c.unwrap-one.result c.unwrap-other.result c.pop.ensures.items c.pop-2.ensures.items c.unwrap-one.ensures c.unwrap-other.ensures
    c.requires.single c.in_ok-join_two.field-0 c.in_ok-join_two.ensures c.in-None.is

pub returns-clause-joins : goal.returns-clause-joins
returns-clause-joins c =
    single_join c.args.dims.now c.args.first.items c.args.second.items c.pop.new.self.items c.pop-2.new.self.items c.pop.result c.pop-2.result c.unwrap-one.result c.unwrap-other.result c.pop.ensures.items c.pop-2.ensures.items c.unwrap-one.ensures c.unwrap-other.ensures
    c.requires.single c.in_ok-join_two.field-0 c.in_ok-join_two.ensures c.in-Some.both c.add.new.made.items c.in-Some.is c.in_ok-add-in-Some.ensures
