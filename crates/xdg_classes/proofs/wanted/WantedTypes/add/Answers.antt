use Rattle.std.proofs.Common.{rules}
use Rattle.xdg_classes.proofs.Adding.{new_grown, known_grown, pushed_grown}
use Rattle.xdg_classes.proofs.wanted.WantedTypes.add.Goals as goal

pub returns-then-branch : goal.returns-then-branch
returns-then-branch c even =
    new_grown c.args.self.now.params c.add.new.self c.args.self.now.types.items c.push-then-branch.new.self.items c.args.param.now c.args.ty c.push.new.self (search rules) even (search rules) (search rules) (search rules)

pub returns-then-has_type : goal.returns-then-has_type
returns-then-has_type c even =
    known_grown c.args.self.now.params c.add.new.self c.args.self.now.types.items c.args.param.now c.args.ty c.in-Some.at c.in-Some-get_mut.types.now even (search rules) (search rules) (search rules) (search rules) (search rules)

pub returns : goal.returns
returns c even =
    pushed_grown c.args.self.now.params c.add.new.self c.args.self.now.types.items c.args.param.now c.args.ty c.in-Some.at c.in-Some-get_mut.types.now
    even (search rules) (search rules) (search rules) (search rules) c.push-2.new.self (search rules)
