use Rattle.std.proofs.Common.{◌∙◌}
use Rattle.xdg_packed.proofs.Kept.{room, few, reached, back_kept, more_kept}
use Rattle.xdg_packed.proofs.entry_set.EntrySet.add.Goals as goal

pub add-requires-clause-within : goal.add-requires-clause-within
add-requires-clause-within c = room c.args.self.now c.args.entry c.requires.right c.requires.equal

pub add-requires-clause-few : goal.add-requires-clause-few
add-requires-clause-few c = few c.args.self.now c.args.entry c.requires.right c.requires.equal 4294967295 c.if-self.false

pub key-requires : goal.key-requires
key-requires c = reached c.args.self.now c.args.entry c.requires.right c.requires.equal c.add.new.self c.in_ok-add.ensures.adds

pub returns-then-not-branch-clause-right : goal.returns-then-not-branch-clause-right
returns-then-not-branch-clause-right c =
    (back_kept c.args.self.now c.args.entry c.requires.right c.requires.equal c.add.new.self c.in_ok-add.ensures.adds c.in_ok-add.ensures.right c.as_str.result.now (c.as_str.ensures ∙ c.in_ok-key.ensures)
    c.add-2.new.self c.in_ok-add-2.field-0 c.in_ok-add-2.ensures.new c.in_ok-add-2.ensures.ok c.if-not-branch.true c.take_back.new.self c.take_back.ensures.long c.take_back.ensures.each c.take_back.ensures.spellings).0

pub returns-then-not-branch-clause-known : goal.returns-then-not-branch-clause-known
returns-then-not-branch-clause-known c = λ _.
    (back_kept c.args.self.now c.args.entry c.requires.right c.requires.equal c.add.new.self c.in_ok-add.ensures.adds c.in_ok-add.ensures.right c.as_str.result.now (c.as_str.ensures ∙ c.in_ok-key.ensures)
    c.add-2.new.self c.in_ok-add-2.field-0 c.in_ok-add-2.ensures.new c.in_ok-add-2.ensures.ok c.if-not-branch.true c.take_back.new.self c.take_back.ensures.long c.take_back.ensures.each c.take_back.ensures.spellings).1

pub returns-clause-right : goal.returns-clause-right
returns-clause-right c =
    (more_kept c.args.self.now c.args.entry c.requires.right c.requires.equal c.add.new.self c.in_ok-add.ensures.adds c.in_ok-add.ensures.right c.as_str.result.now (c.as_str.ensures ∙ c.in_ok-key.ensures)
    c.add-2.new.self c.in_ok-add-2.field-0 c.in_ok-add-2.ensures.new c.in_ok-add-2.ensures.ok c.if-not-branch.false c.in_ok-self.field-0 c.in_ok-self.ensures c.if-self.false).0

pub returns-clause-new : goal.returns-clause-new
returns-clause-new c = λ _.
    (more_kept c.args.self.now c.args.entry c.requires.right c.requires.equal c.add.new.self c.in_ok-add.ensures.adds c.in_ok-add.ensures.right c.as_str.result.now (c.as_str.ensures ∙ c.in_ok-key.ensures)
    c.add-2.new.self c.in_ok-add-2.field-0 c.in_ok-add-2.ensures.new c.in_ok-add-2.ensures.ok c.if-not-branch.false c.in_ok-self.field-0 c.in_ok-self.ensures c.if-self.false).1
