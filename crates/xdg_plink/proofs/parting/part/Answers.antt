use Rattle.std.proofs.lemmas.Bool.{false≢true}
use Rattle.xdg_plink.proofs.Apart.{part_both, part_first_only}
use Rattle.xdg_plink.proofs.parting.part.Goals as goal

pub returns-then-not-must : goal.returns-then-not-must
returns-then-not-must c = part_first_only c.args.group.now c.args.place c.args.pass.now c.args.store.now c.requires.can c.part_first.new.pass c.part_first.new.store c.part_first.ensures (λ m. false≢true (c.if-not-must.ensures.exact.1 m))

pub returns : goal.returns
returns c = part_both c.args.group.now c.args.place c.args.pass.now c.args.store.now c.requires.can c.part_first.new.pass c.part_first.new.store c.part_second.new.pass c.part_second.new.store c.part_first.ensures c.part_second.ensures
