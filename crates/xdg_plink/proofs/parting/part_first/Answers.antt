use Rattle.std.proofs.Common.{refl}
use Rattle.std.proofs.lemmas.Bool.{false≢true}
use Rattle.xdg_plink.proofs.Apart.{first_kept, first_taken}
use Rattle.xdg_plink.proofs.parting.part_first.Goals as goal

pub returns-then-must_join : goal.returns-then-must_join
returns-then-must_join c = first_taken c.args.group.now c.args.place c.args.pass.now c.args.store.now c.requires.can c.requires.asks c.dim_of.result.0 c.forbid.new.self c.forbid.new.store c.dim_of.ensures (c.if-must_join.ensures.exact.0 refl) c.forbid.ensures.known c.forbid.ensures.goes c.forbid.ensures.gone

pub returns : goal.returns
returns c = first_kept c.args.group.now c.args.place c.args.pass.now c.args.store.now c.requires.can c.requires.asks c.dim_of.result.0 c.dim_of.ensures (λ m. false≢true (c.if-must_join.ensures.exact.1 m))
