use Rattle.xdg_plink.proofs.Sweeping.{cut_none, cut_takes, cut_taken}
use Rattle.xdg_plink.proofs.cutting.cut.Goals as goal

pub returns-then-is_cut : goal.returns-then-is_cut
returns-then-is_cut c =
    let (at, ready, reaches, asks) = c.requires in
    cut_taken c.args.group.now c.args.table.now c.args.pass.now c.args.store.now c.args.place ready reaches c.forbid.new.self c.forbid.new.store c.forbid.ensures.known c.forbid.ensures.parts (c.forbid.ensures.goes c.args.group.now at.group_is (cut_takes c.args.group.now c.args.table.now c.args.pass.now c.args.store.now c.args.place ready reaches at.place_is at.on asks (c.is_cut.ensures.exact.0 c.if-is_cut.true))) c.forbid.ensures.gone

pub returns : goal.returns
returns c =
    let (at, ready, reaches, asks) = c.requires in
    cut_none c.args.group.now c.args.table.now c.args.pass.now c.args.store.now c.args.place ready reaches c.is_cut.result c.if-is_cut.false c.is_cut.ensures.exact
