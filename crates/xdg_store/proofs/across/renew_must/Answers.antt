use Rattle.xdg_store.proofs.Telling.{must_renewed}
use Rattle.xdg_store.proofs.across.renew_must.Goals as goal

pub returns-clause-renews : goal.returns-clause-renews
returns-clause-renews c = (must_renewed c.args.nodes c.args.edge c.args.rows.now.items c.args.into.now.items c.index_mut.result.now c.index_mut-2.result.now c.mothers_at-place.result c.requires.fits c.requires.wide c.mothers_at-place.ensures c.index_mut.ensures.value c.index_mut-2.ensures.value c.args.wanted c.renew_side.new.mothers c.renew_side.new.labels c.renew_side.ensures).0

pub returns-clause-told : goal.returns-clause-told
returns-clause-told c = (must_renewed c.args.nodes c.args.edge c.args.rows.now.items c.args.into.now.items c.index_mut.result.now c.index_mut-2.result.now c.mothers_at-place.result c.requires.fits c.requires.wide c.mothers_at-place.ensures c.index_mut.ensures.value c.index_mut-2.ensures.value c.args.wanted c.renew_side.new.mothers c.renew_side.new.labels c.renew_side.ensures).1
