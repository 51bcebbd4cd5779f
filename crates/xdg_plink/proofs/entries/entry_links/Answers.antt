use Rattle.xdg_plink.proofs.Leading.{led_as}
use Rattle.xdg_plink.proofs.entries.entry_links.Goals as goal

pub returns-clause-exact : goal.returns-clause-exact
returns-clause-exact c = led_as c.args.store.now.parts c.args.store.now.now c.way_of-way.result _ c.dim_of-dim.result.0 _ c.args.table.now c.row_of.result.now _ c.args.u.0 c.args.v.0 c.is_led.result c.way_of-way.ensures c.dim_of-dim.ensures c.row_of.ensures c.is_led.ensures.exact
