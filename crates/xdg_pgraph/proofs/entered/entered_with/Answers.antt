use Rattle.xdg_pgraph.proofs.Told.{label_told}
use Rattle.xdg_pgraph.proofs.entered.entered_with.Goals as goal

pub returns : goal.returns
returns c = label_told c.args.which c.args.store.now.parts c.args.store.now.now c.args.plane.now c.args.mother c.args.label c.ends.result c.empty.result c.empty.ensures.value c.ends.ensures
