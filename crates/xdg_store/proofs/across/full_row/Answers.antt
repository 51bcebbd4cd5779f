use Rattle.xdg_store.proofs.Renewed.{row_full}
use Rattle.xdg_store.proofs.across.full_row.Goals as goal

pub returns : goal.returns
returns c nodes whole = row_full nodes c.args.daughter.0 c.args.all.now c.remove.new.self c.empty.result whole c.remove.ensures.members c.empty.ensures.value
