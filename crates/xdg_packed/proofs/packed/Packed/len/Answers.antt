use Rattle.xdg_packed.proofs.Unpacked.{count_is}
use Rattle.xdg_packed.proofs.packed.Packed.len.Goals as goal

pub returns-clause-len : goal.returns-clause-len
returns-clause-len c = count_is c.args.self.now c.self.inside.tables.items c.self.inside.count c.self.inside.dim c.self.inside.field c.self.view_is
