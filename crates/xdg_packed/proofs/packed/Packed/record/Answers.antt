use Rattle.std.proofs.Common.{arith}
use Rattle.xdg_packed.proofs.Unpacked.{HoldsDim, holds_packed, read_dim, table_within, record_is}
use Rattle.xdg_packed.proofs.packed.Packed.record.Goals.{After-index-as_slice-dim}
use Rattle.xdg_packed.proofs.packed.Packed.record.Goals as goal

table : (c : After-index-as_slice-dim) → HoldsDim c.args.self.now.entries c.args.dim c.index-as_slice-dim.result
table c =
    let holds = holds_packed c.self.view_is c.self.invariant in
    read_dim _ _ holds _ c.args.dim _ c.as_slice.ensures.value (table_within _ _ holds c.args.number c.args.dim c.requires.entry c.requires.dim) c.index-as_slice-dim.is

pub record-requires-clause-right : goal.record-requires-clause-right
record-requires-clause-right c = (table (goal.at.record-requires-clause-right c).After-index-as_slice-dim).right

pub record-requires-clause-within : goal.record-requires-clause-within
record-requires-clause-within c = let h = table (goal.at.record-requires-clause-within c).After-index-as_slice-dim in omega (arith, h.long, c.requires.entry)

pub returns : goal.returns
returns c = record_is _ c.args.dim _ c.args.number _ (table (goal.at.returns c).After-index-as_slice-dim) c.requires.entry c.record.ensures
