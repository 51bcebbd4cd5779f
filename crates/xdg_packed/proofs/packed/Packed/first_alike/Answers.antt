use Rattle.std.proofs.Common.{subst, arith}
use Rattle.xdg_packed.proofs.Unpacked.{HoldsDim, holds_packed, read_dim, table_within}
use Rattle.xdg_packed.specs.Rows.{IsFirst}
use Rattle.xdg_packed.proofs.Firsts.{column_first}
use Rattle.xdg_packed.proofs.packed.Packed.first_alike.Goals.{After-index-as_slice-dim}
use Rattle.xdg_packed.proofs.packed.Packed.first_alike.Goals as goal

table : (c : After-index-as_slice-dim) → HoldsDim c.args.self.now.entries c.args.dim c.index-as_slice-dim.result
table c =
    let holds = holds_packed c.self.view_is c.self.invariant in
    read_dim _ _ holds _ c.args.dim _ c.as_slice.ensures.value (table_within _ _ holds c.args.no.0 c.args.dim c.requires.entry c.requires.dim) c.index-as_slice-dim.is

pub first_alike-requires-clause-right : goal.first_alike-requires-clause-right
first_alike-requires-clause-right c = (table (goal.at.first_alike-requires-clause-right c).After-index-as_slice-dim).right

pub first_alike-requires-clause-within : goal.first_alike-requires-clause-within
first_alike-requires-clause-within c = let h = table (goal.at.first_alike-requires-clause-within c).After-index-as_slice-dim in omega (arith, h.long, c.requires.entry)

pub returns : goal.returns
returns c =
    let first = column_first c.args.self.now c.args.dim c.args.no.0 _ c.requires.entry (subst (λ t. IsFirst t c.args.no.0 c.first_alike.result) (table (goal.at.returns c).After-index-as_slice-dim).are c.first_alike.ensures) in
    record { within = first.0; first = first.1 }
