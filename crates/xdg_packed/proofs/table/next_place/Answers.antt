use Rattle.std.proofs.Common.{inl}
use Rattle.xdg_packed.proofs.Packs.{same_row}
use Rattle.xdg_packed.proofs.table.next_place.Goals as goal

pub returns-then-is_row : goal.returns-then-is_row
returns-then-is_row c = inl (same_row _ _ _ _ _ _ c.as_slice.ensures c.is_row.ensures c.if-is_row.true)
