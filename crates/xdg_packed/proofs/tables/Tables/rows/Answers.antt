use Rattle.xdg_packed.proofs.Unpacked.{rows_next}
use Rattle.xdg_packed.proofs.tables.Tables.rows.Goals as goal

pub loop-table-preserved : goal.loop-table-preserved
loop-table-preserved c =
    rows_next c.as_slice-table-items.result.now c.loop-table.table-index c.table-item.result c.loop-table.rows c.rows.result c.in-Some.sum c.loop-table-test.true c.table-item.is c.loop-table.invariant c.rows.ensures c.in-Some.ensures.1
