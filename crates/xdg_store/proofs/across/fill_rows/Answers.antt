use Rattle.std.proofs.Common.{arith}
use Rattle.xdg_store.specs.Across.{IsFull, daughter_at, no_mothers}
use Rattle.xdg_store.proofs.across.fill_rows.Goals as goal
use Rattle.xdg_facts.proofs.Lists.{one_set}

pub loop-place-preserved : goal.loop-place-preserved
loop-place-preserved c =
    let end = c.len-place-end.ensures in
    let test = c.loop-place-test.true in
    one_set (λ i. IsFull c.args.nodes (daughter_at c.args.nodes i)) c.loop-place.rows.items c.loop-place.place c.full_row.result no_mothers
    c.loop-place.invariant.0 (omega (arith, end, test)) (c.full_row.ensures c.args.nodes c.requires.all) c.loop-place.invariant.1
