use Rattle.std.proofs.Common.{arith}
use Rattle.xdg_packed.proofs.OfTable.{entry_at}
use Rattle.xdg_print.proofs.Listed.{next_entry, all_entries}
use Rattle.xdg_print.proofs.listing.put_entries.Goals as goal

pub put_entry-requires-clause-entry : goal.put_entry-requires-clause-entry
put_entry-requires-clause-entry c =
    entry_at c.args.types.now c.args.lexicon.now.entries c.loop-at.at c.entry.result c.requires.entries (omega (arith, c.loop-at-test.true, c.len-count.ensures.len)) c.entry.ensures

pub loop-at-preserved : goal.loop-at-preserved
loop-at-preserved c =
    next_entry c.loop-at.printer c.args.types.now c.args.place c.args.lexicon.now.entries c.loop-at.at c.entry.result
    (omega (arith, c.loop-at-test.true, c.len-count.ensures.len)) c.entry.ensures c.loop-at.invariant c.in_ok-put_entry.ensures

pub returns : goal.returns
returns c =
    all_entries c.loop-at.printer c.args.types.now c.args.place c.args.lexicon.now.entries c.loop-at.at (omega (arith, c.loop-at-test.false, c.len-count.ensures.len)) c.loop-at.invariant
