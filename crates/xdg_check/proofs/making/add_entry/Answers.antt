use Rattle.std.proofs.Common.{refl}
use Rattle.xdg_check.proofs.Gathered.{entry_more}
use Rattle.xdg_check.proofs.making.add_entry.Goals as goal

pub returns-in_ok-push-in-DefEntry : goal.returns-in_ok-push-in-DefEntry
returns-in_ok-push-in-DefEntry c = λ named.
    entry_more _ c.args.statement.now c.in-DefEntry.body (record { body = c.in_ok-body-in-DefEntry.body; at = c.args.statement.now.span.start }) c.args.made.now c.push.new.self
    c.in-DefEntry.is refl (c.in_ok-body-in-DefEntry.ensures.tree named) c.in_ok-body-in-DefEntry.ensures.span c.in_ok-push-in-DefEntry.ensures.ok
