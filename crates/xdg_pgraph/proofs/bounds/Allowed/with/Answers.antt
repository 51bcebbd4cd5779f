use Rattle.std.proofs.Common.{◌∙◌, ◌+◌, ap, arith}
use Prim.Native.Nat.{min, max}
use Rattle.xdg_pgraph.proofs.Keeping.{spans_ends, widens_merged, widens_none}
use Rattle.xdg_pgraph.proofs.bounds.Allowed.with.Goals as goal

pub returns-in_default : goal.returns-in_default
returns-in_default c = widens_none c.args.numbers.now c.args.self c.in_default.ensures.item.3

pub returns-in_default-last : goal.returns-in_default-last
returns-in_default-last c = widens_none c.args.numbers.now c.args.self c.in_default-last.ensures.item.3

pub returns : goal.returns
returns c = widens_merged c.args.numbers.now c.args.self (record { least = c.in-Some.first.now; behind = c.in-Some-last.last.now + 1 }) (record { least = c.min.result; behind = c.max.result }) (let b = c.well_formed in omega (arith, b))
    (c.min.ensures ∙ ap (min c.args.self.least) c.from.ensures)
    (c.max.ensures ∙ ap (λ z. max c.args.self.behind (z + 1)) c.from-2.ensures)
    (spans_ends c.args.numbers.now c.requires c.in-Some.first.now c.in-Some-last.last.now c.in-Some.ensures.item.3.0 c.in-Some.ensures.item.3.1 c.in-Some-last.ensures.item.3.1)
