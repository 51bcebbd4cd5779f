use Rattle.std.proofs.Common.{inl, inr, arith}
use Rattle.std.specs.Int.{trailing_zeros, w32}
use Rattle.xdg_pgraph.proofs.LabelCounts.{one_bit, other_bit}
use Rattle.xdg_pgraph.proofs.incoming.count.Goals as goal
use Rattle.xdg_facts.proofs.Bits.{lowest_label_bit}

pub returns-then-labels-ne0 : goal.returns-then-labels-ne0
returns-then-labels-ne0 c = inl (trailing_zeros w32 c.args.labels.more, (lowest_label_bit c.args.labels.more c.if-labels-ne0.true (let b = c.well_formed in omega (arith, b))).1)

pub overflow_shl-first : goal.overflow_shl-first
overflow_shl-first c = (lowest_label_bit c.args.labels.some c.if-labels-eq0.false (let b = c.well_formed in omega (arith, b))).0

pub returns-then-labels-first-ne0 : goal.returns-then-labels-first-ne0
returns-then-labels-first-ne0 c =
    let low = lowest_label_bit c.args.labels.some c.if-labels-eq0.false (let b = c.well_formed in omega (arith, b)) in
    let other = other_bit c.args.labels.some (trailing_zeros w32 c.args.labels.some) (let b = c.well_formed in omega (arith, b)) low.0 c.if-labels-first-ne0.true in
    inr (trailing_zeros w32 c.args.labels.some, other.0, other.1, low.1, other.2)

pub returns : goal.returns
returns c =
    let low = lowest_label_bit c.args.labels.some c.if-labels-eq0.false (let b = c.well_formed in omega (arith, b)) in
    (trailing_zeros w32 c.args.labels.some, low.1, one_bit c.args.labels.some (trailing_zeros w32 c.args.labels.some) (let b = c.well_formed in omega (arith, b)) low.0 c.if-labels-first-ne0.false, c.if-labels-ne0.false)
