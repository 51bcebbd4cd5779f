use Rattle.std.proofs.Common.{arith, refl}
use Rattle.std.proofs.lemmas.Bool.{false≢true}
use Rattle.xdg_pgraph.proofs.Barring.{gather_more, gather_skip, gather_start, gathered}
use Rattle.xdg_pgraph.proofs.bounds.barred_entries.Goals as goal

pub loop-class-init : goal.loop-class-init
loop-class-init c count are = gather_start count c.args.group.now c.args.bundle c.args.classes.now are c.args.least c.args.most

pub loop-class-preserved-then-not-class_allows_none : goal.loop-class-preserved-then-not-class_allows_none
loop-class-preserved-then-not-class_allows_none c count are = gather_skip count c.args.group.now c.args.bundle c.args.classes.now are c.args.least c.args.most c.loop-class.class-index _ c.loop-class-test.true c.loop-class.barred
    (λ none. false≢true (c.if-not-class_allows_none.ensures.1 none))
    (c.loop-class.invariant count are)

pub loop-class-preserved : goal.loop-class-preserved
loop-class-preserved c count are = gather_more count c.args.group.now c.args.bundle c.args.classes.now are c.args.least c.args.most c.loop-class.class-index _ c.loop-class-test.true c.loop-class.barred
    (c.if-not-class_allows_none.ensures.0 refl)
    (c.loop-class.invariant count are)

pub returns : goal.returns
returns c count are = gathered count c.args.group.now c.args.bundle c.args.classes.now are c.args.least c.args.most c.loop-class.class-index c.loop-class.barred (let t = c.loop-class-test.false in omega (arith, t)) (c.loop-class.invariant count are)
