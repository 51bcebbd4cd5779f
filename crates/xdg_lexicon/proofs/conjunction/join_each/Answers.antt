use Rattle.std.proofs.Common.{[], ◌∷◌, sym, subst}
use Rattle.std.proofs.lemmas.List.{append-nil}
use Rattle.xdg_lexicon.specs.Denotes.{no_other, clashes, joins}
use Rattle.xdg_lexicon.specs.Partial.{IsPartial}
use Rattle.xdg_lexicon.proofs.Joining.{one_of, each_further}
use Rattle.xdg_lexicon.proofs.conjunction.join_each.Goals as goal

pub loop-other-init : goal.loop-other-init
loop-other-init c = ([], (sym (append-nil c.args.made.now.items), (no_other, tt)))

pub join_partial-requires-clause-other : goal.join_partial-requires-clause-other
join_partial-requires-clause-other c = subst (IsPartial c.args.dims.now) (sym c.as_slice.ensures) (one_of c.args.dims.now c.args.others.now c.loop-other.other-index c.other-item.result c.loop-other-test.true c.other-item.is c.requires.others)

pub loop-other-preserved-in-None : goal.loop-other-preserved-in-None
loop-other-preserved-in-None c =
    let apart = rw (c.in-None.is, c.as_slice.ensures) at c.in_ok-join_partial.ensures in
    each_further c.args.dims.now c.args.one.now c.args.others.now c.args.made.now.items c.loop-other.other-index c.loop-other.made.items c.other-item.result [] c.loop-other.made.items c.loop-other-test.true c.other-item.is
    (sym (append-nil c.loop-other.made.items)) c.loop-other.invariant (clashes c.other-item.result [] [] apart no_other) tt

pub loop-other-preserved : goal.loop-other-preserved
loop-other-preserved c =
    let both = rw (c.in-Some.is, c.as_slice.ensures) at c.in_ok-join_partial.ensures in
    each_further c.args.dims.now c.args.one.now c.args.others.now c.args.made.now.items c.loop-other.other-index c.loop-other.made.items c.other-item.result (c.in-Some.both ∷ []) _ c.loop-other-test.true c.other-item.is
    c.in_ok-add-in-Some.ensures c.loop-other.invariant (joins c.other-item.result c.in-Some.both [] [] both.0 no_other) (both.1, tt)
