use Rattle.std.proofs.Common.{◌≡◌, length, get_or, subst}
use Rattle.xdg_lexicon.proofs.Backwards.{back_within, back_mine, back_theirs, back_further, back_done}
use Rattle.xdg_lexicon.proofs.Dims.{joined_here, clashed_here}
use Rattle.xdg_lexicon.proofs.moving.join_two.Goals.{After-index-dims-place}
use Rattle.xdg_lexicon.proofs.moving.join_two.Goals as goal

-- where the dimension stands
dim_at : (c : After-index-dims-place) → c.index-dims-place.result ≡ get_or c.args.dims.now (length c.pop.new.self) c.index-dims-place.result
dim_at c = subst (λ n. c.index-dims-place.result ≡ get_or c.args.dims.now n c.index-dims-place.result) c.len-place.ensures c.index-dims-place.is

pub loop-mine-preserved : goal.loop-mine-preserved
loop-mine-preserved c =
    let s = c.loop-mine.invariant in
    let at = dim_at (goal.at.loop-mine-preserved c).After-index-dims-place in
    back_further s _ _ c.in-Some.ensures _ _ c.in-Some-pop.ensures c.in_ok-push-in-Some-2.ensures.ok
    (joined_here c.args.dims.now c.args.one c.args.other _ _ _ _ _ at c.as_slice.ensures (back_mine s _ _ c.in-Some.ensures) (back_theirs s _ _ c.in-Some.ensures _ _ c.in-Some-pop.ensures)
    _ c.in_ok-join_moved.ensures _ c.in-Some-2.is)

pub returns-in-None : goal.returns-in-None
returns-in-None c =
    let s = c.loop-mine.invariant in
    let at = dim_at (goal.at.returns-in-None c).After-index-dims-place in
    clashed_here c.args.dims.now c.args.one c.args.other _ _ _ _ _ at c.as_slice.ensures (back_mine s _ _ c.in-Some.ensures) (back_theirs s _ _ c.in-Some.ensures _ _ c.in-Some-pop.ensures)
    _ c.in_ok-join_moved.ensures (back_within s _ _ c.in-Some.ensures) c.in-None.is

pub returns : goal.returns
returns c =
    let l = c.loop-mine in
    back_done c.args.dims.now c.args.one c.args.other l.one l.other l.made c.pop.new.self c.turn.new.turned c.in_default.ensures.0 c.in_default.ensures.1 c.in_ok-turn.ensures l.invariant
