use Rattle.std.proofs.Common.{◌∙◌, sym}
use Rattle.xdg_best.proofs.Runs.{turn_goes, turn_says, turn_refused, last_whole, last_begun}
use Rattle.xdg_best.proofs.reading.run.Goals.{in-GoesOn, in-Says+in_ok-push-in-Says}
use Rattle.xdg_best.proofs.reading.run.Goals as goal

pub returns-in-Refused : goal.returns-in-Refused
returns-in-Refused c = turn_refused c.args.end c.loop-token.made c.loop-token.so_far c.args.tokens.now c.loop-token.token-index _ _ _ c.loop-token.invariant c.loop-token-test.true c.in_ok-next.ensures _ c.in-Refused.is c.unexpected.ensures

pub loop-token-preserved : goal.loop-token-preserved
loop-token-preserved c = elim c.match-branch-2.branch [
  | in-GoesOn w ↦ turn_goes c.args.end c.loop-token.made c.loop-token.so_far c.args.tokens.now c.loop-token.token-index _ _ _ c.loop-token.invariant c.loop-token-test.true c.in_ok-next.ensures _ _ _ w.in-GoesOn.is w.made-is w.so_far-is
  | in-Says+in_ok-push-in-Says w ↦ turn_says c.args.end c.loop-token.made c.loop-token.so_far c.args.tokens.now c.loop-token.token-index _ _ _ c.loop-token.invariant c.loop-token-test.true c.in_ok-next.ensures _ _ _ w.in-Says.is (w.made-is ∙ w.in_ok-push-in-Says.ensures.ok) w.so_far-is
]

pub returns-then-is_nothing : goal.returns-then-is_nothing
returns-then-is_nothing c = last_whole c.args.end c.loop-token.made c.args.tokens.now c.loop-token.token-index _ c.loop-token-test.false c.loop-token.so_far c.loop-token.invariant (sym c.is_nothing.ensures ∙ c.if-is_nothing.true)

pub returns : goal.returns
returns c = last_begun c.args.end c.loop-token.made c.args.tokens.now c.loop-token.token-index _ c.loop-token-test.false c.loop-token.so_far _ c.loop-token.invariant (sym c.is_nothing.ensures ∙ c.if-is_nothing.false) c.unexpected-2.ensures
