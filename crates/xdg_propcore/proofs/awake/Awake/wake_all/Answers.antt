use Rattle.std.proofs.Common.{◌≡◌, true, length, ap, ◌∙◌, arith, length-set}
use Rattle.xdg_propcore.proofs.Flags.{length_flags, more_on}
use Rattle.xdg_propcore.proofs.awake.Awake.wake_all.Goals as goal

pub wake-requires : goal.wake-requires
wake-requires c =
    let n = length_flags c.self.inside.words.items c.self.inside.count in
    let v = ap length c.self.view_is in
    let l : length c.loop-at.self ≡ length c.args.self.now = c.loop-at.invariant.0 in
    let t = c.loop-at-test.true in
    omega (arith, n, v, l, t)

pub loop-at-preserved : goal.loop-at-preserved
loop-at-preserved c =
    let n = length_flags c.self.inside.words.items c.self.inside.count in
    let v = ap length c.self.view_is in
    let l : length c.loop-at.self ≡ length c.args.self.now = c.loop-at.invariant.0 in
    let t = c.loop-at-test.true in
    (ap length c.wake.ensures ∙ length-set c.loop-at.self c.loop-at.at true ∙ l, more_on c.loop-at.self c.wake.new.self c.loop-at.at (omega (arith, n, v, l, t)) c.wake.ensures c.loop-at.invariant.1)

pub returns-clause-all : goal.returns-clause-all
returns-clause-all c at within =
    let n = length_flags c.self.inside.words.items c.self.inside.count in
    let v = ap length c.self.view_is in
    let t = c.loop-at-test.false in
    c.loop-at.invariant.1 at (omega (arith, n, v, t, within))
