use Rattle.std.proofs.Common.{length, ap, arith}
use Rattle.xdg_problem.specs.declared.parts.Parts.{Parts}
use Rattle.xdg_engine.proofs.Ordering.{all_stand}
use Rattle.xdg_engine.proofs.uses.props.Goals as goal

pub returns-clause-stand : goal.returns-clause-stand
returns-clause-stand c =
    let groups = ap (λ (parts : Parts). length parts.groups) c.parts.ensures.same in
    let past = c.loop-number-test.false in
    let within = c.loop-number.auto.number-end in
    let end = c.len-number-end.ensures in
    all_stand c.args.problem.now c.loop-number.number c.loop-number.props (omega (arith, groups, past, within, end)) c.loop-number.invariant
