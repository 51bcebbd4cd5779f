use Rattle.std.proofs.Common.{◌<◌, length, drop, get_or, ap, arith}
use Rattle.std.proofs.lemmas.List.{drop_all, get_or_default}
use Rattle.xdg_io.proofs.Parts.{next_by, stop_by, ends}
use Rattle.xdg_judge.specs.declared.verdict.Verdict.TheVariants as verdicts
use Rattle.xdg_reports.specs.VerdictsText.{verdict_lines}
use Rattle.xdg_reports.proofs.Verdicted.{lines_from}
use Rattle.xdg_reports.proofs.verdicts.write_verdict_lines.Goals as goal

pub returns-in_err-write_verdict : goal.returns-in_err-write_verdict
returns-in_err-write_verdict g c =
    let there : c.loop-place.place < length c.args.verdicts.now = omega (arith, c.loop-place-test.true, c.requires) in
    stop_by _ (lines_from c.args.parts.now c.args.own c.args.rules.now c.args.groups.now c.args.verdicts.now c.loop-place.place c.index-groups-place.result (get_or c.args.verdicts.now c.loop-place.place verdicts.Kept) c.loop-place-test.true c.index-groups-place.is
    there (get_or_default _ _ _ _ there)) c.loop-place.invariant c.from_residual.ensures.0 c.in_err-write_verdict.ensures

pub loop-place-preserved : goal.loop-place-preserved
loop-place-preserved g c =
    let there : c.loop-place.place < length c.args.verdicts.now = omega (arith, c.loop-place-test.true, c.requires) in
    next_by (lines_from c.args.parts.now c.args.own c.args.rules.now c.args.groups.now c.args.verdicts.now c.loop-place.place c.index-groups-place.result (get_or c.args.verdicts.now c.loop-place.place verdicts.Kept) c.loop-place-test.true c.index-groups-place.is
    there (get_or_default _ _ _ _ there)) c.loop-place.invariant c.in_ok-write_verdict.ensures

pub returns : goal.returns
returns g c =
    ends c.loop-place.invariant (ap (λ groups. verdict_lines c.args.parts.now c.args.own c.args.rules.now c.loop-place.place groups (drop c.loop-place.place c.args.verdicts.now))
    (drop_all c.loop-place.place c.args.groups.now c.loop-place-test.false))
