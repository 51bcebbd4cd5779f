use Rattle.std.proofs.Common.{◌≡◌, drop}
use Rattle.xdg_reports.specs.VerdictsText.{are_kept}
use Rattle.xdg_reports.proofs.verdicts.are_kept.Given as goal

abbrev pub invariant-loop-verdict : goal.invariant-loop-verdict
invariant-loop-verdict l = are_kept (drop l.verdict-index l.verdicts) ≡ are_kept l.verdicts
