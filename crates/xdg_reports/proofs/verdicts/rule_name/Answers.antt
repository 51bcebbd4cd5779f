use Rattle.std.proofs.Common.{ap}
use Rattle.xdg_reports.specs.VerdictsText.{name_in}
use Rattle.xdg_reports.proofs.verdicts.rule_name.Goals as goal

pub returns-in-None : goal.returns-in-None
returns-in-None c = ap name_in c.in-None.ensures
