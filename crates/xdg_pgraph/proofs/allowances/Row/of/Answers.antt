use Rattle.std.proofs.Common.{subst, sym}
use Rattle.xdg_pgraph.specs.Allowances.{AreClasses}
use Rattle.xdg_pgraph.proofs.Classing.{classes_none}
use Rattle.xdg_pgraph.proofs.allowances.Row.of.Goals as goal

pub loop-entry-init : goal.loop-entry-init
loop-entry-init c group same = subst (AreClasses 0 group c.args.bundle) (sym c.none-row.ensures) (classes_none group c.args.bundle)
