use Rattle.std.proofs.Common.{subst, sym}
use Rattle.xdg_names.specs.First.{Tells}
use Rattle.xdg_names.proofs.First.{tells_both}
use Rattle.xdg_classes.specs.Names.{NameOffends}
use Rattle.xdg_principles.specs.Names.{PrincipleNameOffends}
use Rattle.xdg_check.specs.Answers as a
use Rattle.xdg_check.proofs.passes.names_wrong.Goals as goal

pub returns : goal.returns
returns c =
    subst (Tells (a.NameOffends c.args.statements.now c.args.table.now)) (sym c.earlier.ensures)
    (tells_both (NameOffends c.args.statements.now c.args.table.now) (PrincipleNameOffends c.args.statements.now) c.in_ok-in_bodies.in_bodies c.in_ok-in_uses.in_uses c.in_ok-in_bodies.ensures c.in_ok-in_uses.ensures)
