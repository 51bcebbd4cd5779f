use Rattle.std.proofs.Common.{sym, subst}
use Rattle.std.proofs.lemmas.Result.{IfOk-weaker}
use Rattle.xdg_names.specs.First.{Tells}
use Rattle.xdg_classes.specs.Names.{NameOffends}
use Rattle.xdg_classes.proofs.NameLaw.{names_tell}
use Rattle.xdg_classes.proofs.names.check_names.Goals as goal

pub returns : goal.returns
returns c =
    IfOk-weaker c.names_wrong.result _ _ (λ found is. subst (Tells (NameOffends c.args.statements.now c.args.table.now)) (sym is) (names_tell c.args.statements.now c.args.table.now)) c.names_wrong.ensures
