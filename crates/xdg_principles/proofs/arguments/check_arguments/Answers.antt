use Rattle.std.proofs.Common.{◌≡◌, subst}
use Rattle.std.specs.Prelude.{IfOk}
use Rattle.xdg_names.specs.First.{first}
use Rattle.xdg_principles.proofs.ArgumentLaw.{arguments_first}
use Rattle.xdg_principles.proofs.Found.{arguments_told}
use Rattle.xdg_principles.proofs.arguments.check_arguments.Goals as goal

pub returns : goal.returns
returns c = λ statements are. arguments_first statements c.args.table.now c.arguments_wrong.result
    (subst (λ fs. IfOk c.arguments_wrong.result (λ found. found ≡ first fs)) (arguments_told statements c.args.uses.now c.args.table.now.dims are) c.arguments_wrong.ensures)
