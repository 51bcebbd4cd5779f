use Rattle.std.proofs.Common.{◌≡◌, subst}
use Rattle.std.specs.Prelude.{IfOk}
use Rattle.xdg_names.specs.First.{first}
use Rattle.xdg_principles.proofs.Found.{names_told}
use Rattle.xdg_principles.proofs.names.names_wrong.Goals as goal

pub returns : goal.returns
returns c = subst (λ fs. IfOk c.check_uses.result (λ found. found ≡ first fs))
    (names_told c.args.statements.now c.args.uses.now c.in_ok-defined.defined c.in_ok-used.used c.as_slice.result.now c.requires c.in_ok-defined.ensures c.in_ok-used.ensures c.as_slice.ensures) c.check_uses.ensures
