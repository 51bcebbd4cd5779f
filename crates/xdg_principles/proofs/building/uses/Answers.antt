use Rattle.std.proofs.Common.{◌≡◌, subst}
use Rattle.std.specs.Prelude.{IfOk}
use Rattle.xdg_principles.proofs.Found.{built_told}
use Rattle.xdg_principles.proofs.TypedLaw.{meant_made, typed_made}
use Rattle.xdg_principles.proofs.building.uses.Goals as goal

pub returns-clause-meant : goal.returns-clause-meant
returns-clause-meant c = λ statements right. meant_made statements c.args.table.now right.has right.names right.arguments c.built_uses.result
    (subst (λ us. IfOk c.built_uses.result (λ made. made ≡ us)) (built_told statements c.args.uses.now c.args.table.now.dims right.found) c.built_uses.ensures.same)

pub returns-clause-typed : goal.returns-clause-typed
returns-clause-typed c = λ statements right. typed_made statements c.args.table.now right.has right.names right.arguments c.built_uses.result
    (subst (λ us. IfOk c.built_uses.result (λ made. made ≡ us)) (built_told statements c.args.uses.now c.args.table.now.dims right.found) c.built_uses.ensures.same) c.built_uses.ensures.keeps
