use Rattle.std.proofs.Common.{sym, ◌∙◌}
use Rattle.xdg_domain.specs.Shapes.{shape}
use Rattle.xdg_print.proofs.Defaulting.{default_law}
use Rattle.xdg_print.proofs.defaults.is_default.Goals as goal

pub returns-clause-exact : goal.returns-clause-exact
returns-clause-exact c =
    let law = default_law (shape c.args.ty.now) c.requires.mapped c.requires.right c.args.value.now in
    ((λ e. law.0 (sym c.is_default_of.ensures ∙ e)), (λ e. c.is_default_of.ensures ∙ law.1 e))
