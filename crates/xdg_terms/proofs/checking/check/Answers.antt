use Rattle.std.proofs.Common.{◌∙◌, ap}
use Rattle.xdg_domain.specs.Shapes.{shape}
use Rattle.xdg_names.specs.First.{first}
use Rattle.xdg_terms.specs.Faults.{faults}
use Rattle.xdg_terms.specs.Forms.{with_bound}
use Rattle.xdg_terms.proofs.Law.{law}
use Rattle.xdg_terms.proofs.checking.check.Goals as goal

pub returns : goal.returns
returns c =
    law (with_bound c.args.bindings.now) (shape c.args.ty.now) c.args.term.now _ (c.check_term.ensures ∙ ap (λ bs. first (faults (with_bound bs) (shape c.args.ty.now) c.args.term.now)) c.as_slice.ensures)
