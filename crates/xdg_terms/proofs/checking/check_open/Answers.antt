use Rattle.xdg_domain.specs.Shapes.{shape}
use Rattle.xdg_terms.specs.Forms.{with_open}
use Rattle.xdg_terms.proofs.Law.{law}
use Rattle.xdg_terms.proofs.checking.check_open.Goals as goal

pub returns : goal.returns
returns c = law (with_open c.args.params.now) (shape c.args.ty.now) c.args.term.now _ c.check_term.ensures
