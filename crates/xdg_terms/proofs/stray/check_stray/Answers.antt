use Rattle.xdg_terms.proofs.Straying.{stray_law}
use Rattle.xdg_terms.proofs.stray.check_stray.Goals as goal

pub returns : goal.returns
returns c = stray_law c.args.params.now c.args.term.now _ c.stray_in.ensures
