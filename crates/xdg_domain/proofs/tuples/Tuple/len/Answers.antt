use Rattle.std.proofs.Common.{sym, ◌∙◌, ap, length}
use Rattle.xdg_domain.specs.Sized.{sizes_of}
use Rattle.xdg_domain.proofs.TupleNumbers.{length_places}
use Rattle.xdg_domain.proofs.Sizing.{length_sizes}
use Rattle.xdg_domain.proofs.tuples.Tuple.len.Goals as goal

pub returns : goal.returns
returns c = sym (length_sizes c.self.inside.fields.now) ∙ sym (length_places (sizes_of c.self.inside.fields.now) c.self.inside.number) ∙ ap length c.self.view_is
