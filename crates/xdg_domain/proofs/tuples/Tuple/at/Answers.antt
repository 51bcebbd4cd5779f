use Rattle.std.proofs.Common.{◌≡◌, arith, ap, sym, ◌∙◌, length}
use Rattle.xdg_domain.specs.Sized.{sizes_of}
use Rattle.xdg_domain.proofs.TupleNumbers.{length_places}
use Rattle.xdg_domain.proofs.Sizing.{length_sizes}
use Rattle.xdg_domain.proofs.tuples.Tuple.at.Goals as goal

pub constant_at-requires-clause-field : goal.constant_at-requires-clause-field
constant_at-requires-clause-field c =
    let e : length c.args.self.now ≡ length c.self.inside.fields.now = sym (ap length c.self.view_is) ∙ length_places (sizes_of c.self.inside.fields.now) c.self.inside.number ∙ length_sizes c.self.inside.fields.now in
    omega (arith, e, c.requires)
