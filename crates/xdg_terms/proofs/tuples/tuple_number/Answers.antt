use Rattle.std.proofs.Common.{sym, ◌∙◌, subst}
use Rattle.xdg_domain.specs.Shapes.{shape, sizes_in}
use Rattle.xdg_domain.specs.Sized.{sizes_of}
use Rattle.xdg_domain.specs.Tuples.{InRange}
use Rattle.xdg_terms.specs.Built.{constants_each}
use Rattle.xdg_terms.proofs.Placing.{in_range, small_fields}
use Rattle.xdg_terms.proofs.tuples.tuple_number.Goals as goal

pub places-requires : goal.places-requires
places-requires c = small_fields (shape c.args.ty.now) (sizes_of c.fields.result.now) c.requires c.fields.ensures.sizes

pub tuple_index-requires-clause-range : goal.tuple_index-requires-clause-range
tuple_index-requires-clause-range c =
    subst (InRange (sizes_in (shape c.args.ty.now))) (sym c.as_slice.ensures)
    (in_range (shape c.args.ty.now) (constants_each c.fields.result.now) c.args.names.now c.in-Some.found c.requires c.fields.ensures.constants (sym c.in_ok-places.ensures ∙ c.in-Some.is))
