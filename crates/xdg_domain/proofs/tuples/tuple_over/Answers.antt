use Rattle.std.proofs.Common.{map}
use Rattle.xdg_domain.specs.Shapes.{shape, shapes_of}
use Rattle.xdg_domain.specs.Sized.{sizes_of}
use Rattle.xdg_domain.proofs.TupleNumbers.{places_in_range}
use Rattle.xdg_domain.proofs.Sizing.{domains_small}
use Rattle.xdg_domain.proofs.tuples.tuple_over.Goals as goal

pub invariant_of-result : goal.invariant_of-result
invariant_of-result c = (domains_small (shapes_of (map shape c.args.fields.now)) c.requires.tuple.domains, c.requires.tuple.few, c.requires.below)

pub returns-clause-range : goal.returns-clause-range
returns-clause-range c = places_in_range (sizes_of c.args.fields.now) c.args.number c.requires.below
