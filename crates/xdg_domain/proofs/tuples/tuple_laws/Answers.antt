use Rattle.xdg_domain.proofs.TupleNumbers.{tuples_one_to_one}
use Rattle.xdg_domain.proofs.tuples.tuple_laws.Goals as goal

pub returns : goal.returns
returns c = tuples_one_to_one
