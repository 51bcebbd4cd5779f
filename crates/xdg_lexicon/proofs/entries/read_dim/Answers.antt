use Rattle.std.proofs.Common.{sym, subst}
use Rattle.xdg_domain.specs.Shapes.{AreTypes}
use Rattle.xdg_domain.specs.Joined.{fields_in}
use Rattle.xdg_lexicon.proofs.Dims.{types_of}
use Rattle.xdg_lexicon.proofs.entries.read_dim.Goals as goal

pub read_record-requires-clause-typed : goal.read_record-requires-clause-typed
read_record-requires-clause-typed c = subst (λ fs. AreTypes (fields_in fs)) (sym c.as_slice.ensures) (types_of c.args.dim.now.fields c.requires.keeps.features)
