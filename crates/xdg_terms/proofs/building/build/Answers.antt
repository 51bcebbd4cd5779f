use Rattle.xdg_domain.specs.Shapes.{shape}
use Rattle.xdg_terms.proofs.Meaning.{means_of, value_of}
use Rattle.xdg_terms.proofs.building.build.Goals as goal

pub returns-clause-means : goal.returns-clause-means
returns-clause-means c = means_of c.args.bindings.now (shape c.args.ty.now) c.args.term.now c.value_of.result c.requires.is_type c.requires.right c.value_of.ensures.value

pub returns-clause-value : goal.returns-clause-value
returns-clause-value c = value_of c.args.bindings.now (shape c.args.ty.now) c.args.term.now c.value_of.result c.requires.is_type c.requires.right c.value_of.ensures.value c.value_of.ensures.fits
