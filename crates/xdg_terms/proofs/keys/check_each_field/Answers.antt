use Rattle.xdg_base.specs.declared.faults.Cause.TheVariants as causes
use Rattle.xdg_domain.specs.Shapes.{names_of}
use Rattle.xdg_terms.specs.Faults as spec
use Rattle.xdg_terms.proofs.Loops.{each_turn}
use Rattle.xdg_terms.proofs.keys.check_each_field.Goals as goal

pub loop-elem-preserved : goal.loop-elem-preserved
loop-elem-preserved c = each_turn (spec.key_faults (spec.missing causes.UnknownName (names_of (spec.fields_in c.args.fields.now)))) _ _ _ _ _ _ _ c.loop-elem-test.true c.elem-item.is c.check_field_key.ensures c.earlier-found.ensures c.loop-elem.invariant
