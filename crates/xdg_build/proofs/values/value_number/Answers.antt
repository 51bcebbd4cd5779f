use Rattle.std.proofs.Common.{Err, subst}
use Rattle.xdg_base.specs.declared.faults.Stop.{Stop}
use Rattle.xdg_domain.specs.Shapes.{shape}
use Rattle.xdg_terms.specs.Answers.{Tells}
use Rattle.xdg_build.proofs.Numbers.{number_is, is_right, small_type}
use Rattle.xdg_build.proofs.values.value_number.Goals as goal

pub value-requires : goal.value-requires
value-requires c = small_type (shape c.args.ty.now) c.requires.small

pub returns-in-Ok : goal.returns-in-Ok
returns-in-Ok c = number_is (shape c.args.ty.now) c.args.written.now _ c.in-Ok.meant c.number_in.result c.new.ensures c.requires.small c.requires.right c.in-Ok.ensures.1.0 c.number_in.ensures

pub returns-in-Err-Fault : goal.returns-in-Err-Fault
returns-in-Err-Fault c =
    let told = subst (λ (stop : Stop). Tells c.new.result (shape c.args.ty.now) c.args.written.now (Err stop)) c.in-Err-Fault.field-0-is c.in-Err-Fault.ensures in
    absurd (is_right (shape c.args.ty.now) c.args.written.now _ c.new.ensures c.requires.small c.requires.right c.in-Err-Fault.field-0-0 told.0)
