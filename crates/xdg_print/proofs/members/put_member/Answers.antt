use Rattle.std.proofs.Common.{◌∙◌, ap}
use Rattle.xdg_domain.specs.Shapes.{sizes_in}
use Rattle.xdg_domain.specs.Tuples.{places}
use Rattle.xdg_print.proofs.Put.{finish}
use Rattle.xdg_print.proofs.Layered.{of_tuple}
use Rattle.xdg_print.proofs.Stood.{tuple_done}
use Rattle.xdg_print.proofs.members.put_member.Goals as goal

pub returns-in_ok-put_fields-in-Tuple : goal.returns-in_ok-put_fields-in-Tuple
returns-in_ok-put_fields-in-Tuple c =
    let is = of_tuple c.args.ty.now c.in-Tuple.types c.in-Tuple.is in
    finish c.mark-in-Tuple.result c.mark-in-Tuple.new.self
    (tuple_done _ c.in-Tuple.types c.as_slice-in-Tuple.result.now c.tuple_of.result c.args.number c.args.printer.now c.mark.new.self c.put_fields.new.printer is c.as_slice-in-Tuple.ensures
    (c.tuple_of.ensures.places ∙ ap (λ s. places (sizes_in s) c.args.number) is) c.in_ok-mark-in-Tuple.ensures c.in_ok-put_fields-in-Tuple.ensures)
    c.mark-in-Tuple.ensures
