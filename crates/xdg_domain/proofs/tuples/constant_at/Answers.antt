use Rattle.std.proofs.Common.{◌/◌, ◌%◌, ap, ◌∙◌, arith}
use Rattle.xdg_domain.proofs.Sizing.{OnePlace, one_place}
use Rattle.xdg_domain.proofs.tuples.constant_at.Goals.{After-from}
use Rattle.xdg_domain.proofs.tuples.constant_at.Goals as goal

place : (c : After-from) → OnePlace c.args.fields.now c.args.number c.args.field c.tuples-later.result c.size-constants.result
place c = one_place _ c.split_at.result.1.now _ _ c.index-fields-field.result _ _ c.requires.small c.requires.few c.requires.below c.requires.field c.index-fields-field.is c.split_at.ensures.back c.tuples-later.ensures c.size-constants.ensures.size

pub nonzero_div-result : goal.nonzero_div-result
nonzero_div-result c = (place (goal.at.nonzero_div-result c).After-from).later

pub nonzero_rem-result : goal.nonzero_rem-result
nonzero_rem-result c = (place (goal.at.nonzero_rem-result c).After-from).some

pub overflow_cast-result : goal.overflow_cast-result
overflow_cast-result c = let h = place (goal.at.overflow_cast-result c).After-from in rw c.from.ensures (omega (arith, h.small))

pub returns : goal.returns
returns c = ap (λ m. m / c.tuples-later.result % c.size-constants.result) c.from.ensures ∙ (place (goal.at.returns c).After-from).is
