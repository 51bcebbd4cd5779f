use Rattle.std.proofs.Common.{◌≤◌, length, [], sym, subst}
use Rattle.xdg_terms.proofs.Placing.{small_at, wrong_length}
use Rattle.xdg_terms.proofs.tuples.places.Goals as goal

pub returns-then-names-fields : goal.returns-then-names-fields
returns-then-names-fields c = wrong_length [] c.args.fields.now c.args.names.now c.if-names-fields.true

pub constant_place-requires : goal.constant_place-requires
constant_place-requires c = record { few = subst (λ cs. length cs ≤ 64) (sym c.constants.ensures) (small_at c.args.fields.now c.loop-i.i c.index-fields-i.result c.loop-i-test.true c.index-fields-i.is c.requires) }
