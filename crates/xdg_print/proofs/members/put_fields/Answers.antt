use Rattle.std.proofs.Common.{[], ap, ◌∙◌, ◌<◌, length, arith}
use Rattle.xdg_print.proofs.Layered.{field_within}
use Rattle.xdg_print.proofs.Stood.{next_field, all_fields}
use Rattle.xdg_print.proofs.members.put_fields.Goals as goal
use Rattle.xdg_facts.proofs.Lists.{any_default}

pub at-requires : goal.at-requires
at-requires c = (field_within c.args.types.now c.args.tuple.now c.loop-field.field c.index-types-field.result c.requires c.loop-field-test.true c.index-types-field.is).0

pub bounds-names-at : goal.bounds-names-at
bounds-names-at c =
    let within = (field_within c.args.types.now c.args.tuple.now c.loop-field.field c.index-types-field.result c.requires c.loop-field-test.true c.index-types-field.is).1 in
    let same = ap length c.constants-names.ensures in omega (arith, within, c.at.ensures, same)

pub loop-field-preserved : goal.loop-field-preserved
loop-field-preserved c =
    let within : c.at.result < length c.constants-names.result.now =
    (let below = (field_within c.args.types.now c.args.tuple.now c.loop-field.field c.index-types-field.result c.requires c.loop-field-test.true c.index-types-field.is).1 in
    let same = ap length c.constants-names.ensures in omega (arith, below, c.at.ensures, same)) in
    next_field c.args.types.now c.args.tuple.now c.loop-field.field c.index-types-field.result c.constants-names.result.now c.at.result c.as_str.result.now c.loop-field.printer c.constant.new.self _
    c.requires c.loop-field-test.true c.index-types-field.is c.constants-names.ensures c.at.ensures
    (c.as_str.ensures ∙ c.index-names-at.is ∙ any_default c.constants-names.result.now c.at.result c.index-names-at.result [] within) c.in_ok-constant.ensures c.loop-field.invariant

pub returns : goal.returns
returns c = all_fields c.args.types.now c.args.tuple.now c.loop-field.field c.loop-field.printer _ (omega (arith, c.loop-field-test.false)) c.loop-field.invariant
