use Rattle.xdg_packed.proofs.Growing.{table_right, table_spelled, table_few, entered_more}
use Rattle.xdg_packed.proofs.tables.Tables.add.Goals as goal

pub add-requires-clause-right : goal.add-requires-clause-right
add-requires-clause-right c =
    table_right c.args.self.now.tables.items c.args.entry c.loop-fields.rest c.pop.new.self c.in-Some.fields c.loop-fields.self.tables.items c.loop-fields.self.spellings.items c.len-dim.result c.loop-fields.invariant c.in-Some.ensures c.len-dim.ensures
    c.index_mut.result.now c.index_mut-in-Some.result.now c.index_mut.ensures.value c.index_mut-in-Some.ensures.value

pub add-requires-clause-spelled : goal.add-requires-clause-spelled
add-requires-clause-spelled c =
    table_spelled c.args.self.now.tables.items c.args.entry c.loop-fields.rest c.pop.new.self c.in-Some.fields c.loop-fields.self.tables.items c.loop-fields.self.spellings.items c.len-dim.result c.loop-fields.invariant c.in-Some.ensures c.len-dim.ensures
    c.index_mut.result.now c.index_mut-in-Some.result.now c.index_mut.ensures.value c.index_mut-in-Some.ensures.value

pub add-requires-clause-few : goal.add-requires-clause-few
add-requires-clause-few c =
    table_few c.args.self.now.tables.items c.args.entry c.loop-fields.rest c.pop.new.self c.in-Some.fields c.loop-fields.self.tables.items c.loop-fields.self.spellings.items c.len-dim.result c.loop-fields.invariant c.in-Some.ensures c.len-dim.ensures
    c.index_mut.result.now c.index_mut-in-Some.result.now c.index_mut.ensures.value c.index_mut-in-Some.ensures.value 4294967295 c.requires.few

pub loop-fields-preserved : goal.loop-fields-preserved
loop-fields-preserved c =
    entered_more c.args.self.now.tables.items c.args.entry c.loop-fields.rest c.pop.new.self c.in-Some.fields c.loop-fields.self.tables.items c.loop-fields.self.spellings.items c.len-dim.result c.loop-fields.invariant c.in-Some.ensures c.len-dim.ensures
    c.index_mut.result.now c.index_mut-in-Some.result.now c.index_mut.ensures.value c.index_mut-in-Some.ensures.value
    c.add.new.self c.add.new.spellings c.in_ok-add.ensures.right c.in_ok-add.ensures.spelled c.in_ok-add.ensures.adds
