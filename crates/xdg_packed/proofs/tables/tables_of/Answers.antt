use Rattle.std.proofs.Common.{take, ap, ◌∙◌, arith}
use Rattle.std.proofs.lemmas.List.{length-take-le}
use Rattle.xdg_packed.specs.Lexicon.{columns}
use Rattle.xdg_packed.proofs.Adding.{within_entry, few_places, grown_columns, first_more, first_long}
use Rattle.xdg_packed.proofs.tables.tables_of.Goals as goal

pub add-requires-clause-within : goal.add-requires-clause-within
add-requires-clause-within c =
    within_entry (take c.loop-entry.entry-index c.args.entries.now) c.in_ok-copy_of_entry.field-0 c.loop-entry.made.tables.items
    (first_long c.args.entries.now c.loop-entry.entry-index c.entry-item.result c.in_ok-copy_of_entry.field-0 c.requires.equal c.loop-entry-test.true c.entry-item.is (c.in_ok-copy_of_entry.ensures ∙ c.as_slice.ensures))
    c.loop-entry.invariant.1

pub add-requires-clause-few : goal.add-requires-clause-few
add-requires-clause-few c =
    let inside = c.loop-entry-test.true in
    let size = length-take-le c.loop-entry.entry-index c.args.entries.now (omega (arith, inside)) in
    let most = c.requires.few in
    few_places (take c.loop-entry.entry-index c.args.entries.now) c.loop-entry.made.tables.items 4294967295 c.loop-entry.invariant.1 (omega (arith, size, inside, most))

pub loop-entry-preserved : goal.loop-entry-preserved
loop-entry-preserved c = (
  c.in_ok-add.ensures.right,
  grown_columns (take c.loop-entry.entry-index c.args.entries.now) c.in_ok-copy_of_entry.field-0 c.loop-entry.made.tables.items c.add.new.self.tables.items
      (first_long c.args.entries.now c.loop-entry.entry-index c.entry-item.result c.in_ok-copy_of_entry.field-0 c.requires.equal c.loop-entry-test.true c.entry-item.is (c.in_ok-copy_of_entry.ensures ∙ c.as_slice.ensures))
      c.loop-entry.invariant.1 c.in_ok-add.ensures.adds
      ∙ ap columns (first_more c.args.entries.now c.loop-entry.entry-index c.entry-item.result c.in_ok-copy_of_entry.field-0 c.loop-entry-test.true c.entry-item.is (c.in_ok-copy_of_entry.ensures ∙ c.as_slice.ensures)),
)
