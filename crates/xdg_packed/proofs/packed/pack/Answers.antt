use Rattle.std.proofs.Common.{List, refl, ap, length}
use Rattle.xdg_packed.specs.Lexicon.{Entry, Lexicon}
use Rattle.xdg_packed.proofs.Unpacked.{made_packed, unpacked_columns}
use Rattle.xdg_packed.proofs.packed.pack.Goals as goal

pub invariant_of-result : goal.invariant_of-result
invariant_of-result c =
    made_packed c.args.entries.now c.in_ok-tables.tables.tables.items (length c.args.entries.now) c.in_ok-rows.rows c.args.dim c.args.field c.in_ok-index.index.words c.in_ok-index.index.numbers.items
    c.requires.words c.requires.equal c.requires.few c.in_ok-tables.ensures.right.right c.in_ok-tables.ensures.columns refl c.in_ok-rows.ensures c.in_ok-index.ensures

pub returns : goal.returns
returns c =
    let view : List Entry → Lexicon = λ entries. record { entries = entries; dim = c.args.dim; field = c.args.field } in
    ap view (unpacked_columns c.args.entries.now c.in_ok-tables.tables.tables.items (length c.args.entries.now) c.requires.equal c.in_ok-tables.ensures.columns refl)
