use Rattle.std.proofs.Common.{◌≤◌, length, arith}
use Rattle.xdg_lexicon.specs.Growing.{entries_in}
use Rattle.xdg_lexicon.proofs.Bounds.{few_scanned, few_each, crowded}
use Rattle.xdg_lexicon.proofs.growing.limited.Goals as goal

pub returns-then-growing-le-MOST_OF_WORD : goal.returns-then-growing-le-MOST_OF_WORD
returns-then-growing-le-MOST_OF_WORD c table is right =
    let few : length (entries_in c.args.growing.now) ≤ 65536 = omega (arith, c.len-count.ensures, c.if-count-gt-MOST_ENTRIES.false) in
    let most : c.args.growing.now.most ≤ 1024 = omega (arith, c.if-growing-le-MOST_OF_WORD.true) in
    (few, few_each table c.args.growing.now.packing is right.place (λ word. let less = right.bound word in omega (arith, less, most)))

pub returns-in-None : goal.returns-in-None
returns-in-None c table is right =
    let few : length (entries_in c.args.growing.now) ≤ 65536 = omega (arith, c.len-count.ensures, c.if-count-gt-MOST_ENTRIES.false) in
    (few, few_each table c.args.growing.now.packing is right.place (few_scanned c.args.growing.now.packing c.in-None.ensures.first))

pub returns-in-Some : goal.returns-in-Some
returns-in-Some c table is right =
    let few : length (entries_in c.args.growing.now) ≤ 65536 = omega (arith, c.len-count.ensures, c.if-count-gt-MOST_ENTRIES.false) in
    crowded table c.args.growing.now.packing c.args.at c.in-Some.reached c.passed-in-Some.result right.place few c.in-Some.ensures.first c.in-Some.ensures.fits c.passed-in-Some.ensures
