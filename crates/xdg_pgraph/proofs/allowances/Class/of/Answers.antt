use Rattle.std.proofs.Common.{length, ◌+◌}
use Rattle.std.proofs.lemmas.Bool.{leb-true}
use Rattle.xdg_pgraph.proofs.Keeping.{spans_of, whole_of}
use Rattle.xdg_pgraph.proofs.allowances.Class.of.Goals as goal

pub returns-clause-keeps : goal.returns-clause-keeps
returns-clause-keeps c =
    let made = c.with-allowed.result in
    let spans = spans_of c.args.numbers.now c.none.result made c.none.ensures.behind c.none.ensures.least c.with-allowed.ensures in
    record { spans = spans; whole = λ whole. whole_of c.args.numbers.now c.requires.rising made spans (leb-true made.behind (made.least + length c.args.numbers.now) whole) }
