use Rattle.std.proofs.Common.{arith}
use Rattle.xdg_stream.proofs.Finding.{adds_both, adds_lengths}
use Rattle.xdg_stream.proofs.forced.add_alone.Goals as goal

pub add_edges-more-requires-clause-count : goal.add_edges-more-requires-clause-count
add_edges-more-requires-clause-count c = (let e = adds_lengths c.args.store.now.now c.args.mark c.args.marks.now.items c.args.numbers.now.items c.add_first-added.new.marks.items c.add_first-added.new.numbers.items c.args.most c.add_first-added.result c.add_first-added.ensures.adds in let n = c.requires.count in omega (arith, e.0, e.1, n))

pub returns-clause-adds : goal.returns-clause-adds
returns-clause-adds c = adds_both c.args.store.now.now c.args.mark c.args.marks.now.items c.args.numbers.now.items c.add_first-added.new.marks.items c.add_first-added.new.numbers.items c.add_edges-more.new.marks.items c.add_edges-more.new.numbers.items c.args.most c.add_first-added.result c.add_edges-more.result c.add_first-added.ensures.adds c.add_edges-more.ensures.adds
