use Rattle.std.proofs.Common.{arith}
use Rattle.xdg_stream.proofs.Finding.{adds_one, one_longer}
use Rattle.xdg_stream.proofs.forced.add_first.Goals as goal

pub loop-at-preserved : goal.loop-at-preserved
loop-at-preserved c =
    let loop = c.loop-at in
    let now = loop.invariant in
    let marks = c.push_reserved.new.self.items in
    let numbers = c.push_reserved-in-loop-at.new.self.items in
    record {
      adds = adds_one c.args.store.now.now c.args.mark c.args.marks.now.items c.args.numbers.now.items loop.marks.items loop.numbers.items marks numbers c.args.most loop.added loop.at c.in-Some.value now.adds c.if-added-most.false now.here c.in-Some.ensures c.push_reserved.ensures.items c.push_reserved-in-loop-at.ensures.items;
      here = one_longer loop.numbers.items numbers c.in-Some.value loop.at now.here c.push_reserved-in-loop-at.ensures.items;
      rooms = (let a = c.push_reserved-in-loop-at.ensures.capacity in let b = now.rooms.0 in omega (arith, a, b), let a = c.push_reserved.ensures.capacity in let b = now.rooms.1 in omega (arith, a, b));
    }
