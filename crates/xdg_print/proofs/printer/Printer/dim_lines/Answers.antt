use Rattle.std.proofs.Common.{arith}
use Rattle.xdg_print.proofs.Put.{next_line, all_lines, finish}
use Rattle.xdg_print.proofs.WrittenStatements.{part_line, dim_done}
use Rattle.xdg_print.proofs.printer.Printer.dim_lines.Goals as goal

pub loop-part-preserved : goal.loop-part-preserved
loop-part-preserved c = next_line c.loop-part.self part_line c.args.parts.now c.loop-part.part-index c.part-item.result c.loop-part-test.true c.part-item.is c.loop-part.invariant c.in_ok-part_line.ensures

pub returns : goal.returns
returns c =
    let all = all_lines c.loop-part.self part_line c.args.parts.now c.loop-part.part-index (omega (arith, c.loop-part-test.false)) c.loop-part.invariant in
    let same = dim_done c.args.name.now c.args.parts.now c.args.self.now c.begin.new.self c.named.new.self c.mark.new.self c.end.new.self c.loop-part.self c.begin-2.new.self c.mark-2.new.self c.in_ok-begin.ensures c.in_ok-named.ensures c.in_ok-mark.ensures c.in_ok-end.ensures all c.in_ok-begin-2.ensures c.in_ok-mark-2.ensures in
    finish c.end-2.result c.end-2.new.self same c.end-2.ensures
