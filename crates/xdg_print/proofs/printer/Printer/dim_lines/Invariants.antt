use Rattle.std.proofs.Common.{◌≡◌, drop, map}
use Rattle.xdg_print.specs.Printed.{put_lines}
use Rattle.xdg_print.proofs.WrittenStatements.{part_line}
use Rattle.xdg_print.proofs.printer.Printer.dim_lines.Given as goal

abbrev pub invariant-loop-part : goal.invariant-loop-part
invariant-loop-part l = put_lines (map part_line (drop l.part-index l.parts)) l.self ≡ put_lines (map part_line l.parts) l.initial.self
