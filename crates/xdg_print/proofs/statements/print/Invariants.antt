use Rattle.std.proofs.Common.{◌≡◌, drop, flat_map}
use Rattle.xdg_print.specs.Printed.{put_lines}
use Rattle.xdg_print.proofs.WrittenStatements.{lines_in}
use Rattle.xdg_print.proofs.statements.print.Given as goal

abbrev pub invariant-loop-statement : goal.invariant-loop-statement
invariant-loop-statement l = put_lines (flat_map lines_in (drop l.statement-index l.statement-items)) l.printer ≡ put_lines (flat_map lines_in l.statement-items) l.initial.printer
