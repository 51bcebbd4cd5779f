use Rattle.std.proofs.Common.{◌≡◌, drop}
use Rattle.xdg_print.specs.Printed.{put_lines}
use Rattle.xdg_print.specs.LexiconText.{dim_lines}
use Rattle.xdg_print.proofs.listing.put_dim_lines.Given as goal

abbrev pub invariant-loop-place : goal.invariant-loop-place
invariant-loop-place l = put_lines (dim_lines l.dims (drop l.place l.used) (drop l.place l.entry)) l.printer ≡ put_lines (dim_lines l.dims l.used l.entry) l.initial.printer
