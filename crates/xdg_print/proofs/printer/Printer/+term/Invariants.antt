use Rattle.std.proofs.Common.{◌≡◌, drop, flat_map}
use Rattle.xdg_print.specs.Printed.{put}
use Rattle.xdg_print.proofs.WrittenTerms.{part_of}
use Rattle.xdg_print.proofs.printer.Printer.+term.Given as goal

abbrev pub invariant-term-loop-elem : goal.invariant-term-loop-elem
invariant-term-loop-elem l = put (flat_map (part_of l.params) (drop l.elem-index l.elem-items)) l.self ≡ put (flat_map (part_of l.params) l.elem-items) l.initial.self
