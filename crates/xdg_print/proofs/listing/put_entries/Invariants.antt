use Rattle.std.proofs.Common.{◌≡◌, ◌+◌, drop}
use Rattle.xdg_print.specs.Printed.{put_lines}
use Rattle.xdg_print.specs.LexiconText.{entries_lines}
use Rattle.xdg_print.proofs.listing.put_entries.Given as goal

abbrev pub invariant-loop-at : goal.invariant-loop-at
invariant-loop-at l =
    put_lines (entries_lines l.types l.place (l.at + 1) (drop l.at l.lexicon.entries)) l.printer ≡ put_lines (entries_lines l.types l.place 1 l.lexicon.entries) l.initial.printer
