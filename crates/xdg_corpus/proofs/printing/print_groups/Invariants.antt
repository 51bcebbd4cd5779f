use denote.Shadow.{shadow}
use denote.Text.{Utf8}
use Rattle.std.proofs.Common.{◌≡◌, ◌<◌, ◌≤◌, length}
use Rattle.xdg_build.specs.Stocks.{IsStock}
use Rattle.xdg_inputs.specs.Answers.{grammar_in, meaning_of}
use Rattle.xdg_corpus.specs.Groups.{TakesLines}
use Rattle.xdg_corpus.proofs.Searching.{PrintedSoFar}
use Rattle.xdg_corpus.proofs.printing.print_groups.Given as goal

abbrev pub invariant-loop-rest : goal.invariant-loop-rest
invariant-loop-rest g l =
    shadow (Utf8 l.from)
    × shadow (Utf8 l.rest)
    × PrintedSoFar (meaning_of l.expanded) l.options l.text l.from l.number (g.K.Sink.held l.initial.out) (g.K.Sink.held l.out)
    × (g.K.Sink.faults l.out ≡ g.K.Sink.faults l.initial.out)
    × IsStock (grammar_in l.expanded) l.stock
    × (1 ≤ l.size)
    × TakesLines (meaning_of l.expanded) l.options l.from l.group l.rest
    × (0 < length l.from → length l.rest < length l.from)

abbrev pub decreases-loop-rest : goal.decreases-loop-rest
decreases-loop-rest g l = length l.from
