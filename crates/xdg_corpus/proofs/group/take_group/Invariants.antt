use denote.Shadow.{shadow}
use denote.Text.{Utf8}
use Rattle.std.proofs.Common.{length}
use Rattle.xdg_build.specs.Stocks.{IsStock}
use Rattle.xdg_corpus.specs.Groups.{TakesLines}
use Rattle.xdg_inputs.specs.Answers.{grammar_in, meaning_of}
use Rattle.xdg_corpus.proofs.group.take_group.Given as goal

abbrev pub invariant-loop-alloc : goal.invariant-loop-alloc
invariant-loop-alloc l = shadow (Utf8 l.rest) × TakesLines (meaning_of l.expanded) l.options l.text l.group l.rest × IsStock (grammar_in l.expanded) l.stock

abbrev pub decreases-loop-alloc : goal.decreases-loop-alloc
decreases-loop-alloc l = length l.rest
