use Rattle.std.proofs.Common.{take}
use Rattle.std.specs.List.{AllZip}
use Rattle.xdg_packed.specs.Lexicon.{Lexicon}
use Rattle.xdg_build.specs.Grammars.{grammar_of}
use Rattle.xdg_build.specs.Known.{IsKnownFor}
use Rattle.xdg_build.proofs.records.Records.new.Given as goal

abbrev pub invariant-loop : goal.invariant-loop
invariant-loop l = (lexicon : Lexicon) → AllZip (λ u known. IsKnownFor (grammar_of l.checked lexicon) u known.entries) (take l.counter l.checked.principles) l.kept.items
