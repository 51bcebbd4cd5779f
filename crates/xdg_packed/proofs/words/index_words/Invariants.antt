use Rattle.std.proofs.Common.{map, take}
use Rattle.xdg_packed.specs.Lexicon.{word_of}
use Rattle.xdg_packed.specs.Words.{IsWordIndex}
use Rattle.xdg_packed.proofs.words.index_words.Given as goal

abbrev pub invariant-loop-i : goal.invariant-loop-i
invariant-loop-i l = IsWordIndex (map (word_of l.dim l.field) (take l.i l.entries)) l.made.words l.made.numbers.items
