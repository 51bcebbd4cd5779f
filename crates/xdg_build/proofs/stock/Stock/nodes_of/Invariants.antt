use Rattle.std.proofs.Common.{◌≡◌, map, take}
use Rattle.xdg_build.specs.Grammars.{grammar_of}
use Rattle.xdg_build.specs.Stocks.{IsStock, word_plan}
use Rattle.xdg_build.proofs.stock.Stock.nodes_of.Given as goal

abbrev pub invariant-loop-word : goal.invariant-loop-word
invariant-loop-word l = (l.nodes ≡ map (λ word. word_plan (grammar_of l.checked l.packed) word.text) (take l.word-index l.words)) × IsStock (grammar_of l.checked l.packed) l.self
