use Rattle.std.proofs.Common.{◌≡◌, ◌∷◌, map, take}
use Rattle.std.specs.Prelude.{decimal}
use Rattle.xdg_text.specs.Constants.{quoted}
use Rattle.xdg_text.specs.Words.{word_text}
use Rattle.xdg_arrange.proofs.searching.lead_of.Given as goal

abbrev pub invariant-loop-word : goal.invariant-loop-word
invariant-loop-word l = map word_text l.made.items ≡ decimal l.number ∷ map (λ word. quoted word.text) (take l.word-index l.words)
