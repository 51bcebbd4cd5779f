use Rattle.std.proofs.Common.{◌≡◌, drop}
use Rattle.xdg_principles.specs.Wanted.{same_texts}
use Rattle.xdg_principles.proofs.fitting.same_texts.Given as goal

abbrev pub invariant-loop-text : goal.invariant-loop-text
invariant-loop-text l = same_texts (drop l.text-index l.a) l.others ≡ same_texts l.a l.b
