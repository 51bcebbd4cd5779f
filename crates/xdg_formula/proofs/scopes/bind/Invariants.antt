use Rattle.std.proofs.Common.{◌≡◌, map, take}
use Rattle.xdg_formula.proofs.scopes.bind.Given as goal

abbrev pub invariant-loop-text : goal.invariant-loop-text
invariant-loop-text l = map (λ text. text.now) l.made.items ≡ map (λ text. text.now) (take l.text-index l.bound)
