use Rattle.std.proofs.Common.{◌≡◌, drop, map}
use Rattle.xdg_formula.proofs.scopes.is_bound.Given as goal
use Rattle.xdg_names.specs.Texts.{has_text}

abbrev pub invariant-loop-other : goal.invariant-loop-other
invariant-loop-other l = has_text (map (λ text. text.now) (drop l.other-index l.bound)) l.name ≡ has_text (map (λ text. text.now) l.bound) l.name
