use Rattle.std.proofs.Common.{◌≡◌, drop}
use Rattle.xdg_principles.specs.Wanted.{same_domains}
use Rattle.xdg_principles.proofs.Compared.{domains}
use Rattle.xdg_principles.proofs.fitting.same_domains.Given as goal

abbrev pub invariant-loop-ty : goal.invariant-loop-ty
invariant-loop-ty l = same_domains (domains (drop l.ty-index l.a)) (domains l.others) ≡ same_domains (domains l.a) (domains l.b)
