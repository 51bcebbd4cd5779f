use Rattle.std.proofs.Common.{◌≡◌, drop}
use Rattle.xdg_domain.specs.Valencies.{said_at}
use Rattle.xdg_build.proofs.feats.says.Given as goal

abbrev pub invariant-loop-said : goal.invariant-loop-said
invariant-loop-said l = said_at (drop l.said-index l.fields) l.place ≡ said_at l.fields l.place
