use Rattle.std.proofs.Common.{◌≡◌, drop}
use Rattle.xdg_domain.specs.Valencies.{said_at}
use Rattle.xdg_packed.proofs.words.text_at.Given as goal

abbrev pub invariant-loop-said : goal.invariant-loop-said
invariant-loop-said l = said_at (drop l.said-index l.said-items) l.field ≡ said_at l.said-items l.field
