use Rattle.std.proofs.Common.{◌≡◌, drop}
use Rattle.xdg_domain.specs.Valencies.{said_at}
use Rattle.xdg_lexicon.proofs.records.said.Given as goal

abbrev pub invariant-loop-field : goal.invariant-loop-field
invariant-loop-field l = said_at (drop l.field-index l.fields) l.key ≡ said_at l.fields l.key
