use Rattle.xdg_nodeset.specs.Tables.{Meet}
use Rattle.std.proofs.Common.{[], get_or}
use Rattle.xdg_judge.proofs.paths.meets.Given as goal
use Rattle.xdg_facts.proofs.Meetings.{NoneMeet}

abbrev pub invariant-loop-label : goal.invariant-loop-label
invariant-loop-label l = NoneMeet (λ label. Meet (get_or l.sets label []) l.nodes) l.labels l.label-index
