use Rattle.std.proofs.Common.{length}
use Rattle.xdg_split.proofs.Turning.{Turned}
use Rattle.xdg_split.proofs.splitting.search_in_turns.Given as goal

abbrev pub invariant-loop-rest : goal.invariant-loop-rest
invariant-loop-rest g l = Turned l.first l.jobs l.rest l.answer.ending l.answer.found.items

abbrev pub decreases-loop-rest : goal.decreases-loop-rest
decreases-loop-rest g l = length l.rest
