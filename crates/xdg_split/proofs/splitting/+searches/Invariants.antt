use Rattle.std.proofs.Common.{length}
use Rattle.xdg_split.proofs.splitting.+searches.Given as goal

abbrev pub decreases-join+arg2 : goal.decreases-join+arg2
decreases-join+arg2 g l = length l.front.now

abbrev pub decreases-join+arg3 : goal.decreases-join+arg3
decreases-join+arg3 g l = length l.back.now

abbrev pub decreases-search_all : goal.decreases-search_all
decreases-search_all g l = length l.jobs.now
