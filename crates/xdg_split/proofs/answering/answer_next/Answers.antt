use Rattle.xdg_split.proofs.Slotted.{placed_more}
use Rattle.xdg_split.proofs.answering.answer_next.Goals as goal

pub loop-preserved : goal.loop-preserved
loop-preserved g c =
    placed_more c.args.jobs.now c.loop.found c.push.new.self _ c.in_ok-answer.answer c.in-Some-get.job.now c.loop.invariant c.in-Some-get.ensures.lookup.1 c.in_ok-answer.ensures c.in_ok-push.ensures.ok
