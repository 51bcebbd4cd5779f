use Rattle.xdg_split.proofs.Slotted.{put_more}
use Rattle.xdg_split.proofs.slots.put_all.Goals as goal

pub loop-found-preserved : goal.loop-found-preserved
loop-found-preserved c = λ jobs all fit. put_more jobs c.loop-found.share c.pop.new.self c.in-Some.found c.loop-found.slots.items c.exchange.new.slots.items c.in-Some.ensures c.exchange.ensures.slots (c.loop-found.invariant jobs all fit)

pub loop-found-preserved-in-Some : goal.loop-found-preserved-in-Some
loop-found-preserved-in-Some c = λ jobs all fit. put_more jobs c.loop-found.share c.pop.new.self c.in-Some.found c.loop-found.slots.items c.exchange.new.slots.items c.in-Some.ensures c.exchange.ensures.slots (c.loop-found.invariant jobs all fit)
