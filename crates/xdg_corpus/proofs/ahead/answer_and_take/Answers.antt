use denote.Param.Send.{IsSync, sendable}
use Rattle.std.proofs.Common.{rules}
use Rattle.std.proofs.Crossing.{crosses}
use Rattle.std.proofs.alloc.Global.TheSendSync as heap
use Rattle.xdg_split.proofs.Shareable.{job_sync}
use Rattle.xdg_engine.proofs.any_prop.AnyProp.TheSendSync as any
use Rattle.xdg_corpus.proofs.ahead.answer_and_take.Goals as goal

pub join-requires-send-F : goal.join-requires-send-F
join-requires-send-F g c κs within =
    let lent : IsSync g.row.R = search rules parts 8 in
    search (job_sync, any.the_sync, heap.the_sync, crosses, sendable) depth 60 fits 20000
