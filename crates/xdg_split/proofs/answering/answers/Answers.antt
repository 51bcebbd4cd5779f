use denote.Param.Send.{IsSync, sendable}
use Rattle.std.proofs.Common.{rules}
use Rattle.std.proofs.Crossing.{crosses}
use Rattle.std.proofs.alloc.Global.TheSendSync as heap
use Rattle.std.proofs.sync.atomic.AtomicUsize.TheSendSync as atomic
use Rattle.std.proofs.vec.Vec.TheSendSync as vec
use Rattle.xdg_split.proofs.Shareable.{job_sync}
use Rattle.xdg_split.proofs.answering.answers.Goals as goal

pub map_indices-requires-sync-F : goal.map_indices-requires-sync-F
map_indices-requires-sync-F g c κs within =
    let shareable : IsSync g.row.P = search rules parts 8 in
    search (job_sync, atomic.the_sync, vec.the_sync, heap.the_sync, crosses, sendable) depth 60 fits 20000
