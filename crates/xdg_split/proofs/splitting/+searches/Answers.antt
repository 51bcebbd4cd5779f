use denote.Param.Send.{IsSync, sendable}
use Rattle.std.proofs.Common.{◌++◌, ◌∙◌, ap₂, rules, sym}
use Rattle.std.proofs.Crossing.{crosses}
use Rattle.std.proofs.alloc.Global.TheSendSync as heap
use Rattle.std.proofs.option.Option.TheSendSync as option
use Rattle.std.proofs.lemmas.List.{take-append-drop}
use Rattle.std.proofs.lemmas.Result.{IfOk-at_ok}
use Rattle.xdg_split.specs.Splits.{IsSplit}
use Rattle.xdg_split.proofs.Shareable.{job_sync}
use Rattle.xdg_split.proofs.Turning.{split_halves}
use Rattle.xdg_split.proofs.splitting.+searches.Goals as goal

pub returns : goal.returns
returns g t c =
    let front = c.split_at.result.0.now in
    let back = c.split_at.result.1.now in
    let cut = sym (ap₂ ◌++◌ c.split_at.ensures.front c.split_at.ensures.back ∙ take-append-drop _ c.args.jobs.now) in
    split_halves c.args.first c.args.jobs.now front back c.in_ok-found.found.ending c.in_ok-later.later.ending c.in_ok-joined.joined.ending c.in_ok-found.found.found.items c.in_ok-later.later.found.items c.in_ok-joined.joined.found.items cut
    (IfOk-at_ok (λ found. IsSplit c.args.first front found.ending found.found.items) c.in_ok-found.was c.join-one.ensures.first)
    (IfOk-at_ok (λ found. IsSplit c.args.first back found.ending found.found.items) c.in_ok-later.was c.join-one.ensures.second)
    c.in_ok-joined.ensures

pub join-one-requires-send-F : goal.join-one-requires-send-F
join-one-requires-send-F g t c κs within =
    let shareable : IsSync g.row.P = search (rules, c.requires-raw) parts 8 in
    let lent : IsSync g.row.R = search (rules, c.requires-raw) parts 8 in
    search (job_sync, option.the_sync, heap.the_sync, crosses, sendable) depth 60 fits 20000
