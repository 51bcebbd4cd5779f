use Rattle.std.proofs.Common.{ℕ, ◌+◌, List, map, take, subst}
use Rattle.std.specs.List.{sum_by}
use Rattle.xdg_classes.specs.declared.bodies.Call.{Call}
use Rattle.xdg_classes.specs.Definitions.{class_named}
use Rattle.xdg_classes.specs.Lent.{class_def, called}
use Rattle.xdg_check.specs.Weights.{call_bytes, use_bytes, IsCountOf}
use Rattle.xdg_check.proofs.LeftOut.{count_next, calls_end}
use Rattle.xdg_check.proofs.weighing.with_body.Goals as goal

pub loop-call-preserved : goal.loop-call-preserved
loop-call-preserved c = λ named all so_far.
    let cs = map class_def c.args.classes.now.definitions in
    let before = all + sum_by (λ (call : Call). call_bytes cs (called call)) (take c.loop-call.call-index c.as_slice-call-items.result.now) in
    count_next (λ (call : Call). call_bytes cs (called call)) c.as_slice-call-items.result.now c.loop-call.call-index c.call-item.result all c.loop-call.bytes c.in_ok-bytes.bytes
    c.loop-call-test.true c.call-item.is
    (λ h. subst (λ (name : List ℕ). IsCountOf c.in_ok-bytes.bytes (before + use_bytes (class_named cs name) c.call-item.result.args.now)) c.as_str.ensures (c.in_ok-bytes.ensures named before h))
    (c.loop-call.invariant named all so_far)

pub returns : goal.returns
returns c = λ named all so_far.
    calls_end (map class_def c.args.classes.now.definitions) c.args.body.now.kind c.in_ok-uses.uses c.as_slice-call-items.result.now c.loop-call.call-index all c.loop-call.bytes
    c.in_ok-uses.ensures c.as_slice-call-items.ensures c.loop-call-test.false (c.loop-call.invariant named all so_far)
