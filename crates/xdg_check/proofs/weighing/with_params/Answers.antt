use Rattle.std.proofs.Common.{◌+◌, take}
use Rattle.std.specs.List.{sum_by}
use Rattle.xdg_check.specs.Weights.{param_bytes}
use Rattle.xdg_check.proofs.LeftOut.{count_next, count_more, count_end}
use Rattle.xdg_check.proofs.weighing.with_params.Goals as goal

pub loop-param-preserved : goal.loop-param-preserved
loop-param-preserved c = λ all so_far.
    let f = param_bytes c.args.known.now in
    count_next f c.args.params.now c.loop-param.param-index c.param-item.result all c.loop-param.bytes c.with_param-bytes.result c.loop-param-test.true c.param-item.is
    (count_more (all + sum_by f (take c.loop-param.param-index c.args.params.now)) c.loop-param.bytes c.with_param-bytes.result (f c.param-item.result) c.with_param-bytes.ensures) (c.loop-param.invariant all so_far)

pub returns : goal.returns
returns c = λ all so_far. count_end (param_bytes c.args.known.now) c.args.params.now c.loop-param.param-index all c.loop-param.bytes c.loop-param-test.false (c.loop-param.invariant all so_far)
