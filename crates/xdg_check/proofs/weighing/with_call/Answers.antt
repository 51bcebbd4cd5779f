use Rattle.std.proofs.Common.{◌+◌, sym, subst}
use Rattle.xdg_check.specs.Weights.{IsCountOf}
use Rattle.xdg_check.proofs.weighing.with_call.Goals as goal

pub returns : goal.returns
returns c = λ named all so_far.
    subst (λ n. IsCountOf c.in_ok-bytes.bytes (all + n)) (sym (c.params_of-params.ensures named c.args.args.now)) (c.in_ok-bytes.ensures all so_far)
