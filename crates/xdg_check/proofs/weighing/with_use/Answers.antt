use Rattle.std.proofs.Common.{◌+◌, ap, ◌∙◌, subst}
use Rattle.xdg_check.specs.Weights.{left_out_bytes, IsCountOf}
use Rattle.xdg_check.proofs.LeftOut.{bytes_known}
use Rattle.xdg_check.proofs.weighing.with_use.Goals as goal

pub returns : goal.returns
returns c = λ all so_far.
    subst (λ n. IsCountOf c.with_params.result (all + n)) (ap (λ k. left_out_bytes k c.args.params.now) c.in_ok-known.ensures ∙ bytes_known c.args.args.now c.args.params.now) (c.with_params.ensures all so_far)
