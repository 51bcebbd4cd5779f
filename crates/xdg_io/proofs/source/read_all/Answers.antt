use Rattle.std.proofs.lemmas.Result.{err_from_is_err_and}
use Rattle.xdg_io.proofs.Read.{read_too_many}
use Rattle.xdg_io.proofs.source.read_all.Goals as goal

pub returns-in_err-count-clause-reached : goal.returns-in_err-count-clause-reached
returns-in_err-count-clause-reached g c =
    let p = err_from_is_err_and c.from_residual.result c.from_residual.ensures.1 in
    rw (p.1, p.2) (λ reached is.
    let told = c.in_err-count.ensures.reached reached is in
    (told.0, read_too_many c.args.limit c.loop-bytes.invariant.0 told.1))
