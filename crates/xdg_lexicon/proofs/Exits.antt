-- What the exit of a `?` gives.
use Rattle.std.proofs.Common.{◌≡◌, Result, Err, sym, ap, ◌∙◌, subst}
use Rattle.std.proofs.lemmas.Result.{err_from_is_err_and}
use Rattle.std.specs.Result.{IsErrAnd}
use Rattle.xdg_base.specs.declared.faults.Stop.{Stop}

-- what holds of the error that was met holds of what is given
pub exit_gives : {T : Type 0} (P : Result T Stop → Type 0) (given : Result T Stop) (stop : Stop) → IsErrAnd given (λ error. error ≡ stop) → P (Err stop) → P given
exit_gives P given stop is h = let met = err_from_is_err_and given is in subst P (sym (met.1 ∙ ap Err met.2)) h
