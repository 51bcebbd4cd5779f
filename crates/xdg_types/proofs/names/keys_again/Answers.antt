use Rattle.std.proofs.Common.{◌≡◌, subst}
use Rattle.std.specs.Prelude.{IfOk}
use Rattle.xdg_names.specs.First.{first}
use Rattle.xdg_types.specs.NameFaults.{repeats}
use Rattle.xdg_types.specs.Parts.{keys}
use Rattle.xdg_types.proofs.names.keys_again.Goals as goal

pub returns : goal.returns
returns g c = subst (λ s. IfOk c.keys_seen.result (λ found. found ≡ first (repeats s (keys c.args.pairs.now)))) c.new-seen.ensures c.keys_seen.ensures.found
