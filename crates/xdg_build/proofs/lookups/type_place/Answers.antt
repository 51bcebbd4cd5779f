use Rattle.xdg_build.proofs.Standing.{position_is}
use Rattle.xdg_build.proofs.lookups.type_place.Goals as goal

pub returns : goal.returns
returns c = position_is (λ one. one.0) c.args.name.now.text c.args.all.now _ _ c.unwrap_or.ensures c.place_typed.ensures
