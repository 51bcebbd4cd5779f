use Rattle.std.proofs.Common.{map, arith}
use Rattle.std.proofs.lemmas.List.{length-map}
use Rattle.xdg_build.proofs.Standing.{position_is}
use Rattle.xdg_names.proofs.Texts.{place_of-most}
use Rattle.xdg_build.proofs.lookups.node_number.Goals as goal

pub returns : goal.returns
returns c = position_is (λ text. text.now) c.args.name.now.text c.args.bound.now _ _ c.unwrap_or.ensures c.place_bound.ensures

pub overflow_cast-result : goal.overflow_cast-result
overflow_cast-result c =
    let is = position_is (λ text. text.now) c.args.name.now.text c.args.bound.now _ _ c.unwrap_or.ensures c.place_bound.ensures in
    omega (arith, is, place_of-most (map (λ text. text.now) c.args.bound.now) c.args.name.now.text, length-map c.args.bound.now (λ text. text.now))
