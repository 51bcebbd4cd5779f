use Rattle.std.proofs.Common.{sym, ◌∙◌, arith}
use Rattle.xdg_names.proofs.Texts.{place_of-Some}
use Rattle.xdg_terms.proofs.parts.constant_place.Goals as goal

pub overflow_cast-result : goal.overflow_cast-result
overflow_cast-result c = let is = place_of-Some c.args.constants.now c.args.name.now c.in-Some.place (sym c.place_of.ensures ∙ c.in-Some.is) in omega (arith, is.0, c.requires)
