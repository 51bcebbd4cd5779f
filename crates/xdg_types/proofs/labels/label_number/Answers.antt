use Rattle.std.proofs.Common.{ap, ◌∙◌, arith, unwrap_or}
use Rattle.xdg_names.proofs.Texts.{place_of-most}
use Rattle.xdg_types.proofs.labels.label_number.Goals as goal

pub overflow_cast-result : goal.overflow_cast-result
overflow_cast-result c =
    let is = c.unwrap_or.ensures ∙ ap (λ o. unwrap_or o 0) c.place_of.ensures in
    omega (arith, is, place_of-most c.args.labels.now c.as_str.result.now, c.requires)
