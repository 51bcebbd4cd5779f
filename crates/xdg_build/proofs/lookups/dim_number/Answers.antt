use Rattle.std.proofs.Common.{ℕ, ap, ap₂, ◌∙◌, get_or, length, arith}
use Rattle.std.proofs.lemmas.List.{length-map}
use Rattle.xdg_formula.specs.Tables.{no_dim}
use Rattle.xdg_build.specs.Formulas.{place_or_zero}
use Rattle.xdg_build.specs.Places.{names_at}
use Rattle.xdg_build.proofs.Standing.{position_is}
use Rattle.xdg_names.proofs.Texts.{place_of-most}
use Rattle.xdg_build.proofs.lookups.dim_number.Goals as goal

pub overflow_cast-result : goal.overflow_cast-result
overflow_cast-result c =
    let name = λ (k : ℕ). (get_or c.dims.result.now k no_dim).name in
    let is = position_is name c.args.name.now.text c.used.result.now _ _ c.unwrap_or.ensures c.dim_place.ensures in
    let most = place_of-most (names_at c.dims.result.now c.used.result.now) c.args.name.now.text in
    omega (arith, is, most, length-map c.used.result.now name, c.used.ensures.keeps.few_used, ap length c.used.ensures.same)

pub returns-clause-at : goal.returns-clause-at
returns-clause-at c =
    position_is (λ k. (get_or c.dims.result.now k no_dim).name) c.args.name.now.text c.used.result.now _ _ c.unwrap_or.ensures c.dim_place.ensures
    ∙ ap₂ (λ dims used. place_or_zero (names_at dims used) c.args.name.now.text) c.dims.ensures.same c.used.ensures.same
