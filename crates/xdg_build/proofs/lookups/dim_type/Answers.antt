use Rattle.std.proofs.Common.{◌≡◌, ◌<◌, get_or, length, sym, ◌∙◌, arith}
use Rattle.std.proofs.lemmas.List.{get_or-map, get_or_default, length-map}
use Rattle.xdg_formula.specs.Tables.{no_dim}
use Rattle.xdg_formula.proofs.Turns.{place_within}
use Rattle.xdg_build.proofs.lookups.dim_type.Goals as goal

pub returns : goal.returns
returns c =
    let table = c.args.types.now in
    let l : c.args.number < length table.used = omega (arith, c.requires, length-map table.used (λ k. get_or table.dims k no_dim)) in
    let within = place_within (length table.dims) table.used c.args.number 0 c.dims.ensures.keeps.used l in
    let lent : c.index-dims-place.result ≡ get_or table.dims (get_or table.used c.args.number 0) c.index-dims-place.result = cc in
    lent ∙ get_or_default table.dims (get_or table.used c.args.number 0) c.index-dims-place.result no_dim within ∙ sym (get_or-map (λ k. get_or table.dims k no_dim) table.used c.args.number 0 no_dim l)
