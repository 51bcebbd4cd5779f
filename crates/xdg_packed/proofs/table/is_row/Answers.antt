use Rattle.std.proofs.Common.{arith, ◌∙◌}
use Rattle.xdg_packed.proofs.Packs.{compared}
use Rattle.xdg_packed.proofs.table.is_row.Goals as goal

pub returns : goal.returns
returns c =
    compared c.args.rows.now c.args.place _ c.index-rows-place.result _ _ _ (omega (arith, c.if-place-rows.false)) (c.as_slice.ensures ∙ c.index-rows-place.is) c.as_slice-2.ensures c.same_fields.ensures
