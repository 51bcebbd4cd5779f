use Rattle.std.proofs.Common.{◌≡◌, ◌-◌, ◌^◌, min, ap, sym, ◌∙◌}
use Rattle.xdg_domain.specs.Shapes.{shape, mapping, fields, count}
use Rattle.xdg_domain.specs.Defaults.{weight, weights}
use Rattle.xdg_domain.proofs.Made.{seen}
use Rattle.xdg_domain.proofs.Shaped.{shape_rec}
use Rattle.xdg_domain.proofs.defaults.+parts.Goals as goal
use Rattle.xdg_domain.proofs.Opened.{shape_map}
use Rattle.xdg_facts.proofs.Capped.{capped_parts, capped_one}

pub parts-returns-in-Map : goal.parts-returns-in-Map
parts-returns-in-Map t c =
    let e : shape c.args.ty.now ≡ mapping (shape c.in-Map.key) (shape c.in-Map.of) = ap shape c.in-Map.is ∙ shape_map c.in-Map.key c.in-Map.of in
    capped_parts (count (shape c.in-Map.key)) (weight (shape c.in-Map.of)) c.members-in-Map.result c.parts.result c.saturating_mul.result c.saturating_add-in-Map.result (2 ^ 64 - 1) (c.members-in-Map.ensures ∙ ap (λ k. min (count (shape k)) (2 ^ 64 - 1)) c.get-in-Map.ensures) (c.parts.ensures ∙ ap (λ u. min (weight (shape u)) (2 ^ 64 - 1)) c.get-in-Map-2.ensures) c.saturating_mul.ensures c.saturating_add-in-Map.ensures
    ∙ ap (λ s. min (weight s) (2 ^ 64 - 1)) (sym e)

pub parts-returns-in-Rec : goal.parts-returns-in-Rec
parts-returns-in-Rec t c =
    let e : shape c.args.ty.now ≡ fields (seen c.in-Rec.fields) = ap shape c.in-Rec.is ∙ shape_rec c.in-Rec.fields in
    capped_one (weights (seen c.in-Rec.fields)) c.field_parts.result c.saturating_add-in-Rec.result (2 ^ 64 - 1) (c.field_parts.ensures ∙ ap (λ all. min (weights (seen all)) (2 ^ 64 - 1)) c.as_slice.ensures) c.saturating_add-in-Rec.ensures
    ∙ ap (λ s. min (weight s) (2 ^ 64 - 1)) (sym e)
