use Rattle.std.proofs.Common.{◌∙◌, List, ℕ, ap, refl, sym}
use Rattle.xdg_base.specs.declared.ids.DimId.{DimId}
use Rattle.xdg_base.specs.declared.ids.LabelId.{LabelId}
use Rattle.xdg_best.specs.declared.building.Building.{Building}
use Rattle.xdg_best.specs.Building.{has_place}
use Rattle.xdg_best.proofs.Added.{edge_goes, edge_twice, edge_wrong}
use Rattle.xdg_best.proofs.building.Building.add_edge.Goals as goal

pub returns-then-has_place : goal.returns-then-has_place
returns-then-has_place c earlier b =
    edge_twice c.args.types.now c.args.entries earlier c.args.self.now c.args.self.now c.args.dim.now c.args.label.now c.args.cost c.in-Ok.place c.at.result (sym c.in-Ok.ensures)
    (ap (λ (z : List (DimId × LabelId × ℕ)). has_place z c.in-Ok.place) (sym c.as_slice.ensures) ∙ sym c.has_place.ensures ∙ c.if-has_place.true) c.at.ensures b

pub returns-in_ok-push-in-Ok : goal.returns-in_ok-push-in-Ok
returns-in_ok-push-in-Ok c earlier b =
    let new : Building = record { entries = c.args.self.now.entries; labels = c.push.new.self; seen = c.args.self.now.seen } in
    edge_goes c.args.types.now c.args.entries earlier c.args.self.now new c.args.dim.now c.args.label.now c.args.cost c.in-Ok.place (sym c.in-Ok.ensures)
    (ap (λ (z : List (DimId × LabelId × ℕ)). has_place z c.in-Ok.place) (sym c.as_slice.ensures) ∙ sym c.has_place.ensures ∙ c.if-has_place.false) c.in_ok-push-in-Ok.ensures.ok refl refl b

pub returns-in-Err : goal.returns-in-Err
returns-in-Err c earlier b = edge_wrong c.args.types.now c.args.entries earlier c.args.self.now c.args.dim.now c.args.label.now c.args.cost c.in-Err.fault (sym c.in-Err.ensures)
