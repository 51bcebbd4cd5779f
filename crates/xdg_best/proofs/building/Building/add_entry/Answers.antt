use Rattle.std.proofs.Common.{◌≡◌, ◌-◌, Bool, true, false, List, Some, get_or, refl, subst}
use Rattle.std.specs.Vec.{with_item}
use Rattle.xdg_best.specs.declared.building.Building.{Building}
use Rattle.xdg_best.specs.Building.{IsFreshPlace}
use Rattle.xdg_best.specs.Meaning.{entry_fault}
use Rattle.xdg_best.proofs.Added.{entry_goes, entry_refused}
use Rattle.xdg_best.proofs.building.Building.add_entry.Goals as goal

pub returns-in_ok-push-in-Ok : goal.returns-in_ok-push-in-Ok
returns-in_ok-push-in-Ok c earlier b =
    let new : Building = record { entries = c.push.new.self; labels = c.args.self.now.labels; seen = with_item c.args.self.now.seen c.in-Ok.place true } in
    entry_goes c.args.types.now c.args.entries earlier c.args.self.now new c.args.number.now c.args.cost c.in-Ok.place
    (subst (λ (z : List Bool). IsFreshPlace c.args.entries c.args.number.now z c.in-Ok.place) c.as_slice.ensures.value c.in-Ok.ensures.ok) c.in_ok-push-in-Ok.ensures.ok refl refl b

pub returns-in-Err : goal.returns-in-Err
returns-in-Err c earlier b =
    entry_refused c.args.types.now c.args.entries earlier c.args.self.now c.args.self.now c.args.number.now c.args.cost c.in-Err.fault
    (subst (λ (z : List Bool). entry_fault c.args.entries c.args.number.now (get_or z (c.args.number.now.value - 1) false) ≡ Some c.in-Err.fault) c.as_slice.ensures.value c.in-Err.ensures.err) b
