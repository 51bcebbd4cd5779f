use Rattle.xdg_engine.specs.declared.any_prop.AnyProp.TheVariants as any
use Rattle.xdg_engine.proofs.any_prop.AnyPropPropagator.laws.Goals as goal

pub returns-clause-still_closed : goal.returns-clause-still_closed
returns-clause-still_closed c p parts box problem is still = still

pub returns-clause-stays_still : goal.returns-clause-stays_still
returns-clause-stays_still c = elim [
  | any.Graph p ↦ c.laws.ensures.stays_still p
  | any.Order p ↦ c.laws-2.ensures.stays_still p
  | any.Agree p ↦ c.laws-3.ensures.stays_still p
  | any.Multi p ↦ c.laws-4.ensures.stays_still p
  | any.Link p ↦ c.laws-5.ensures.stays_still p
  | any.Rule p ↦ c.laws-6.ensures.stays_still p
  | any.Cost p ↦ c.laws-7.ensures.stays_still p
]
