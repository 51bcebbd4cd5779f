use Rattle.std.proofs.Common.{subst}
use Rattle.xdg_facts.proofs.Options.{same_mark}
use Rattle.xdg_propcore.specs.Families.{StandsAt}
use Rattle.xdg_propcore.specs.Standing.{Held}
use Rattle.xdg_propcore.specs.Uses.{IsClosedBy}
use Rattle.xdg_propcore.proofs.use_prop.UsePropPropagator.step_since.Goals as goal

pub take_step-requires-clause-held : goal.take_step-requires-clause-held
take_step-requires-clause-held g c mark some = subst (Held (λ parts box. IsClosedBy (StandsAt g.F.Family.holds (g.F.Family.fits c.args.self.now.family) c.args.self.now.number c.args.self.now.wakes.0) parts box) c.args.store.now) (same_mark c.args.since mark some) c.requires.held
