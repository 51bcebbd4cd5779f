use Rattle.std.proofs.Common.{arith, refl}
use Rattle.xdg_trials.proofs.Binary.{first_left}
use Rattle.xdg_trials.proofs.searching.ApartFront.back.Goals as goal

pub returns-clause-backs : goal.returns-clause-backs
returns-clause-backs c = first_left c.self.inside.numbers c.args.self.now c.self.inside.len _ c.self.view_is c.if-self-eq0.false (let e = c.self.told in omega (arith, e)) c.requires.fits c.requires.counts refl
