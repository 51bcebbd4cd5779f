use Rattle.std.proofs.Common.{arith, refl}
use Rattle.xdg_facts.proofs.Exists.{one_listing}
use Rattle.xdg_facts.proofs.Fitting.{fits_length}
use Rattle.xdg_facts.proofs.Compared.{fits_of, fits_at}
use Rattle.xdg_facts.proofs.fits.Goals as goal

pub returns-then-numbers-shape-clause-exact : goal.returns-then-numbers-shape-clause-exact
returns-then-numbers-shape-clause-exact c = (λ e. absurd (cc), λ f. (let h = fits_length _ _ f in absurd (omega (arith, h))))

pub returns-then-number-shape-clause-exact : goal.returns-then-number-shape-clause-exact
returns-then-number-shape-clause-exact c = (λ e. absurd (cc), λ f. (let h = fits_at _ _ c.loop-k.k f (omega arith) in absurd (omega (arith, h))))

pub returns-clause-exact : goal.returns-clause-exact
returns-clause-exact c = (λ e. fits_of _ _ c.loop-k.invariant.room (λ k h. c.loop-k.invariant.each k (omega arith)), λ f. refl)

pub returns-then-numbers-shape-clause-listed : goal.returns-then-numbers-shape-clause-listed
returns-then-numbers-shape-clause-listed c test start = one_listing c.args.shape.now test start

pub returns-then-number-shape-clause-listed : goal.returns-then-number-shape-clause-listed
returns-then-number-shape-clause-listed c test start = one_listing c.args.shape.now test start

pub returns-clause-listed : goal.returns-clause-listed
returns-clause-listed c test start = one_listing c.args.shape.now test start
