use Rattle.std.proofs.Common.{refl, sym, subst}
use Rattle.xdg_problem.specs.Problems.{IsGroup}
use Rattle.xdg_propcore.specs.UseKinds.{AreSmall, HasKinds}
use Rattle.xdg_propcore.specs.Uses.{no_use, use_at}
use Rattle.xdg_propcore.proofs.Kinding.{small_dims}
use Rattle.xdg_propcore.proofs.use_prop.UseProp.of.Goals as goal

pub kinds_of-wakes-requires : goal.kinds_of-wakes-requires
kinds_of-wakes-requires g c = subst AreSmall (sym c.use_of-found.ensures.is) (small_dims c.args.problem.now (use_at c.args.problem.now c.args.group) c.use_of-found.ensures.problem (c.use_of-found.ensures.problem.groups c.args.group no_use c.requires.within))

pub of-requires-clause-group : goal.of-requires-clause-group
of-requires-clause-group g c = subst (IsGroup c.args.problem.now) (sym c.use_of-found.ensures.is) (c.use_of-found.ensures.problem.groups c.args.group no_use c.requires.within)

pub returns : goal.returns
returns g c = (
  c.requires.within,
  record {
    number_is = refl;
    family = c.requires.family;
    kinds = subst (λ group. HasKinds group c.kinds_of-wakes.result.0) c.use_of-found.ensures.is c.kinds_of-wakes.ensures;
    fits = subst (λ group. g.F.Family.fits c.in_ok-family.family c.args.problem.now group) c.use_of-found.ensures.is c.in_ok-family.ensures;
  },
)
