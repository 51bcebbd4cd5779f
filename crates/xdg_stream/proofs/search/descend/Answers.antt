use Rattle.std.proofs.Common.{get_or, arith, refl, sym, subst, ◌∙◌, ◌++◌, ◌∷◌, []}
use Rattle.xdg_facts.specs.Fits.{Fits}
use Rattle.xdg_stream.proofs.Same.{same_then}
use Rattle.xdg_stream.proofs.Steps.{taken_stands}
use Rattle.xdg_stream.proofs.StartPushed.{start_refused, start_done}
use Rattle.xdg_stream.proofs.search.descend.Goals as goal
use Rattle.xdg_facts.proofs.Fitting.{start_fits, start_range}
use Rattle.xdg_facts.proofs.Fronts.{start_more}

pub push-requires-clause-fits : goal.push-requires-clause-fits
push-requires-clause-fits g c =
    let i = c.loop-number.invariant in
    subst (λ z. Fits z (g.F.Front.numbers c.loop-number.front ++ get_or c.args.after.now c.loop-number.number-index 0 ∷ [])) (sym i.same.sizes) (start_fits _ _ _ _ _ i.fits (omega arith) i.numbers refl)

pub returns-then-not-push-clause-next : goal.returns-then-not-push-clause-next
returns-then-not-push-clause-next g c =
    let i = c.loop-number.invariant in
    let t = c.if-not-push.ensures.refused refl in
    start_refused _ _ _ _ _ _ _ _ (g.met.F.Front.closed c.args.front.now) (omega arith) i.numbers refl c.from.ensures (λ h. t.1 ((i.same.counts _).1 h)) t.0

pub loop-number-preserved : goal.loop-number-preserved
loop-number-preserved g c =
    let i = c.loop-number.invariant in
    let t = c.if-not-push.ensures.taken refl in
    record {
      problem = c.push.ensures.kept ∙ i.problem;
      same = same_then _ _ _ _ _ _ i.same c.push.ensures.same;
      fits = i.fits;
      numbers = start_more _ _ _ _ _ (omega arith) i.numbers refl t.0;
      stands = taken_stands _ _ _ _ _ _ _ i.same i.stands (start_range _ _ _ _ _ i.fits i.same.sizes (omega arith) i.numbers refl) t.1 t.0;
    }

pub returns-clause-next : goal.returns-clause-next
returns-clause-next g c = start_done _ _ _ _ _ c.loop-number.invariant.numbers (omega arith)
