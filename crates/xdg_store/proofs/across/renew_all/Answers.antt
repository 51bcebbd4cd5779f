use Rattle.std.proofs.Common.{arith, refl, subst, ◌∙◌}
use Rattle.std.proofs.lemmas.List.{take_all}
use Rattle.xdg_store.specs.Across.{RenewsAll}
use Rattle.xdg_store.proofs.Renewed.{renews_none, renews_turn}
use Rattle.xdg_store.proofs.across.renew_all.Goals as goal

pub loop-decision-init : goal.loop-decision-init
loop-decision-init c = (renews_none c.args.nodes c.args.trail.now.words c.args.rows.now.items, refl, λ parts p same h told. told)

pub renew_of-requires-clause-wide : goal.renew_of-requires-clause-wide
renew_of-requires-clause-wide c =
    let rows = c.loop-decision.invariant.0.count in
    let into = c.loop-decision.invariant.1 in
    let wide = c.requires.wide in
    omega (arith, rows, into, wide)

pub loop-decision-preserved : goal.loop-decision-preserved
loop-decision-preserved c = (
  renews_turn c.args.nodes c.args.trail.now.words c.args.changed.now c.args.rows.now.items c.loop-decision.rows.items c.renew_of.new.rows.items c.loop-decision.decision-index c.loop-decision.invariant.0 _ _ c.loop-decision-test.true refl (c.requires.fits c.loop-decision.decision-index _ c.loop-decision-test.true) c.renew_of.ensures.renews,
  c.renew_of.ensures.count ∙ c.loop-decision.invariant.1,
  λ parts p same h told. c.renew_of.ensures.told parts p same (h c.loop-decision.decision-index _ c.loop-decision-test.true) (c.loop-decision.invariant.2 parts p same h told),
)

pub returns-clause-renews : goal.returns-clause-renews
returns-clause-renews c =
    subst (λ ds. RenewsAll c.args.nodes c.args.trail.now.words ds c.args.rows.now.items c.loop-decision.rows.items) (take_all c.loop-decision.decision-index c.args.changed.now (let t = c.loop-decision-test.false in omega (arith, t)))
    c.loop-decision.invariant.0
