use Rattle.std.proofs.Common.{◌+◌, not, ap, sym, ◌∙◌, arith, subst}
use Rattle.xdg_store.specs.Across.{Fits}
use Rattle.xdg_store.specs.Layout.{is_set}
use Rattle.xdg_store.proofs.Renewed.{renews_both}
use Rattle.xdg_store.proofs.across.renew.Goals as goal

pub renew_must-requires-clause-fits : goal.renew_must-requires-clause-fits
renew_must-requires-clause-fits c = subst (λ rows. Fits c.args.nodes rows c.args.edge) (sym c.renew_may.ensures.renews.count) c.requires.fits

pub renew_must-requires-clause-wide : goal.renew_must-requires-clause-wide
renew_must-requires-clause-wide c =
    let rows = c.renew_may.ensures.renews.count in
    let into = c.renew_may.ensures.count in
    let wide = c.requires.wide in
    omega (arith, rows, into, wide)

pub returns-clause-renews : goal.returns-clause-renews
returns-clause-renews c =
    let words = c.args.trail.now.words in
    let daughter = c.args.edge.daughter.0 in
    renews_both c.args.nodes c.args.edge c.is_set.result (not c.is_set-2.result) _ _ c.args.rows.now.items c.renew_may.new.rows.items c.renew_must.new.rows.items
    (c.is_set.ensures ∙ ap (λ i. is_set words (i + daughter)) c.edge_row.ensures) (ap not (c.is_set-2.ensures ∙ ap (λ i. is_set words (i + daughter + 128)) c.edge_row.ensures))
    c.renew_may.ensures.renews c.renew_must.ensures.renews
