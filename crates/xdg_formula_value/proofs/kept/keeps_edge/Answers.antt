use Rattle.std.proofs.Common.{sym, ◌∙◌}
use Rattle.std.proofs.lemmas.Bool.{false≢true}
use Rattle.xdg_propcore.specs.Standing.{box_at}
use Rattle.xdg_formula_value.proofs.Keeping.{keeps_forced, keeps_left, keeps_open}
use Rattle.xdg_formula_value.proofs.kept.keeps_edge.Goals as goal

pub returns-then-must : goal.returns-then-must
returns-then-must c = λ so. keeps_forced c.args.store.now.parts (box_at c.args.store.now c.args.since) c.args.store.now.now c.must.ensures.known.is_box c.args.edge c.requires.place (c.must.ensures.exact.0 c.if-must.true) (c.leads.ensures so)

pub returns-then-may : goal.returns-then-may
returns-then-may c = λ so. keeps_open c.args.store.now.parts (box_at c.args.store.now c.args.since) c.args.store.now.now c.args.edge (λ must. false≢true (sym c.if-must.false ∙ c.must.ensures.exact.1 must)) (c.may.ensures.exact.0 c.if-may.true)

pub returns : goal.returns
returns c = λ so. keeps_left c.args.store.now.parts (box_at c.args.store.now c.args.since) c.args.store.now.now c.args.edge (λ must. false≢true (sym c.if-must.false ∙ c.must.ensures.exact.1 must)) (c.leads-2.ensures so)
