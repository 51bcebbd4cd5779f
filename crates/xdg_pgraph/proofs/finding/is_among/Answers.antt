use Rattle.std.proofs.Common.{◌↔◌, sym, subst}
use Rattle.std.specs.Prelude.{IsTrue}
use Rattle.xdg_graph.specs.Edges.{Stands}
use Rattle.xdg_pgraph.proofs.PlaneFacts.{is_among}
use Rattle.xdg_pgraph.proofs.finding.is_among.Goals as goal

pub returns-in-May : goal.returns-in-May
returns-in-May c = is_among c.args.which c.args.store.now.parts c.args.store.now.now c.args.edge c.may.result c.requires.known.is_box c.requires.place
    (subst (λ w. IsTrue c.may.result ↔ Stands w c.args.store.now.parts c.args.store.now.now c.args.edge) (sym c.in-May.is) c.may.ensures.exact)

pub returns-in-Must : goal.returns-in-Must
returns-in-Must c = is_among c.args.which c.args.store.now.parts c.args.store.now.now c.args.edge c.must.result c.requires.known.is_box c.requires.place
    (subst (λ w. IsTrue c.must.result ↔ Stands w c.args.store.now.parts c.args.store.now.now c.args.edge) (sym c.in-Must.is) c.must.ensures.exact)
