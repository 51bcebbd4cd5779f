use Rattle.std.proofs.Common.{ℕ, ◌↔◌, sym, subst}
use Rattle.xdg_nodeset.specs.Tables.{InTable}
use Rattle.xdg_problem.specs.Paths.{IsDaughter}
use Rattle.xdg_graph.specs.declared.which.Which.TheVariants as whichs
use Rattle.xdg_graph.specs.Edges.{edges_of}
use Rattle.xdg_graph.proofs.Adding.{none_from}
use Rattle.xdg_graph.proofs.tables.note_daughters.Goals as goal

pub returns-in-May-clause-exact : goal.returns-in-May-clause-exact
returns-in-May-clause-exact c = subst (λ w. (a b : ℕ) → InTable c.note_may.new.table a b ↔ IsDaughter (edges_of w c.args.store.now.parts c.args.store.now.now c.args.dim.0) a b) (sym c.in-May.is) c.note_may.ensures.exact

pub returns-in-May-clause-rest : goal.returns-in-May-clause-rest
returns-in-May-clause-rest c = none_from whichs.May c.args.store.now.parts c.args.store.now.now c.args.dim.0 c.note_may.ensures.known.is_box c.note_may.new.table c.note_may.ensures.exact

pub returns-in-Must-clause-exact : goal.returns-in-Must-clause-exact
returns-in-Must-clause-exact c = subst (λ w. (a b : ℕ) → InTable c.note_must.new.table a b ↔ IsDaughter (edges_of w c.args.store.now.parts c.args.store.now.now c.args.dim.0) a b) (sym c.in-Must.is) c.note_must.ensures.exact

pub returns-in-Must-clause-rest : goal.returns-in-Must-clause-rest
returns-in-Must-clause-rest c = none_from whichs.Must c.args.store.now.parts c.args.store.now.now c.args.dim.0 c.note_must.ensures.known.is_box c.note_must.new.table c.note_must.ensures.exact
