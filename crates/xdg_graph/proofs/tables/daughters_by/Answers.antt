use Rattle.std.proofs.Common.{ℕ, ◌↔◌, IsTrue, sym, subst}
use Rattle.xdg_problem.specs.Paths.{IsDaughterBy}
use Rattle.xdg_graph.specs.declared.which.Which.TheVariants as whichs
use Rattle.xdg_graph.specs.Edges.{edges_of}
use Rattle.xdg_graph.proofs.Edges.{daughters_exact}
use Rattle.xdg_graph.proofs.tables.daughters_by.Goals as goal
use Rattle.xdg_facts.specs.Rises.{has}

pub returns-in-May-clause-exact : goal.returns-in-May-clause-exact
returns-in-May-clause-exact c = subst (λ w. (x : ℕ) → IsTrue (has c.daughters_may.result x) ↔ IsDaughterBy (edges_of w c.args.store.now.parts c.args.store.now.now c.args.dim.0) c.args.mother.0 c.args.label.0 x) (sym c.in-May.is) (daughters_exact whichs.May c.args.store.now.parts c.args.store.now.now c.args.dim.0 c.args.mother.0 c.args.label.0 c.daughters_may.result c.daughters_may.ensures.known.is_box c.requires.node c.requires.label c.daughters_may.ensures.exact)

pub returns-in-Must-clause-exact : goal.returns-in-Must-clause-exact
returns-in-Must-clause-exact c = subst (λ w. (x : ℕ) → IsTrue (has c.daughters_must.result x) ↔ IsDaughterBy (edges_of w c.args.store.now.parts c.args.store.now.now c.args.dim.0) c.args.mother.0 c.args.label.0 x) (sym c.in-Must.is) (daughters_exact whichs.Must c.args.store.now.parts c.args.store.now.now c.args.dim.0 c.args.mother.0 c.args.label.0 c.daughters_must.result c.daughters_must.ensures.known.is_box c.requires.node c.requires.label c.daughters_must.ensures.exact)
