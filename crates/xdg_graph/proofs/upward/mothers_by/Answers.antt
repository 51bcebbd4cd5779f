use Rattle.std.proofs.Common.{ℕ, ◌↔◌, IsTrue, sym, subst}
use Rattle.xdg_problem.specs.Paths.{IsDaughterBy}
use Rattle.xdg_graph.specs.declared.which.Which.TheVariants as whichs
use Rattle.xdg_graph.specs.Edges.{edges_of}
use Rattle.xdg_graph.proofs.Edges.{mothers_exact}
use Rattle.xdg_graph.proofs.upward.mothers_by.Goals as goal
use Rattle.xdg_facts.specs.Rises.{has}

pub returns-in-May-clause-exact : goal.returns-in-May-clause-exact
returns-in-May-clause-exact c = subst (λ w. (x : ℕ) → IsTrue (has c.mothers_may.result x) ↔ IsDaughterBy (edges_of w c.args.store.now.parts c.args.store.now.now c.args.dim.0) x c.args.label.0 c.args.daughter.0) (sym c.in-May.is) (mothers_exact whichs.May c.args.store.now.parts c.args.store.now.now c.args.dim.0 c.args.daughter.0 c.args.label.0 c.mothers_may.result c.mothers_may.ensures.known.is_box c.requires.node c.requires.label c.mothers_may.ensures.exact)

pub returns-in-Must-clause-exact : goal.returns-in-Must-clause-exact
returns-in-Must-clause-exact c = subst (λ w. (x : ℕ) → IsTrue (has c.mothers_must.result x) ↔ IsDaughterBy (edges_of w c.args.store.now.parts c.args.store.now.now c.args.dim.0) x c.args.label.0 c.args.daughter.0) (sym c.in-Must.is) (mothers_exact whichs.Must c.args.store.now.parts c.args.store.now.now c.args.dim.0 c.args.daughter.0 c.args.label.0 c.mothers_must.result c.mothers_must.ensures.known.is_box c.requires.node c.requires.label c.mothers_must.ensures.exact)
