use Rattle.std.proofs.Common.{◌↔◌, IsTrue, not, subst}
use Rattle.xdg_problem.specs.Boxes.{Must}
use Rattle.xdg_store.proofs.Histories.{known_seen}
use Rattle.xdg_store.proofs.Pairs.{edge_seen, force_bits, must_has, pair_within}
use Rattle.xdg_store.proofs.store.Store.must.Goals as goal

pub is_set-requires : goal.is_set-requires
is_set-requires c = (pair_within c.self.invariant.0 (force_bits (edge_seen c.self.invariant.0 c.self.view_is c.requires c.self.invariant.1 c.edge_row-row.ensures))).0

pub returns-clause-known : goal.returns-clause-known
returns-clause-known c = known_seen c.self.invariant.0 c.self.view_is

pub returns-clause-exact : goal.returns-clause-exact
returns-clause-exact c =
    let at = edge_seen c.self.invariant.0 c.self.view_is c.requires c.self.invariant.1 c.edge_row-row.ensures in
    subst (λ s. IsTrue (not c.is_set.result) ↔ Must s.parts s.now c.args.edge) c.self.view_is (must_has c.self.inside.trail.words at c.is_set.ensures)
