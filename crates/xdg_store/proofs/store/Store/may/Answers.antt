use Rattle.std.proofs.Common.{◌↔◌, IsTrue, subst}
use Rattle.xdg_problem.specs.Boxes.{May}
use Rattle.xdg_store.proofs.Histories.{known_seen}
use Rattle.xdg_store.proofs.Pairs.{edge_seen, forbid_bits, may_has, pair_within}
use Rattle.xdg_store.proofs.store.Store.may.Goals as goal

pub is_set-requires : goal.is_set-requires
is_set-requires c = (pair_within c.self.invariant.0 (forbid_bits (edge_seen c.self.invariant.0 c.self.view_is c.requires c.self.invariant.1 c.edge_row-row.ensures))).0

pub returns-clause-known : goal.returns-clause-known
returns-clause-known c = known_seen c.self.invariant.0 c.self.view_is

pub returns-clause-exact : goal.returns-clause-exact
returns-clause-exact c =
    let at = edge_seen c.self.invariant.0 c.self.view_is c.requires c.self.invariant.1 c.edge_row-row.ensures in
    subst (λ s. IsTrue c.is_set.result ↔ May s.parts s.now c.args.edge) c.self.view_is (may_has c.self.inside.trail.words at c.is_set.ensures)
