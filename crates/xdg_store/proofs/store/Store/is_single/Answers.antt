use Rattle.std.proofs.Common.{◌↔◌, ◌≤◌, ◌*◌, IsTrue, length, subst, sym}
use Rattle.xdg_problem.specs.Boxes.{IsSingle}
use Rattle.xdg_store.specs.Layout.{bit_count, bits_of, box_in}
use Rattle.xdg_store.proofs.Histories.{known_seen}
use Rattle.xdg_store.proofs.store.Store.is_single.Goals as goal

pub is_single-requires-clause-long : goal.is_single-requires-clause-long
is_single-requires-clause-long c = subst (λ q. bit_count q ≤ 64 * length c.self.inside.trail.words) (sym c.parts.ensures.same) c.self.invariant.0.long

pub returns-clause-known : goal.returns-clause-known
returns-clause-known c = known_seen c.self.invariant.0 c.self.view_is

pub returns-clause-exact : goal.returns-clause-exact
returns-clause-exact c = subst (λ s. IsTrue c.is_single.result ↔ IsSingle s.now) c.self.view_is
    (subst (λ q. IsTrue c.is_single.result ↔ IsSingle (box_in (bits_of q) c.self.inside.trail.words)) c.parts.ensures.same c.is_single.ensures)
