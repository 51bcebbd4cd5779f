use Rattle.std.specs.Prelude.{Contains}
use Rattle.xdg_rules.specs.Rules.{may_edges, must_edges}
use Rattle.xdg_pgraph.specs.Entering.{Tells}
use Rattle.xdg_pgraph.proofs.Below.{Below}
use Rattle.xdg_pgraph.proofs.incoming.Incoming.of.Given as goal

abbrev pub invariant-loop-daughter : goal.invariant-loop-daughter
invariant-loop-daughter l =
    Tells (Below (λ e. e.daughter.0) (Contains (may_edges l.store.parts l.store.now l.plane.dim.0)) l.daughter) l.may
    × Tells (Below (λ e. e.daughter.0) (Contains (must_edges l.store.parts l.store.now l.plane.dim.0)) l.daughter) l.must
