use Rattle.std.proofs.Common.{◌≡◌, sym, subst}
use Rattle.std.specs.Prelude.{cond}
use Rattle.xdg_problem.specs.Boxes.{edge_decision}
use Rattle.xdg_propcore.specs.Passes.{Clears}
use Rattle.xdg_pgraph.proofs.valency.take_value.Goals as goal

pub returns-then-present-clause-clears : goal.returns-then-present-clause-clears
returns-then-present-clause-clears c = subst (λ b. Clears (λ d v. (d ≡ edge_decision c.args.store.now.parts c.args.edge) × (v ≡ cond b 0 1)) c.args.pass.now c.args.store.now c.forbid.new.self c.forbid.new.store) (sym c.if-present.true) c.forbid.ensures.clears

pub returns-clause-clears : goal.returns-clause-clears
returns-clause-clears c = subst (λ b. Clears (λ d v. (d ≡ edge_decision c.args.store.now.parts c.args.edge) × (v ≡ cond b 0 1)) c.args.pass.now c.args.store.now c.force.new.self c.force.new.store) (sym c.if-present.false) c.force.ensures.clears
