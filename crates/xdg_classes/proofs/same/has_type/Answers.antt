use Rattle.std.proofs.Common.{sym, subst}
use Rattle.std.specs.Prelude.{IsTrue}
use Rattle.xdg_domain.specs.Shapes.{shape}
use Rattle.xdg_classes.proofs.same.has_type.Goals as goal
use Rattle.xdg_facts.proofs.In.{found_at}

pub returns-then-same_type : goal.returns-then-same_type
returns-then-same_type c h = found_at (λ one. shape one.now) c.args.types.now c.loop-one.one-index c.one-item.result (shape c.args.ty.now) c.loop-one-test.true c.one-item.is (c.same_type.ensures (subst IsTrue (sym c.if-same_type.true) h))
