use Rattle.std.proofs.Common.{ℕ, List}
use Rattle.xdg_domain.specs.declared.types.Ty.{Ty}
use Rattle.xdg_types.proofs.Made.{name_added}
use Rattle.xdg_principles.proofs.lookup.names_of.Goals as goal

pub loop-member-preserved : goal.loop-member-preserved
loop-member-preserved c = name_added (λ (one : List ℕ × Ty). one.0) c.args.members.now c.loop-member.member-index c.member-item.result _ _ _ _ c.requires c.loop-member-test.true c.member-item.is c.as_str.ensures c.in_ok-add.ensures.new c.in_ok-add.ensures.ok c.loop-member.invariant
