use Rattle.std.proofs.Common.{◌≡◌, length, subst, arith}
use Rattle.xdg_names.specs.First.{Tells, Below}
use Rattle.xdg_names.proofs.First.{tells_next}
use Rattle.xdg_names.specs.Closing.{Meets, the_use}
use Rattle.xdg_names.proofs.meeting.meeting_uses.Goals as goal
use Rattle.xdg_facts.proofs.In.{in_get}

pub loop-i-preserved : goal.loop-i-preserved
loop-i-preserved c =
    tells_next (λ k. Meets c.args.numbers.now c.args.own (the_use c.args.uses.now k)) c.loop-i.i c.loop-i.found c.meeting_use.result _ c.loop-i.invariant c.meeting_use.ensures c.earlier-found.ensures

pub returns : goal.returns
returns c =
    let end : c.loop-i.i ≡ length c.args.uses.now = omega (arith, c.loop-i-test.false, c.loop-i.auto.i-end) in
    subst (λ n. Tells (Below (λ k. Meets c.args.numbers.now c.args.own (the_use c.args.uses.now k)) n) c.loop-i.found) end c.loop-i.invariant

pub meeting_use-requires : goal.meeting_use-requires
meeting_use-requires c = c.requires _ (in_get c.args.uses.now c.loop-i.i (record { to = 0; at = 0 }) c.loop-i-test.true)
