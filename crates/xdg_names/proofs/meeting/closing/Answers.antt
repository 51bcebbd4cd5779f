use Rattle.std.proofs.Common.{◌≡◌, ◌<◌, length, refl, sym, subst, arith}
use Rattle.xdg_names.specs.First.{Tells, Below}
use Rattle.xdg_names.proofs.First.{tells_next}
use Rattle.xdg_names.specs.Leads.{uses_of, number}
use Rattle.xdg_names.specs.Closing.{HasMeeting}
use Rattle.xdg_names.proofs.Laws.{tells_closing, the_uses}
use Rattle.xdg_names.proofs.meeting.closing.Goals as goal
use Rattle.xdg_facts.specs.Membership.{In}

pub meeting_uses-requires : goal.meeting_uses-requires
meeting_uses-requires c =
    let g = c.args.graph.now in
    let uses : c.as_slice-uses.result.now ≡ uses_of g c.loop-definition.definition = the_uses g c.loop-definition.definition _ _ c.as_slice-uses.ensures c.index-graph-definition.is c.loop-definition-test.true in
    λ u h. (let b : u.to < length g = c.requires.graph c.loop-definition.definition u (subst (λ us. In us u) uses h) in
    let len : length c.as_slice-numbers.result.now ≡ length c.args.components.now.numbers = subst (λ ns. length ns ≡ length c.args.components.now.numbers) (sym c.as_slice-numbers.ensures) refl in
    omega (arith, c.requires.len))

pub loop-definition-preserved : goal.loop-definition-preserved
loop-definition-preserved c =
    let g = c.args.graph.now in
    let ns = c.args.components.now.numbers in
    let d = c.loop-definition.definition in
    let uses : c.as_slice-uses.result.now ≡ uses_of g d = the_uses g d _ _ c.as_slice-uses.ensures c.index-graph-definition.is c.loop-definition-test.true in
    let here = subst (λ us. Tells (HasMeeting c.as_slice-numbers.result.now (number c.as_slice-numbers.result.now d) us) c.meeting_uses.result) uses c.meeting_uses.ensures in
    let now = subst (λ xs. Tells (HasMeeting xs (number xs d) (uses_of g d)) c.meeting_uses.result) c.as_slice-numbers.ensures here in
    tells_next (λ a. HasMeeting ns (number ns a) (uses_of g a)) d c.loop-definition.found c.meeting_uses.result _ c.loop-definition.invariant now c.earlier-found.ensures

pub returns : goal.returns
returns c =
    let g = c.args.graph.now in
    let ns = c.args.components.now.numbers in
    let end : c.loop-definition.definition ≡ length g = omega (arith, c.loop-definition-test.false, c.loop-definition.auto.definition-end) in
    tells_closing g ns c.args.components.now.order c.requires c.loop-definition.found (subst (λ n. Tells (Below (λ a. HasMeeting ns (number ns a) (uses_of g a)) n) c.loop-definition.found) end c.loop-definition.invariant)
