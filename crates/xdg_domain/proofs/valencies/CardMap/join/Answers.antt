use Rattle.std.proofs.Common.{◌≡◌, ℕ, arith, ap, ap₂, sym, ◌∙◌, ◌++◌, Some, None, inl, inr, subst}
use Rattle.std.proofs.lemmas.Grind.{common_steps}
use Rattle.xdg_domain.specs.Joined.{allowed, merged}
use Rattle.xdg_domain.specs.Valencies.{said_at, KeysRise, both_say, Clash}
use Rattle.xdg_domain.proofs.Numbers.{met_allowed, valency_told}
use Rattle.xdg_domain.proofs.Merged.{take_all}
use Rattle.xdg_domain.proofs.valencies.CardMap.join.Goals.{In_ok-extend_from_slice-2, then-loop-i-test+else-j-theirs, else-loop-i-test}
use Rattle.xdg_domain.proofs.valencies.CardMap.join.Goals as goal

pub loop-i-preserved : goal.loop-i-preserved
loop-i-preserved c = (let e : allowed c.index-mine-i.result.1 c.index-theirs-j.result.1 ≡ Some c.in-Some.cards = met_allowed c.index-mine-i.result.1 c.index-theirs-j.result.1 (Some c.in-Some.cards) c.in-Some.ensures in grind (arith, common_steps))

pub returns-in-None : goal.returns-in-None
returns-in-None c =
    let e : allowed c.index-mine-i.result.1 c.index-theirs-j.result.1 ≡ None = met_allowed c.index-mine-i.result.1 c.index-theirs-j.result.1 None c.in-None.ensures in
    let left : None ≡ merged (λ key. allowed) c.as_slice-mine.result.now c.as_slice-theirs.result.now = grind (arith, common_steps) in
    rw (← c.self.view_is, ← c.other.view_is, ← c.as_slice-mine.ensures.value, ← c.as_slice-theirs.ensures.value) (valency_told _ _ None
    (subst (KeysRise 0) (sym c.as_slice-mine.ensures.value) c.self.invariant) (subst (KeysRise 0) (sym c.as_slice-theirs.ensures.value) c.other.invariant) left)

-- what is made is what both are put together
made : (c : In_ok-extend_from_slice-2) → Some c.extend_from_slice-2.new.self.items ≡ merged (λ key. allowed) c.as_slice-mine.result.now c.as_slice-theirs.result.now
made c = take_all (λ key. allowed) _ _ c.loop-i.entries.items _ c.loop-i.i c.loop-i.j
    (elim c.loop-i-test.branch [ then-loop-i-test+else-j-theirs w ↦ inr (omega (arith, w.if-j-theirs)) | else-loop-i-test w ↦ inl (omega (arith, w.loop-i-test)) ])
    (c.in_ok-extend_from_slice-2.ensures.items ∙ ap₂ (λ s t. s ++ t) (c.in_ok-extend_from_slice.ensures.items ∙ ap (λ t. c.loop-i.entries.items ++ t) c.split_at.ensures.back) c.split_at-2.ensures.back)
    c.loop-i.invariant.2

-- they rise, and say what both say
said : (c : In_ok-extend_from_slice-2) → KeysRise 0 c.extend_from_slice-2.new.self.items × ((key : ℕ) → (said_at c.extend_from_slice-2.new.self.items key ≡ both_say (said_at c.args.self.now key) (said_at c.args.other.now key)) × (Clash (said_at c.args.self.now key) (said_at c.args.other.now key) → ⊥))
said c = rw (← c.self.view_is, ← c.other.view_is, ← c.as_slice-mine.ensures.value, ← c.as_slice-theirs.ensures.value) (valency_told _ _ (Some c.extend_from_slice-2.new.self.items)
    (subst (KeysRise 0) (sym c.as_slice-mine.ensures.value) c.self.invariant) (subst (KeysRise 0) (sym c.as_slice-theirs.ensures.value) c.other.invariant) (made c))

pub invariant_of-result : goal.invariant_of-result
invariant_of-result c = (said c).0

pub returns : goal.returns
returns c = (said c).1
