use Rattle.std.proofs.Common.{◌≡◌, ◌∙◌, Some, ap, ap₂, arith, length, refl, sym}
use Rattle.std.specs.Prelude.{[], slice_index, slice_index_or}
use Rattle.std.proofs.lemmas.Bool.{false≢true, false_from_ne_true}
use Rattle.xdg_problem.specs.declared.parts.Parts.{Parts}
use Rattle.xdg_problem.specs.Boxes.{entry_decision}
use Rattle.xdg_rules.specs.Bounds.{with_least}
use Rattle.xdg_rules.specs.Rules.{has}
use Rattle.xdg_engine.proofs.Leasts.{least_more, least_same}
use Rattle.xdg_engine.proofs.least.least_entry.Goals as goal

pub loop-place-preserved-then-not-entry_in : goal.loop-place-preserved-then-not-entry_in
loop-place-preserved-then-not-entry_in c = c.loop-place.invariant ∙ sym (least_same (has c.args.store.now.now (entry_decision c.args.node.0)) (slice_index c.args.row.now) c.loop-place.place (false_from_ne_true (has c.args.store.now.now (entry_decision c.args.node.0) c.loop-place.place) (λ t. false≢true (c.if-not-entry_in.ensures.exact.1 t))))

pub bounds-as_slice-place : goal.bounds-as_slice-place
bounds-as_slice-place c =
    let t = c.loop-place-test.true in
    let e = c.entry_count-place-end.ensures.count in
    let r = c.requires.row in
    let s = ap length c.as_slice.ensures in
    let same : length (slice_index_or c.parts.result.now.candidates c.args.node.0 []) ≡ length (slice_index_or c.args.store.now.parts.candidates c.args.node.0 []) = ap (λ (p : Parts). length (slice_index_or p.candidates c.args.node.0 [])) (c.parts.ensures.same ∙ c.problem.ensures.parts) in
    omega (arith, t, e, r, s, same)

pub loop-place-preserved : goal.loop-place-preserved
loop-place-preserved c = ap Some (c.with_least.ensures ∙ ap₂ with_least (ap (λ xs. slice_index xs c.loop-place.place) c.as_slice.ensures) c.loop-place.invariant) ∙ sym (least_more (has c.args.store.now.now (entry_decision c.args.node.0)) (slice_index c.args.row.now) c.loop-place.place (c.if-not-entry_in.ensures.exact.0 refl))
