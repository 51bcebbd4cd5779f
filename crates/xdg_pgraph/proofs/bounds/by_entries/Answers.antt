use Rattle.std.proofs.Common.{◌≡◌, ◌<◌, ◌+◌, ◌∙◌, [], inl, inr, false, true, length, get_or, ap, refl, subst, arith}
use Rattle.xdg_problem.specs.declared.parts.Parts.{Parts}
use Rattle.xdg_problem.specs.Boxes.{Has, entry_decision}
use Rattle.xdg_rules.specs.Rules.{HasNoneWithin}
use Rattle.xdg_graph.proofs.Remaining.{entry_end}
use Rattle.xdg_pgraph.specs.Bounding.{Widens}
use Rattle.xdg_pgraph.specs.Bundles.{numbers_of}
use Rattle.xdg_pgraph.proofs.Allowed.{tells_next, tells_skip, tells_start}
use Rattle.xdg_pgraph.proofs.bounds.by_entries.Goals as goal
use Rattle.xdg_facts.proofs.Numbers.{up_to}

pub entry_in-requires : goal.entry_in-requires
entry_in-requires c = record {
  node_in = c.requires.node;
  place_in =
      let t = c.loop-place-test.true in
      let e = c.entry_count-count.ensures.count ∙ ap (λ (p : Parts). length (get_or p.candidates c.args.bundle.node [])) (c.parts.ensures.same ∙ c.problem.ensures.parts) in
      omega (arith, t, e);
}

pub loop-place-init : goal.loop-place-init
loop-place-init c = tells_start c.args.store.now.now c.args.bundle.node (numbers_of c.args.bundle.way c.args.group.now c.args.bundle.node c.args.bundle.label) 128 c.args.least c.args.most (λ k. k < 0) c.none-looked.result (λ k l. omega (arith, l)) c.none-looked.ensures.0 c.none-looked.ensures.1

pub loop-place-preserved-then-not-entry_in : goal.loop-place-preserved-then-not-entry_in
loop-place-preserved-then-not-entry_in c = tells_skip c.args.store.now.now c.args.bundle.node (numbers_of c.args.bundle.way c.args.group.now c.args.bundle.node c.args.bundle.label) 128 c.args.least c.args.most (λ k. k < c.loop-place.place) (λ k. k < c.loop-place.place + 1) c.loop-place.looked
    (λ k l has. elim (up_to c.loop-place.place k l) [
      | inl less ↦ less
      | inr e ↦ absurd (let t : false ≡ true = c.if-not-entry_in.ensures.exact.1 (subst (Has c.args.store.now.now (entry_decision c.args.bundle.node)) e has) in cc)
    ])
    c.loop-place.invariant

pub loop-place-preserved : goal.loop-place-preserved
loop-place-preserved c =
    let same = c.numbers_at-numbers.ensures.same c.args.group.now c.features_of-candidates.ensures in
    tells_next c.args.store.now.now c.args.bundle.node (numbers_of c.args.bundle.way c.args.group.now c.args.bundle.node c.args.bundle.label) 128 c.args.least c.args.most (λ k. k < c.loop-place.place) (λ k. k < c.loop-place.place + 1) (numbers_of c.args.bundle.way c.args.group.now c.args.bundle.node c.args.bundle.label c.loop-place.place) c.loop-place.looked c.with-looked.result c.loop-place.place
    (c.if-not-entry_in.ensures.exact.0 refl) refl
    (λ k l has. elim (up_to c.loop-place.place k l) [
      | inl less ↦ inl less
      | inr e ↦ inr (ap (numbers_of c.args.bundle.way c.args.group.now c.args.bundle.node c.args.bundle.label) e)
    ])
    (subst (λ row. Widens row c.loop-place.looked.allowed c.with-looked.result.allowed) same c.with-looked.ensures.allowed)
    (λ not. (let both = c.with-looked.ensures.barred not in (both.0, subst (λ row. HasNoneWithin row c.args.least c.args.most → ⊥) same both.1)))
    c.loop-place.invariant

pub returns : goal.returns
returns c = tells_skip c.args.store.now.now c.args.bundle.node (numbers_of c.args.bundle.way c.args.group.now c.args.bundle.node c.args.bundle.label) 128 c.args.least c.args.most (λ k. k < c.loop-place.place) (Has c.args.store.now.now (entry_decision c.args.bundle.node)) c.loop-place.looked
    (λ k has again. entry_end c.args.store.now c.problem.result.now c.parts.result.now c.args.bundle.node k c.entry_count-count.result c.loop-place.place c.requires.known c.requires.node c.parts.ensures.same c.problem.ensures.parts c.entry_count-count.ensures.count (let t = c.loop-place-test.false in omega (arith, t)) has)
    c.loop-place.invariant
