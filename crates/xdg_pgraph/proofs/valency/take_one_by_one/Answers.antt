use Rattle.std.proofs.Common.{◌≡◌, ◌∙◌, [], All, true, false, length, get_or, ap, refl, sym, subst, arith}
use Rattle.xdg_problem.specs.declared.parts.Parts.{Parts}
use Rattle.xdg_store.specs.InRange.{HasCandidate}
use Rattle.xdg_graph.proofs.Remaining.{entry_end}
use Rattle.xdg_propcore.proofs.Aimed.{first_more, first_none}
use Rattle.xdg_pgraph.proofs.Clearing.{BarredAt, Outside, barred_absent, barred_all, barred_skip, barred_taken}
use Rattle.xdg_pgraph.proofs.valency.take_one_by_one.Goals as goal

pub loop-place-init : goal.loop-place-init
loop-place-init c = (first_none (λ parts. BarredAt c.args.store.now.parts c.args.group.now c.args.bundle c.args.least c.args.most) c.args.pass.now c.args.store.now, c.requires.known)

pub loop-place-preserved-then-not-entry_in : goal.loop-place-preserved-then-not-entry_in
loop-place-preserved-then-not-entry_in c = (
  first_more (λ parts. BarredAt c.args.store.now.parts c.args.group.now c.args.bundle c.args.least c.args.most) c.loop-place.place c.args.pass.now c.loop-place.pass c.loop-place.pass c.args.store.now c.loop-place.store c.loop-place.store c.loop-place.invariant.0
      (barred_absent c.args.store.now.parts c.args.group.now c.args.bundle c.args.least c.args.most c.loop-place.place c.loop-place.pass c.loop-place.store (λ has. (let t : false ≡ true = c.if-not-entry_in.ensures.exact.1 has in cc))),
  c.loop-place.invariant.1,
)

pub loop-place-preserved-then-not-has_none_within : goal.loop-place-preserved-then-not-has_none_within
loop-place-preserved-then-not-has_none_within c = (
  first_more (λ parts. BarredAt c.args.store.now.parts c.args.group.now c.args.bundle c.args.least c.args.most) c.loop-place.place c.args.pass.now c.loop-place.pass c.loop-place.pass c.args.store.now c.loop-place.store c.loop-place.store c.loop-place.invariant.0
      (barred_skip c.args.store.now.parts c.args.group.now c.args.bundle c.args.least c.args.most c.loop-place.place c.loop-place.pass c.loop-place.store
      (λ all. (let t : false ≡ true = c.if-not-has_none_within.ensures.1 (subst (All (Outside c.args.least c.args.most)) (sym (c.numbers_at.ensures.same c.args.group.now c.features_of-candidates.ensures)) all) in cc))),
  c.loop-place.invariant.1,
)

pub loop-place-preserved : goal.loop-place-preserved
loop-place-preserved c = (
  first_more (λ parts. BarredAt c.args.store.now.parts c.args.group.now c.args.bundle c.args.least c.args.most) c.loop-place.place c.args.pass.now c.loop-place.pass c.remove_entry.new.self c.args.store.now c.loop-place.store c.remove_entry.new.store c.loop-place.invariant.0
      (barred_taken c.args.store.now.parts c.args.group.now c.args.bundle c.args.least c.args.most c.loop-place.place c.loop-place.pass c.remove_entry.new.self c.loop-place.store c.remove_entry.new.store
      (let t = c.loop-place-test.true in let e = c.entry_count-count.ensures.count ∙ ap (λ (p : Parts). length (get_or p.candidates c.args.bundle.node [])) (c.parts.ensures.same ∙ c.problem.ensures.parts) in omega (arith, t, e))
      (subst (All (Outside c.args.least c.args.most)) (c.numbers_at.ensures.same c.args.group.now c.features_of-candidates.ensures) (c.if-not-has_none_within.ensures.0 refl))
      c.remove_entry.ensures.clears),
  c.remove_entry.ensures.known,
)

pub returns-clause-clears : goal.returns-clause-clears
returns-clause-clears c = barred_all c.args.store.now.parts c.args.group.now c.args.bundle c.args.least c.args.most c.loop-place.place c.args.pass.now c.loop-place.pass c.args.store.now c.loop-place.store
    (λ k has. entry_end c.args.store.now c.problem.result.now c.parts.result.now c.args.bundle.node k c.entry_count-count.result c.loop-place.place c.requires.known c.requires.node c.parts.ensures.same c.problem.ensures.parts c.entry_count-count.ensures.count (let t = c.loop-place-test.false in omega (arith, t)) has)
    c.loop-place.invariant.0

pub entry_in-requires : goal.entry_in-requires
entry_in-requires c = subst (λ (parts : Parts). HasCandidate parts c.args.bundle.node c.loop-place.place) (sym c.loop-place.invariant.0.same) (record { node_in = c.requires.node; place_in = (let t = c.loop-place-test.true in let e = c.entry_count-count.ensures.count ∙ ap (λ (p : Parts). length (get_or p.candidates c.args.bundle.node [])) (c.parts.ensures.same ∙ c.problem.ensures.parts) in omega (arith, t, e)) })

pub remove_entry-requires : goal.remove_entry-requires
remove_entry-requires c = subst (λ (parts : Parts). HasCandidate parts c.args.bundle.node c.loop-place.place) (sym c.loop-place.invariant.0.same) (record { node_in = c.requires.node; place_in = (let t = c.loop-place-test.true in let e = c.entry_count-count.ensures.count ∙ ap (λ (p : Parts). length (get_or p.candidates c.args.bundle.node [])) (c.parts.ensures.same ∙ c.problem.ensures.parts) in omega (arith, t, e)) })
