use Rattle.std.proofs.Common.{◌≡◌, ◌≤◌, ◌+◌, ◌*◌, ℕ, length, ap, ap₂, arith, subst, sym, ◌∙◌}
use Rattle.std.specs.Vec.{vec_capacity}
use Rattle.xdg_store.proofs.Noting.{steps_start}
use Rattle.xdg_problem.specs.Places.{nodes}
use Rattle.xdg_problem.specs.declared.parts.Parts.{Parts}
use Rattle.xdg_store.specs.Across.{AreFull, row_count}
use Rattle.xdg_store.specs.Layout.{bit_count}
use Rattle.xdg_store.proofs.Histories.{known_of}
use Rattle.xdg_store.specs.States.{Keeps}
use Rattle.xdg_store.proofs.Kept.{kept_start}
use Rattle.xdg_store.proofs.Telling.{some_nodes, told_start}
use Rattle.std.proofs.lemmas.List.{length-replicate}
use Rattle.xdg_problem.specs.Problems.{IsDim}
use Rattle.xdg_store.proofs.Starting.{full_words, keeps_start}
use Rattle.std.specs.Prelude.{All}
use Rattle.xdg_store.proofs.store.Store.start.Goals as goal

its_nodes : (c : goal.After-label_all) → c.len-node_count.result ≡ nodes c.args.problem.now
its_nodes c = c.len-node_count.ensures ∙ ap (λ (q : Parts). length q.words) c.parts-parts.ensures.same

-- as many daughters as there are on all dimensions
its_count : (c : goal.After-label_all) (d : ℕ) → d ≡ length c.parts-parts.result.now.dims → d * c.len-node_count.result ≡ length c.args.problem.now.dims * nodes c.args.problem.now
its_count c d is = ap₂ (λ i j. i * j) (is ∙ ap (λ (q : Parts). length q.dims) c.parts-parts.ensures.same) (its_nodes c)

the_words : (c : goal.After-label_all) → bit_count c.args.problem.now ≤ 64 * (c.len-node_count.result * 16 + c.len.result * c.len-node_count.result * 256)
the_words c = (let n = its_nodes c in let count = its_count c c.len.result c.len.ensures in omega (arith, n, count))

the_keeps : (c : goal.After-label_all) → Keeps c.args.problem.now c.in_ok-trail.trail
the_keeps c = keeps_start c.args.problem.now c.in_ok-trail.trail c.free_values-free.result (c.len-node_count.result * 16 + c.len.result * c.len-node_count.result * 256)
    c.free_values-free.ensures.problem (the_words c) (c.in_ok-trail.ensures.words ∙ c.in_ok-words.ensures.items_if_clones_equal (λ y h. h)) c.in_ok-trail.ensures.records c.free_values-free.ensures.free c.in_ok-trail.ensures.spare

the_into : (c : goal.After-label_all) → length c.in_ok-into.into.items ≡ c.len-3.result * c.len-node_count.result
the_into c = ap length (c.in_ok-into.ensures.items_if_clones_equal (λ y h. h)) ∙ length-replicate (c.len-3.result * c.len-node_count.result) c.no_labels.result

the_across : (c : goal.After-label_all) → length c.fill_rows.new.rows.items ≡ c.len-2.result * c.len-node_count.result * 32
the_across c = c.fill_rows.ensures.count ∙ ap length (c.in_ok-across.ensures.items_if_clones_equal (λ y h. h)) ∙ length-replicate (c.len-2.result * c.len-node_count.result * 32) c.no_mothers.result

pub fill_rows-requires-clause-some : goal.fill_rows-requires-clause-some
fill_rows-requires-clause-some c = some_nodes c.in_ok-across.across.items c.no_mothers.result c.len-2.result c.len-node_count.result (c.in_ok-across.ensures.items_if_clones_equal (λ y h. h))

pub label_all-requires-clause-count : goal.label_all-requires-clause-count
label_all-requires-clause-count c =
    ap length (c.in_ok-into.ensures.items_if_clones_equal (λ y h. h)) ∙ length-replicate (c.len-3.result * c.len-node_count.result) c.no_labels.result
    ∙ ap (λ i. i * c.len-node_count.result) (c.len-3.ensures ∙ ap length (sym c.as_slice.ensures))

pub label_all-requires-clause-dims : goal.label_all-requires-clause-dims
label_all-requires-clause-dims c = subst (All IsDim) (sym (c.as_slice.ensures ∙ ap (λ (q : Parts). q.dims) c.parts-parts.ensures.same)) c.free_values-free.ensures.problem.dims

pub invariant_of-result : goal.invariant_of-result
invariant_of-result c =
    let p = c.args.problem.now in
    let k = the_keeps c in
    let n = its_nodes c in
    let rows = c.fill_rows.new.rows.items in
    let size = the_across c in
    let enough = its_count c c.len-2.result c.len-2.ensures in
    let long : row_count p ≤ length rows = omega (arith, size, enough) in
    let full = subst (AreFull rows) n c.fill_rows.ensures.full in (
      k,
      n,
      rw (← n) c.nodes_below-all.ensures,
      steps_start p c.in_ok-trail.trail c.in_ok-removed.removed.items (vec_capacity c.in_ok-removed.removed) c.free_values-free.result c.in_ok-trail.ensures.records c.in_ok-removed.ensures.items (let e = c.in_ok-removed.ensures.exact in omega (arith, e)) c.free_values-free.ensures.free,
      kept_start p c.free_values-free.ensures.problem (c.len-node_count.result * 16 + c.len.result * c.len-node_count.result * 256) c.in_ok-trail.trail.words rows (the_words c) long (c.in_ok-trail.ensures.words ∙ c.in_ok-words.ensures.items_if_clones_equal (λ y h. h)) full,
      (let made = the_into c in
          let kept = c.label_all.ensures.count in
          let count = its_count c c.len-3.result c.len-3.ensures in
          told_start p c.free_values-free.ensures.problem rows full long c.label_all.new.into.items c.len-node_count.result n
          c.as_slice.result.now (c.as_slice.ensures ∙ ap (λ (q : Parts). q.dims) c.parts-parts.ensures.same) c.label_all.ensures.first (omega (arith, made, kept, count)) (omega (arith, made, kept, size, count, enough))),
    )

pub returns-clause-now : goal.returns-clause-now
returns-clause-now c = full_words c.args.problem.now (c.len-node_count.result * 16 + c.len.result * c.len-node_count.result * 256) c.in_ok-trail.trail.words c.free_values-free.ensures.problem (the_words c) (c.in_ok-trail.ensures.words ∙ c.in_ok-words.ensures.items_if_clones_equal (λ y h. h))

pub returns-clause-known : goal.returns-clause-known
returns-clause-known c = known_of c.args.problem.now 0 c.in_ok-trail.trail (the_keeps c)
