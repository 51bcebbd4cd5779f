use Rattle.std.proofs.Common.{◌≡◌, ◌<◌, ◌+◌, ◌∙◌, length, ap, arith, subst, sym}
use Rattle.std.proofs.lemmas.List.{length_push}
use Rattle.xdg_pgraph.specs.Allowances.{AreClasses, AreRows, HasClasses}
use Rattle.xdg_pgraph.specs.declared.bundle.Bundle.{Bundle}
use Rattle.xdg_pgraph.specs.declared.bundle.Way.TheVariants as ways
use Rattle.xdg_pgraph.proofs.ClassRows.{rows_more}
use Rattle.xdg_pgraph.proofs.allowances.add_rows.Goals as goal

pub loop-label-preserved : goal.loop-label-preserved
loop-label-preserved c =
    let parts = c.args.parts.now in
    let group = c.args.group.now in
    let labels = c.args.labels in
    let into : Bundle = record { way = ways.In; node = c.args.node; label = c.loop-label.label } in
    let out : Bundle = record { way = ways.Out; node = c.args.node; label = c.loop-label.label } in
    let within : c.loop-label.label < labels = (let t = c.loop-label-test.true in let e = c.loop-label.auto.label-end in omega (arith, t, e)) in
    let count = c.entry_count-count.ensures.count in
    let given = c.features_of-candidates.ensures in
    let has_in : HasClasses parts group into c.of.result = λ some. subst (λ k. AreClasses k group into c.of.result) count (c.of.ensures group given some) in
    let has_out : HasClasses parts group out c.of-in-loop-label.result = λ some. subst (λ k. AreClasses k group out c.of-in-loop-label.result) count (c.of-in-loop-label.ensures group given some) in
    let first = c.in_ok-push.ensures.ok in
    let second = c.in_ok-push-2.ensures.ok in
    let kept = c.loop-label.invariant in
    let long : length c.push.new.self ≡ length c.loop-label.rows + 1 = ap length first ∙ length_push c.loop-label.rows c.of.result in
    let longer : length c.push-in-loop-label.new.self ≡ length c.push.new.self + 1 = ap length second ∙ length_push c.push.new.self c.of-in-loop-label.result in
    let one : AreRows parts group labels c.push.new.self = subst (AreRows parts group labels) (sym first) (rows_more parts group labels c.loop-label.rows into c.of.result within (let e = kept.1 in omega (arith, e)) has_in kept.0) in (
      subst (AreRows parts group labels) (sym second) (rows_more parts group labels c.push.new.self out c.of-in-loop-label.result within (let e = kept.1 in omega (arith, e, long)) has_out one),
      (let e = kept.1 in omega (arith, e, long, longer)),
    )
