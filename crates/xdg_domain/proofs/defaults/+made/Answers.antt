use Rattle.std.proofs.Common.{◌≡◌, [], ◌∷◌, ◌++◌, arith, rules, ap, sym, ◌∙◌, subst}
use Rattle.std.specs.Prelude.{IfOk}
use Rattle.xdg_domain.specs.declared.types.Ty.TheViews.{the_lemmas}
use Rattle.xdg_domain.specs.Shapes.{shape, fields}
use Rattle.xdg_domain.specs.Defaults.{default, defaults, for_each_key, record_of_defaults}
use Rattle.xdg_domain.proofs.Made.{seen, one_type, made_more}
use Rattle.xdg_domain.proofs.Each.{map_more}
use Rattle.xdg_domain.proofs.DefaultLaws.{map_made}
use Rattle.xdg_domain.proofs.Shaped.{shape_rec}
use Rattle.xdg_domain.proofs.defaults.+made.Goals as goal

pub made-returns-in-Rec : goal.made-returns-in-Rec
made-returns-in-Rec t c =
    let e : shape c.args.ty.now ≡ fields (seen c.in-Rec.fields) = ap shape c.in-Rec.is ∙ shape_rec c.in-Rec.fields in
    subst (λ o. IfOk c.made_record.result (λ told. told ≡ o)) (ap (λ all. record_of_defaults (defaults 0 (seen all))) c.as_slice.ensures ∙ sym (ap default e)) c.made_record.ensures

pub made_map-loop-key-preserved : goal.made_map-loop-key-preserved
made_map-loop-key-preserved t c =
    map_more (default (shape c.args.of.now)) c.loop-key.all c.push.new.self c.loop-key.key c.in-Some.value c.loop-key.invariant (sym c.in-Some.is ∙ c.in_ok-made.ensures) c.in_ok-push-in-Some.ensures.ok

pub made_map-returns : goal.made_map-returns
made_map-returns t c =
    let end : c.loop-key.key ≡ c.args.keys = omega (arith, c.loop-key-test.false, c.loop-key.auto.key-end) in
    map_made (shape c.args.of.now) c.args.keys c.loop-key.all c.requires.mapped c.requires.right (λ x e. c.loop-key.invariant x e ∙ ap (λ n. for_each_key n x) end)

pub made_record-made-requires : goal.made_record-made-requires
made_record-made-requires t c = (search (rules, the_lemmas), (one_type c.args.fields.now c.loop-i.i c.index-fields-i.result c.loop-i-test.true c.index-fields-i.is c.loop-i.invariant.0).0)

pub made_record-loop-i-preserved : goal.made_record-loop-i-preserved
made_record-loop-i-preserved t c = (
  (one_type c.args.fields.now c.loop-i.i c.index-fields-i.result c.loop-i-test.true c.index-fields-i.is c.loop-i.invariant.0).1,
  made_more c.args.fields.now c.loop-i.i c.index-fields-i.result c.loop-i.all c.push.new.self c.in-Some.value c.loop-i-test.true c.index-fields-i.is (sym c.in-Some.is ∙ c.in_ok-made.ensures) (c.in_ok-push-in-Some.ensures.ok ∙ ap (λ k. c.loop-i.all ++ (k, c.in-Some.value) ∷ []) c.in-Ok.ensures.1) c.loop-i.invariant.1,
)
