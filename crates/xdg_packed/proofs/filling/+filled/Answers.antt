use Rattle.std.proofs.Common.{◌≡◌, ℕ, ◌+◌, ◌<◌, ◌∷◌, ◌++◌, [], Option, arith, rules, ap, sym, ◌∙◌, subst}
use Rattle.xdg_domain.specs.declared.values.Value.{Value}
use Rattle.std.specs.Option.{option_copied}
use Rattle.xdg_domain.specs.declared.types.Ty.TheViews.{the_lemmas}
use Rattle.xdg_domain.specs.Shapes.{shape, fields, mapping, IsType}
use Rattle.xdg_domain.specs.Valencies.{said_at, KeysRise}
use Rattle.xdg_domain.proofs.Made.{seen, one_type}
use Rattle.xdg_domain.proofs.Shaped.{shape_rec}
use Rattle.xdg_packed.specs.Filled.{filled, keys_said, fields_said, IsSaid, AreValuesOf}
use Rattle.xdg_packed.proofs.Laws.{map_said, record_said}
use Rattle.xdg_packed.proofs.Steps.{SoFar, begun, here_said, one_more, lacking, done, key_more}
use Rattle.xdg_packed.proofs.filling.+filled.Goals as goal
use Rattle.xdg_domain.proofs.Opened.{shape_map}

pub filled-filled_map-requires : goal.filled-filled_map-requires
filled-filled_map-requires t c =
    let e : shape c.args.ty.now ≡ mapping (shape c.in-Map.key) (shape c.in-Map.of) = ap shape c.in-Map.is ∙ shape_map c.in-Map.key c.in-Map.of in (
      search (rules, the_lemmas),
      (
        subst (λ s. IsType (shape s)) (sym c.get-in-Map-2.ensures) (subst IsType e c.requires.right).1.1,
        subst (λ s. AreValuesOf (shape s) (keys_said (option_copied c.args.said))) (sym c.get-in-Map-2.ensures) (map_said (shape c.in-Map.key) (shape c.in-Map.of) (option_copied c.args.said) (subst (λ s. IsSaid s (option_copied c.args.said)) e c.requires.said)),
      ),
    )

pub filled-loop-i-init : goal.filled-loop-i-init
filled-loop-i-init t c =
    let e : shape c.args.ty.now ≡ fields (seen c.in-Rec.types) = ap shape c.in-Rec.is ∙ shape_rec c.in-Rec.types in
    let types : c.as_slice-types.result.now ≡ c.in-Rec.types = c.as_slice-types.ensures in
    let said = record_said (seen c.in-Rec.types) (option_copied c.args.said) (subst (λ s. IsSaid s (option_copied c.args.said)) e c.requires.said) in
    subst (λ ts. SoFar ts (fields_said (option_copied c.args.said)) 0 c.fields_said-rest.result.now c.new-all.result) (sym types)
    (begun c.in-Rec.types (fields_said (option_copied c.args.said)) c.fields_said-rest.result.now c.new-all.result (subst IsType e c.requires.right).1 said.0 said.1 c.fields_said-rest.ensures c.new-all.ensures)

pub filled-filled-requires : goal.filled-filled-requires
filled-filled-requires t c =
    let types = c.as_slice-types.result.now in
    let f = c.index-types-i.result in
    let said = c.taken.ensures.here ∙ ap (said_at c.loop-i.rest.now) c.in-Ok.ensures.1 in (
      search (rules, the_lemmas),
      (
        (one_type types c.loop-i.i f c.loop-i-test.true c.index-types-i.is c.loop-i.invariant.right).0,
        subst (IsSaid (shape f.1)) (sym said) (here_said types (fields_said (option_copied c.args.said)) c.loop-i.i c.loop-i.rest.now c.loop-i.all f c.loop-i-test.true c.index-types-i.is c.loop-i.invariant),
      ),
    )

pub filled-returns-in-None : goal.filled-returns-in-None
filled-returns-in-None t c =
    let e : shape c.args.ty.now ≡ fields (seen c.in-Rec.types) = ap shape c.in-Rec.is ∙ shape_rec c.in-Rec.types in
    let types = c.as_slice-types.result.now in
    let f = c.index-types-i.result in
    let said = c.taken.ensures.here ∙ ap (said_at c.loop-i.rest.now) c.in-Ok.ensures.1 in
    let none = sym c.in-None.is ∙ c.in_ok-filled-in-Rec.ensures ∙ ap (filled (shape f.1)) said in
    lacking types (fields_said (option_copied c.args.said)) c.loop-i.i c.loop-i.rest.now c.loop-i.all f c.loop-i-test.true c.index-types-i.is c.loop-i.invariant none
    ∙ ap (λ ts. filled (fields (seen ts)) (option_copied c.args.said)) c.as_slice-types.ensures
    ∙ ap (λ s. filled s (option_copied c.args.said)) (sym e)

pub filled-loop-i-preserved : goal.filled-loop-i-preserved
filled-loop-i-preserved t c =
    let types = c.as_slice-types.result.now in
    let f = c.index-types-i.result in
    let said = c.taken.ensures.here ∙ ap (said_at c.loop-i.rest.now) c.in-Ok.ensures.1 in
    let some = sym c.in-Some.is ∙ c.in_ok-filled-in-Rec.ensures ∙ ap (filled (shape f.1)) said in
    one_more types (fields_said (option_copied c.args.said)) c.loop-i.i c.loop-i.rest.now c.loop-i.all f c.loop-i-test.true c.index-types-i.is c.loop-i.invariant
    c.in-Some.value c.taken.result.1.now c.push.new.self some
    (subst (λ k. KeysRise (k + 1) c.taken.result.1.now) c.in-Ok.ensures.1 c.taken.ensures.rises)
    (λ key above. c.taken.ensures.later key (subst (λ k. k < key) (sym c.in-Ok.ensures.1) above))
    (c.in_ok-push-in-Some.ensures.ok ∙ ap (λ k. c.loop-i.all ++ (k, c.in-Some.value) ∷ []) c.in-Ok.ensures.1)

pub filled-returns-after-loop-i : goal.filled-returns-after-loop-i
filled-returns-after-loop-i t c =
    let e : shape c.args.ty.now ≡ fields (seen c.in-Rec.types) = ap shape c.in-Rec.is ∙ shape_rec c.in-Rec.types in
    done c.as_slice-types.result.now (fields_said (option_copied c.args.said)) c.loop-i.i c.loop-i.rest.now c.loop-i.all (omega (arith, c.loop-i-test.false)) c.loop-i.invariant
    ∙ ap (λ ts. filled (fields (seen ts)) (option_copied c.args.said)) c.as_slice-types.ensures
    ∙ ap (λ s. filled s (option_copied c.args.said)) (sym e)

pub filled_map-loop-key-preserved : goal.filled_map-loop-key-preserved
filled_map-loop-key-preserved t c =
    let f : ℕ → Option Value = λ key. filled (shape c.args.of.now) (said_at (keys_said (option_copied c.args.said)) key) in
    let said = c.value_for.ensures ∙ ap (λ m. said_at m c.loop-key.key) c.keys_said-entries.ensures in
    key_more f c.args.keys c.loop-key.key c.loop-key.all (omega (arith, c.loop-key-test.true)) c.loop-key.invariant c.in-Some.value c.push.new.self
    (sym c.in-Some.is ∙ c.in_ok-filled.ensures ∙ ap (filled (shape c.args.of.now)) said) c.in_ok-push-in-Some.ensures.ok
