use Rattle.std.proofs.Common.{◌≡◌, ℕ, Bool, sym, ap, ap₂, ◌∙◌, arith}
use Rattle.xdg_domain.specs.Shapes.{shape}
use Rattle.xdg_terms.specs.Built.{texts_at}
use Rattle.xdg_terms.specs.Means.{chosen, fulfils}
use Rattle.xdg_terms.proofs.SameMembers.{below_start}
use Rattle.xdg_terms.proofs.Generating.{told_set}
use Rattle.xdg_terms.proofs.generators.generated.Goals.{then-is_fulfilled+in_ok-push, else-is_fulfilled}
use Rattle.xdg_terms.proofs.generators.generated.Goals as goal
use Rattle.xdg_facts.proofs.Turns.{below_more, below_same}

pub loop-number-init : goal.loop-number-init
loop-number-init c = c.new-numbers.ensures.items ∙ below_start (λ n. fulfils (texts_at (shape c.args.ty.now) n) c.args.generator.now.kind)

pub loop-number-preserved : goal.loop-number-preserved
loop-number-preserved c =
    let test : ℕ → Bool = λ n. fulfils (texts_at (shape c.args.ty.now) n) c.args.generator.now.kind in
    let told : c.is_fulfilled.result ≡ fulfils (texts_at (shape c.args.ty.now) c.loop-number.number) c.args.generator.now.kind =
    c.is_fulfilled.ensures ∙ ap₂ (λ cs ns. fulfils (chosen cs ns) c.args.generator.now.kind) c.fields-fields.ensures.constants c.tuple_of.ensures.places in
    elim c.if-is_fulfilled.branch [
      | then-is_fulfilled+in_ok-push w ↦
          ap (λ v. v.items) w.numbers-is ∙ w.in_ok-push.ensures.items ∙ below_more test c.loop-number.number c.loop-number.numbers.items c.loop-number.invariant (sym told ∙ w.if-is_fulfilled.true)
      | else-is_fulfilled w ↦ ap (λ v. v.items) w.numbers-is ∙ below_same test c.loop-number.number c.loop-number.numbers.items c.loop-number.invariant (sym told ∙ w.if-is_fulfilled.false)
    ]

pub returns : goal.returns
returns c =
    let full : c.loop-number.number ≡ c.count-count.result = omega (arith, c.loop-number-test.false, c.loop-number.auto.number-end) in
    told_set (shape c.args.ty.now) c.args.generator.now c.as_slice.result.now c.loop-number.number c.of.result (full ∙ c.count-count.ensures) (c.as_slice.ensures.value ∙ c.loop-number.invariant) c.of.ensures.members c.of.ensures.rising
