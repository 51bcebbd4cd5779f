use Rattle.std.proofs.Common.{◌+◌, ◌<◌, [], ◌∷◌, ◌++◌, sym, ap, ◌∙◌, subst}
use Rattle.xdg_domain.specs.Shapes.{shape}
use Rattle.xdg_domain.specs.Valencies.{said_at, KeysRise}
use Rattle.xdg_packed.specs.Filled.{filled}
use Rattle.xdg_packed.proofs.Steps.{one_more}
use Rattle.xdg_lexicon.proofs.filling.filled_record.Goals as goal

pub loop-i-preserved : goal.loop-i-preserved
loop-i-preserved c =
    let types = c.args.types.now in
    let f = c.index-types-i.result in
    let said = c.taken.ensures.here ∙ ap (said_at c.loop-i.rest.now) c.in-Ok.ensures.1 in
    let some = sym c.in-Some.is ∙ c.in_ok-fill.ensures.filled ∙ ap (filled (shape f.1)) said in
    one_more types c.args.said.now c.loop-i.i c.loop-i.rest.now c.loop-i.all f c.loop-i-test.true c.index-types-i.is c.loop-i.invariant
    c.in-Some.value c.taken.result.1.now c.push.new.self some
    (subst (λ k. KeysRise (k + 1) c.taken.result.1.now) c.in-Ok.ensures.1 c.taken.ensures.rises)
    (λ key above. c.taken.ensures.later key (subst (λ k. k < key) (sym c.in-Ok.ensures.1) above))
    (c.in_ok-push-in-Some.ensures.ok ∙ ap (λ k. c.loop-i.all ++ (k, c.in-Some.value) ∷ []) c.in-Ok.ensures.1)
