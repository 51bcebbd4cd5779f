use Rattle.std.proofs.Common.{sym, ◌∙◌}
use Rattle.xdg_terms.specs.Faults as spec
use Rattle.xdg_terms.proofs.Loops.{found_here, passed_here, keys_texts}
use Rattle.xdg_terms.proofs.keys.is_key.Goals as goal

pub returns-then-has_key : goal.returns-then-has_key
returns-then-has_key c = found_here (λ e. spec.texts_of (spec.key_of e)) (λ es. spec.texts_of (spec.keys es)) keys_texts c.args.elems.now c.loop-elem.elem-index c.elem-item.result c.args.text.now _ c.loop-elem-test.true c.elem-item.is (sym c.has_key.ensures ∙ c.if-has_key.true) c.loop-elem.invariant

pub loop-elem-preserved : goal.loop-elem-preserved
loop-elem-preserved c = passed_here (λ e. spec.texts_of (spec.key_of e)) (λ es. spec.texts_of (spec.keys es)) keys_texts c.args.elems.now c.loop-elem.elem-index c.elem-item.result c.args.text.now _ c.loop-elem-test.true c.elem-item.is (sym c.has_key.ensures ∙ c.if-has_key.false) c.loop-elem.invariant
