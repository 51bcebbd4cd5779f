use Rattle.std.proofs.Common.{◌≡◌, drop}
use Rattle.xdg_terms.specs.Faults as spec
use Rattle.xdg_names.specs.Texts.{has_text}
use Rattle.xdg_terms.proofs.keys.is_key.Given as goal

abbrev pub invariant-loop-elem : goal.invariant-loop-elem
invariant-loop-elem l = has_text (spec.texts_of (spec.keys (drop l.elem-index l.elems))) l.text ≡ has_text (spec.texts_of (spec.keys l.elems)) l.text
