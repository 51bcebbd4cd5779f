use Rattle.std.proofs.Common.{◌≡◌, drop}
use Rattle.xdg_domain.specs.Shapes.{names_of}
use Rattle.xdg_terms.specs.Faults as spec
use Rattle.xdg_names.specs.Texts.{has_text}
use Rattle.xdg_terms.proofs.keys.has_field.Given as goal

abbrev pub invariant-loop-name : goal.invariant-loop-name
invariant-loop-name l = has_text (names_of (spec.fields_in (drop l.name-index l.fields))) l.text ≡ has_text (names_of (spec.fields_in l.fields)) l.text
