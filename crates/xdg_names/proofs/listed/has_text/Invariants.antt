use Rattle.std.proofs.Common.{◌≡◌, drop}
use Rattle.xdg_names.specs.Texts.{has_text}
use Rattle.xdg_names.proofs.listed.has_text.Given as goal

abbrev pub invariant-loop-other : goal.invariant-loop-other
invariant-loop-other l = has_text (drop l.other-index l.texts) l.text ≡ has_text l.texts l.text
