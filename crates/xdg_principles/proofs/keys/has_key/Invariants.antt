use Rattle.std.proofs.Common.{◌≡◌, drop}
use Rattle.xdg_names.specs.Texts.{has_text}
use Rattle.xdg_types.specs.Parts.{keys}
use Rattle.xdg_principles.proofs.keys.has_key.Given as goal
use Rattle.xdg_ast.specs.Texts.{texts}

abbrev pub invariant-loop-pair : goal.invariant-loop-pair
invariant-loop-pair g l = has_text (texts (keys (drop l.pair-index l.pairs))) l.key ≡ has_text (texts (keys l.pairs)) l.key
