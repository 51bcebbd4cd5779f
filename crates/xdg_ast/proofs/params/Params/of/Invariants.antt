use Rattle.std.proofs.Common.{◌≡◌, ℕ, List, take}
use Rattle.std.specs.BTreeSet.{contains_text}
use Rattle.xdg_ast.specs.Grammar.{params_of}
use Rattle.xdg_base.specs.Texts.{has_text}
use Rattle.xdg_ast.proofs.params.Params.of.Given as goal

abbrev pub invariant-loop-param : goal.invariant-loop-param
invariant-loop-param l = (l.names ≡ params_of (take l.param-index l.params))
    × ((text : List ℕ) → contains_text l.sorted text ≡ has_text (params_of (take l.param-index l.params)) text)
