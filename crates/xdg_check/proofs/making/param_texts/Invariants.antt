use Rattle.std.proofs.Common.{◌≡◌, take}
use Rattle.xdg_classes.specs.Definitions as d
use Rattle.xdg_ast.specs.Texts.{texts}
use Rattle.xdg_check.proofs.making.param_texts.Given as goal

abbrev pub invariant-loop-param : goal.invariant-loop-param
invariant-loop-param l = l.made ≡ texts (d.param_names (take l.param-index l.params))
