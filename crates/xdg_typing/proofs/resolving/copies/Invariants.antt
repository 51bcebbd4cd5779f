use Rattle.std.proofs.Common.{◌≡◌, take}
use Rattle.xdg_typing.proofs.resolving.copies.Given as goal
use Rattle.xdg_ast.specs.Texts.{texts}

abbrev pub invariant-loop-name : goal.invariant-loop-name
invariant-loop-name l = l.all ≡ texts (take l.name-index l.names)
