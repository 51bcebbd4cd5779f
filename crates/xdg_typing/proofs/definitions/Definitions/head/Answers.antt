use Rattle.std.proofs.Common.{ap, ◌∙◌, sym}
use Rattle.xdg_types.specs.Written.{tree}
use Rattle.xdg_types.proofs.Treed.{tree_named}
use Rattle.xdg_typing.proofs.Heads.{found_head}
use Rattle.xdg_typing.proofs.definitions.Definitions.head.Goals as goal

pub returns-in-Some-get : goal.returns-in-Some-get
returns-in-Some-get c =
    λ names knows. found_head names _ c.args.self.now.heads.items c.in-Named.name _ c.in-Some.number c.args.ty.now.kind c.in-Some-get.head.now knows (ap tree c.in-Named.is ∙ tree_named c.in-Named.name) c.as_str.ensures
    (sym c.in-Some.ensures) (rw c.deref.ensures.value at c.in-Some-get.ensures.lookup.1)
