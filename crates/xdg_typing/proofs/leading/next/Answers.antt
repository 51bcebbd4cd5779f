use Rattle.std.proofs.Common.{ap, ◌∙◌, sym}
use Rattle.xdg_types.specs.Written.{tree}
use Rattle.xdg_types.proofs.Treed.{tree_named}
use Rattle.xdg_typing.proofs.Heading.{found_right}
use Rattle.xdg_typing.proofs.leading.next.Goals as goal

pub returns-in-Some-get : goal.returns-in-Some-get
returns-in-Some-get c =
    λ names own defined. found_right names own _ c.args.heads.now c.args.body.now c.in-Named.name _ c.in-Some.number c.in-Some-get.head.now defined (ap tree c.in-Named.is ∙ tree_named c.in-Named.name) c.as_str.ensures
    (sym c.in-Some.ensures) c.in-Some-get.ensures.lookup.1
