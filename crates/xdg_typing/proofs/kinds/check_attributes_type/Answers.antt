use Rattle.xdg_types.specs.Written.{tree}
use Rattle.xdg_types.specs.Kinds.{Site, the_attributes, inside_attributes}
use Rattle.xdg_typing.proofs.Walked.{with_found}
use Rattle.xdg_typing.proofs.kinds.check_attributes_type.Goals as goal

pub returns : goal.returns
returns c = λ names known.
    let site : Site = record { wanted = the_attributes; at = c.args.ty.now.span.start; written = tree c.args.ty.now.kind } in
    with_found names site (inside_attributes site.written) _ _ _ (c.in_ok-here.ensures names known) (c.in_ok-inside.ensures names known) c.earlier.ensures
