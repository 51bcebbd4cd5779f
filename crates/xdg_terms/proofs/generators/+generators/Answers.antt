use Rattle.std.proofs.Common.{sym, ap, ◌∙◌}
use Rattle.std.specs.List.{list_any, list_all}
use Rattle.xdg_terms.specs.Built.{constants_each}
use Rattle.xdg_terms.specs.Means.{chosen, fulfils}
use Rattle.xdg_terms.proofs.Generating.{fulfils-And, fulfils-Or}
use Rattle.xdg_terms.proofs.generators.+generators.Goals as goal

pub is_fulfilled-returns-in-And : goal.is_fulfilled-returns-in-And
is_fulfilled-returns-in-And t c =
    let texts = chosen (constants_each c.args.fields.now) c.args.tuple.now in
    c.are_all_fulfilled.ensures
    ∙ ap (list_all (λ member. fulfils texts member.kind)) c.as_slice.ensures
    ∙ sym (ap (fulfils texts) c.in-And.is ∙ fulfils-And texts c.in-And.members)

pub is_fulfilled-returns-in-Or : goal.is_fulfilled-returns-in-Or
is_fulfilled-returns-in-Or t c =
    let texts = chosen (constants_each c.args.fields.now) c.args.tuple.now in
    c.is_some_fulfilled.ensures
    ∙ ap (list_any (λ member. fulfils texts member.kind)) c.as_slice-in-Or.ensures
    ∙ sym (ap (fulfils texts) c.in-Or.is ∙ fulfils-Or texts c.in-Or.members)
