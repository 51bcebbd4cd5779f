use Rattle.std.proofs.Common.{sym, ap, ◌+◌, ◌*◌, ◌∙◌}
use Rattle.std.specs.Prelude.{slice_index}
use Rattle.xdg_facts.proofs.Lookups.{read_none}
use Rattle.xdg_judge.proofs.Reading.{place_is}
use Rattle.xdg_judge.proofs.reads.value_of.Goals as goal

pub returns-in-None : goal.returns-in-None
returns-in-None c =
    sym (read_none c.args.analysis.now.attrs (c.values_before-before.result + (c.from-2.result * c.attr_count_of.result + c.from-3.result)) 0 c.in-None.ensures)
    ∙ ap (λ i. slice_index c.args.analysis.now.attrs i)
    (place_is c.args.parts.now c.args.dim c.args.node c.args.attr c.values_before-before.result c.len.result c.from.result c.attr_count_of.result c.from-2.result c.from-3.result c.as_slice.result.now c.as_slice.ensures c.len.ensures c.from.ensures c.values_before-before.ensures.value c.from-2.ensures c.attr_count_of.ensures.value c.from-3.ensures)
