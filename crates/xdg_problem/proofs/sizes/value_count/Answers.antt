use Rattle.std.proofs.Common.{◌-◌, length, get_or, ap, ◌∙◌}
use Rattle.xdg_problem.specs.Vectors.{attr_sizes}
use Rattle.xdg_problem.proofs.ValueCounts.{behind_candidates}
use Rattle.xdg_problem.proofs.sizes.value_count.Goals as goal

pub returns-else-at-candidates : goal.returns-else-at-candidates
returns-else-at-candidates c =
    c.of_attr.ensures
    ∙ ap (λ z. get_or (attr_sizes c.len-else-at-candidates.result z) (c.args.at - length c.as_slice-candidates.result.now) 2) c.as_slice.ensures
    ∙ ap (λ n. get_or (attr_sizes n c.args.parts.now.dims) (c.args.at - length c.as_slice-candidates.result.now) 2) c.len-else-at-candidates.ensures
    ∙ behind_candidates c.args.parts.now c.args.at (length c.as_slice-candidates.result.now) (ap length c.as_slice-candidates.ensures) c.requires.within c.if-at-candidates.false
