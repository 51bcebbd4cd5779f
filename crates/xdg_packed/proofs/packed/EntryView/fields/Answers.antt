use Rattle.std.proofs.Common.{get_or, [], ap, ◌∙◌}
use Rattle.xdg_packed.proofs.packed.EntryView.fields.Goals as goal

pub returns : goal.returns
returns c = c.record.ensures ∙ ap (λ entry. get_or entry c.args.dim []) c.self.view_is
