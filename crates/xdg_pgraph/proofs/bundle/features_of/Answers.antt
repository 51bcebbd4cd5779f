use Rattle.std.proofs.Common.{◌∙◌, sym, []}
use Rattle.xdg_facts.proofs.Lookups.{read_none, read_some}
use Rattle.xdg_pgraph.proofs.bundle.features_of.Goals as goal

pub returns-in_default : goal.returns-in_default
returns-in_default c = sym (read_none c.args.group.now.feats c.args.node [] c.in_default.ensures)

pub returns : goal.returns
returns c = c.as_slice.ensures ∙ sym (read_some c.args.group.now.feats c.args.node c.in-Some.candidates.now [] c.in-Some.ensures)
