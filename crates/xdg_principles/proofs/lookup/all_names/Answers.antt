use Rattle.std.proofs.Common.{sym, subst}
use Rattle.xdg_types.specs.Table.{firsts}
use Rattle.xdg_principles.proofs.Lookups.{differ_at}
use Rattle.xdg_principles.proofs.lookup.all_names.Goals as goal
use Rattle.xdg_facts.specs.Membership.{Differ}

pub names_of-requires : goal.names_of-requires
names_of-requires c =
    subst (λ ms. Differ (firsts ms)) (sym c.members.ensures)
    (differ_at c.args.dims.now c.args.sort c.loop-dim.dim-index c.dim-item.result c.requires c.loop-dim-test.true c.dim-item.is)
