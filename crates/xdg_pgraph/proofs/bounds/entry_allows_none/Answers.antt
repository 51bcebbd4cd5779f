use Rattle.std.proofs.Common.{All, sym, subst}
use Rattle.xdg_pgraph.specs.Bundles.{numbers_of}
use Rattle.xdg_pgraph.proofs.Clearing.{Outside, none_outside, outside_none}
use Rattle.xdg_pgraph.proofs.bounds.entry_allows_none.Goals as goal

pub returns : goal.returns
returns c =
    let same = c.numbers_at.ensures.same c.args.group.now c.features_of-candidates.ensures in
    let row = numbers_of c.args.bundle.way c.args.group.now c.args.bundle.node c.args.bundle.label c.args.place in (
      λ is. outside_none row c.args.least c.args.most (subst (All (Outside c.args.least c.args.most)) same (c.has_none_within.ensures.0 is)),
      λ none. c.has_none_within.ensures.1 (subst (All (Outside c.args.least c.args.most)) (sym same) (none_outside row c.args.least c.args.most none)),
    )
