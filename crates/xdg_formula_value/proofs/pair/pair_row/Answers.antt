use Rattle.std.proofs.Common.{subst}
use Rattle.xdg_problem.specs.Places.{nodes}
use Rattle.xdg_problem.specs.Truths.{bound, stands}
use Rattle.xdg_formula_value.specs.Pairs.{Relates}
use Rattle.xdg_formula_value.specs.Pairs as spec
use Rattle.xdg_formula_value.specs.Rows.{IsRow}
use Rattle.xdg_formula_value.proofs.Rowed.{row_told}
use Rattle.xdg_formula_value.proofs.pair.pair_row.Goals as goal

pub returns : goal.returns
returns c = row_told (nodes c.args.store.now.parts) c.args.truth (λ v. Relates c.args.pair (spec.edges_for c.args.truth) c.args.store.now.parts c.args.store.now.now (bound (stands c.args.binding.now) c.args.name v c.args.first) (bound (stands c.args.binding.now) c.args.name v c.args.second)) c.related_row-row.result c.told.result c.requires.paths.few
    (subst (λ w. IsRow (nodes c.args.store.now.parts) (λ v. Relates c.args.pair w c.args.store.now.parts c.args.store.now.now (bound (stands c.args.binding.now) c.args.name v c.args.first) (bound (stands c.args.binding.now) c.args.name v c.args.second)) c.related_row-row.result) c.edges_for.ensures c.related_row-row.ensures)
    c.told.ensures
