use Rattle.std.proofs.Common.{◌≡◌, subst}
use Rattle.xdg_problem.specs.Places.{nodes}
use Rattle.xdg_formula_value.specs.Pairs.{Along, Relates}
use Rattle.xdg_formula_value.specs.Rows.{IsRow}
use Rattle.xdg_problem.specs.Truths.{stands}
use Rattle.xdg_formula_value.specs.declared.way.Way.TheVariants as ways
use Rattle.xdg_formula_value.proofs.Paired.{both_row, first_row, second_row, neither_row}
use Rattle.xdg_formula_value.proofs.pair.related_row.Goals as goal
use Rattle.xdg_facts.specs.Rises.{has}

pub returns-then-second-name : goal.returns-then-second-name
returns-then-second-name c = both_row c.args.pair c.args.which c.args.store.now.parts c.args.store.now.now (nodes c.args.store.now.parts) (stands c.args.binding.now) c.args.name c.args.first c.args.second c.to_itself.result c.if-first-name.true c.if-second-name.true c.to_itself.ensures

pub returns-then-first-name : goal.returns-then-first-name
returns-then-first-name c = first_row c.args.pair c.args.which c.args.store.now.parts c.args.store.now.now (nodes c.args.store.now.parts) (stands c.args.binding.now) c.args.name c.args.first c.args.second c.related.result c.if-first-name.true c.if-second-name.false
    (subst (λ k. IsRow (nodes c.args.store.now.parts) (Along ways.Up (Relates c.args.pair c.args.which c.args.store.now.parts c.args.store.now.now) k) c.related.result) c.node_of.ensures c.related.ensures)

pub returns-then-second-name-2 : goal.returns-then-second-name-2
returns-then-second-name-2 c = second_row c.args.pair c.args.which c.args.store.now.parts c.args.store.now.now (nodes c.args.store.now.parts) (stands c.args.binding.now) c.args.name c.args.first c.args.second c.related-row.result c.if-first-name.false c.if-second-name-2.true
    (subst (λ k. IsRow (nodes c.args.store.now.parts) (Along ways.Down (Relates c.args.pair c.args.which c.args.store.now.parts c.args.store.now.now) k) c.related-row.result) c.node_of-2.ensures c.related-row.ensures)

pub returns : goal.returns
returns c = neither_row c.args.pair c.args.which c.args.store.now.parts c.args.store.now.now (nodes c.args.store.now.parts) (stands c.args.binding.now) c.args.name c.args.first c.args.second c.constant.result c.contains.result c.related-row.result c.if-first-name.false c.if-second-name-2.false c.requires.paths.few (c.requires.nodes c.args.second)
    (subst (λ k. IsRow (nodes c.args.store.now.parts) (Along ways.Down (Relates c.args.pair c.args.which c.args.store.now.parts c.args.store.now.now) k) c.related-row.result) c.node_of-2.ensures c.related-row.ensures)
    (subst (λ k. c.contains.result ≡ has c.related-row.result k) c.node_of-3.ensures c.contains.ensures.value) c.constant.ensures
