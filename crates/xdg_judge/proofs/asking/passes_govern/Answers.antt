use Rattle.std.proofs.Common.{refl}
use Rattle.std.specs.Prelude.{slice_index}
use Rattle.xdg_problem.specs.Arguments.{first_dim, attr_of, attr_place}
use Rattle.xdg_problem.specs.Features.{map_row}
use Rattle.xdg_problem.specs.Vectors.{entry_places}
use Rattle.xdg_judge.proofs.Asked.{row_same, value_same, govern_end}
use Rattle.xdg_judge.proofs.asking.passes_govern.Goals as goal

pub returns : goal.returns
returns c =
    let parts = c.args.view.now.parts.now in
    let group = c.args.view.now.group.now in
    let analysis = c.args.view.now.analysis.now in
    let dim = first_dim group in
    let candidate = slice_index (entry_places parts.candidates analysis.entries) c.args.u in
    govern_end c.is_member.result _ c.row_of-allowed.result.now (map_row group c.args.u candidate c.args.label) c.from-3.result c.value_of-value.result
    (slice_index analysis.attrs (attr_place parts dim c.args.v (attr_of group 0)))
    (c.if-not-is_daughter_by.ensures.0 refl)
    (row_same group c.from.result c.args.u c.candidate.result candidate 0 c.from-2.result c.args.label c.row_of-allowed.result.now c.row_of-allowed.ensures c.from.ensures c.candidate.ensures c.from-2.ensures)
    c.if-allowed-eq0.false
    c.from-3.ensures
    (value_same parts analysis.attrs c.args.view.now.first_dim dim c.args.v c.attr_of.result (attr_of group 0) c.value_of-value.result c.value_of-value.ensures c.requires.view.first_is c.attr_of.ensures)
    c.is_member.ensures
