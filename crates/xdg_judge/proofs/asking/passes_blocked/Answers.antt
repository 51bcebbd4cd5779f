use Rattle.std.proofs.Common.{refl}
use Rattle.std.specs.Prelude.{slice_index}
use Rattle.std.proofs.lemmas.Bool.{false≢true}
use Rattle.xdg_problem.specs.Arguments.{second_dim}
use Rattle.xdg_problem.specs.Features.{set_row}
use Rattle.xdg_problem.specs.Paths.{edges_on}
use Rattle.xdg_problem.specs.Vectors.{entry_places}
use Rattle.xdg_judge.proofs.Asked.{row_same, blocked_end}
use Rattle.xdg_judge.proofs.asking.passes_blocked.Goals as goal

pub returns : goal.returns
returns c =
    let parts = c.args.view.now.parts.now in
    let group = c.args.view.now.group.now in
    let analysis = c.args.view.now.analysis.now in
    let candidate = slice_index (entry_places parts.candidates analysis.entries) c.args.w in
    blocked_end c.is_joined.result c.args.view.now.second (edges_on (second_dim group) analysis.edges) _ c.row_of-labels.result.now (set_row group c.args.w candidate) c.args.w c.args.v
    c.requires.view.second_links
    (row_same group c.from.result c.args.w c.candidate.result candidate 0 0 0 c.row_of-labels.result.now c.row_of-labels.ensures c.from.ensures c.candidate.ensures refl)
    (λ a. false≢true (c.if-is_above.ensures.1 a))
    c.is_joined.ensures
