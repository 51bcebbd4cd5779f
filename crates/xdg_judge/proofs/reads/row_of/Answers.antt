use Rattle.std.proofs.Common.{◌∙◌, sym, []}
use Rattle.xdg_problem.proofs.RowReads.{row_no_node, row_node, row_no_candidate, row_candidate, row_no_feature, row_feature}
use Rattle.xdg_facts.proofs.Lookups.{read_none, read_some}
use Rattle.xdg_judge.proofs.reads.row_of.Goals as goal

pub returns-in_default : goal.returns-in_default
returns-in_default c = row_no_node c.args.group.now c.args.node c.args.candidate c.args.argument c.args.label c.in_default.ensures

pub returns-in_default-get : goal.returns-in_default-get
returns-in_default-get c = sym (row_node c.args.group.now c.args.node c.args.candidate c.args.argument c.args.label c.in-Some.candidates.now c.in-Some.ensures ∙ row_no_candidate c.in-Some.candidates.now c.args.candidate c.args.argument c.args.label c.in_default-get.ensures)

pub returns-in_default-get-2 : goal.returns-in_default-get-2
returns-in_default-get-2 c = sym (row_node c.args.group.now c.args.node c.args.candidate c.args.argument c.args.label c.in-Some.candidates.now c.in-Some.ensures ∙ (row_candidate c.in-Some.candidates.now c.args.candidate c.args.argument c.args.label c.in-Some-get.features.now c.in-Some-get.ensures ∙ row_no_feature c.in-Some-get.features.now c.args.argument c.args.label c.in_default-get-2.ensures))

pub returns-in_default-get-3 : goal.returns-in_default-get-3
returns-in_default-get-3 c = sym (row_node c.args.group.now c.args.node c.args.candidate c.args.argument c.args.label c.in-Some.candidates.now c.in-Some.ensures ∙ (row_candidate c.in-Some.candidates.now c.args.candidate c.args.argument c.args.label c.in-Some-get.features.now c.in-Some-get.ensures ∙ (row_feature c.in-Some-get.features.now c.args.argument c.args.label c.in-Some-get-2.feature.now c.in-Some-get-2.ensures ∙ read_none c.in-Some-get-2.feature.now.rows c.args.label [] c.in_default-get-3.ensures)))

pub returns : goal.returns
returns c = c.as_slice.ensures.same ∙ sym (row_node c.args.group.now c.args.node c.args.candidate c.args.argument c.args.label c.in-Some.candidates.now c.in-Some.ensures ∙ (row_candidate c.in-Some.candidates.now c.args.candidate c.args.argument c.args.label c.in-Some-get.features.now c.in-Some-get.ensures ∙ (row_feature c.in-Some-get.features.now c.args.argument c.args.label c.in-Some-get-2.feature.now c.in-Some-get-2.ensures ∙ read_some c.in-Some-get-2.feature.now.rows c.args.label c.in-Some-get-3.numbers.now [] c.in-Some-get-3.ensures)))
