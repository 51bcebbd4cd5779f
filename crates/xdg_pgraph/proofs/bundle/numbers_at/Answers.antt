use Rattle.std.proofs.Common.{◌∙◌, [], List, ap, arith, refl, sym}
use Rattle.xdg_facts.proofs.Lookups.{read_none, read_some}
use Rattle.xdg_problem.specs.declared.parts.Feat.{Feat}
use Rattle.xdg_problem.proofs.RowReads.{in_features, row_feature, row_no_feature}
use Rattle.xdg_pgraph.specs.Bundles.{argument_of}
use Rattle.xdg_pgraph.proofs.Allowed.{numbers_told}
use Rattle.xdg_pgraph.proofs.bundle.numbers_at.Goals as goal

pub returns-in_default-clause-same : goal.returns-in_default-clause-same
returns-in_default-clause-same c group is = numbers_told c.args.bundle.way group c.args.bundle.node c.args.bundle.label c.args.place (argument_of c.args.bundle.way) c.args.candidates.now [] refl is
    (ap (λ (features : List Feat). in_features features (argument_of c.args.bundle.way) c.args.bundle.label) (c.in_default.ensures.lookup.4 (omega arith) []))

pub returns-in_default-get-clause-same : goal.returns-in_default-get-clause-same
returns-in_default-get-clause-same c group is = numbers_told c.args.bundle.way group c.args.bundle.node c.args.bundle.label c.args.place c.argument.result c.args.candidates.now [] c.argument.ensures is
    (sym (row_no_feature c.in-Some.features.now c.argument.result c.args.bundle.label c.in_default-get.ensures) ∙ ap (λ (features : List Feat). in_features features c.argument.result c.args.bundle.label) (c.in-Some.ensures.lookup.4 (omega arith) []))

pub returns-in_default-get-2-clause-same : goal.returns-in_default-get-2-clause-same
returns-in_default-get-2-clause-same c group is = numbers_told c.args.bundle.way group c.args.bundle.node c.args.bundle.label c.args.place c.argument.result c.args.candidates.now [] c.argument.ensures is
    (sym (row_feature c.in-Some.features.now c.argument.result c.args.bundle.label c.in-Some-get.feature.now c.in-Some-get.ensures ∙ read_none c.in-Some-get.feature.now.rows c.args.bundle.label [] c.in_default-get-2.ensures)
    ∙ ap (λ (features : List Feat). in_features features c.argument.result c.args.bundle.label) (c.in-Some.ensures.lookup.4 (omega arith) []))

pub returns-clause-same : goal.returns-clause-same
returns-clause-same c group is = numbers_told c.args.bundle.way group c.args.bundle.node c.args.bundle.label c.args.place c.argument.result c.args.candidates.now c.as_slice.result.now c.argument.ensures is
    (c.as_slice.ensures.same
    ∙ (sym (row_feature c.in-Some.features.now c.argument.result c.args.bundle.label c.in-Some-get.feature.now c.in-Some-get.ensures ∙ read_some c.in-Some-get.feature.now.rows c.args.bundle.label c.in-Some-get-2.numbers.now [] c.in-Some-get-2.ensures)
    ∙ ap (λ (features : List Feat). in_features features c.argument.result c.args.bundle.label) (c.in-Some.ensures.lookup.4 (omega arith) [])))
