use Rattle.std.proofs.Common.{◌≤◌, length, sym, ◌∙◌, ap, subst, map}
use Rattle.std.specs.Prelude.{All, flat_map}
use Rattle.xdg_types.specs.Table.{Table}
use Rattle.xdg_build.specs.Grammars.{grammar_of}
use Rattle.xdg_build.specs.Groups.{features_in}
use Rattle.xdg_build.specs.Rows.{IsSmallArg, features_by_number}
use Rattle.xdg_build.proofs.Named.{small_args}
use Rattle.xdg_build.proofs.Recorded.{dim_is, known_for, known_of}
use Rattle.xdg_build.proofs.Right.{wide, made_group}
use Rattle.xdg_build.proofs.groups.compile_use.Goals as goal

pub attrs-requires : goal.attrs-requires
attrs-requires c = subst (All IsSmallArg) (sym c.as_slice-args.ensures) (small_args c.args.checked.now.types c.args.one.now c.types.ensures.keeps.types.dims c.requires.typed)

pub all_features-requires-clause-dim : goal.all_features-requires-clause-dim
all_features-requires-clause-dim c =
    wide (grammar_of c.args.checked.now c.args.packed.now) c.args.one.now c.feature_place-dim.result c.requires.typed c.requires.used c.requires.lexicon
    (dim_is (grammar_of c.args.checked.now c.args.packed.now) c.args.one.now _ _ _
    (c.used-used.ensures.same ∙ ap (λ (t : Table). t.used) c.types.ensures.same) c.as_slice.ensures c.feature_place-dim.ensures)

pub returns-clause-group : goal.returns-clause-group
returns-clause-group c =
    made_group (grammar_of c.args.checked.now c.args.packed.now) c.args.candidates.now c.args.one.now _ _ _ _ _ _ _ _ _ _ _ c.in_ok-copy.ensures
    (c.used-used.ensures.same ∙ ap (λ (t : Table). t.used) c.types.ensures.same) c.as_slice-3.ensures c.as_slice-args.ensures
    (dim_is (grammar_of c.args.checked.now c.args.packed.now) c.args.one.now _ _ _
    (c.used-used.ensures.same ∙ ap (λ (t : Table). t.used) c.types.ensures.same) c.as_slice.ensures c.feature_place-dim.ensures)
    c.in_ok-dims_in.ensures c.in_ok-attrs.ensures c.in_ok-labels.ensures c.in_ok-truths.ensures c.in_ok-places.ensures
    (c.in_ok-feats.ensures.features ∙ ap (λ ps. map (features_by_number c.args.packed.now.entries c.feature_place-dim.result ps) c.args.candidates.now) c.as_slice-2.ensures)

pub all_features-requires-clause-kept : goal.all_features-requires-clause-kept
all_features-requires-clause-kept c =
    known_of (grammar_of c.args.checked.now c.args.packed.now) c.args.one.now c.feature_place-dim.result c.as_slice-2.result.now c.args.kept.now.entries
    (dim_is (grammar_of c.args.checked.now c.args.packed.now) c.args.one.now _ _ _
    (c.used-used.ensures.same ∙ ap (λ (t : Table). t.used) c.types.ensures.same) c.as_slice.ensures c.feature_place-dim.ensures)
    (c.as_slice-2.ensures ∙ c.in_ok-places.ensures ∙ ap (flat_map features_in) c.as_slice-args.ensures)
    c.requires.kept

pub returns-clause-kept : goal.returns-clause-kept
returns-clause-kept c =
    known_for (grammar_of c.args.checked.now c.args.packed.now) c.args.one.now c.feature_place-dim.result c.as_slice-2.result.now c.all_features.new.kept.entries
    (dim_is (grammar_of c.args.checked.now c.args.packed.now) c.args.one.now _ _ _
    (c.used-used.ensures.same ∙ ap (λ (t : Table). t.used) c.types.ensures.same) c.as_slice.ensures c.feature_place-dim.ensures)
    (c.as_slice-2.ensures ∙ c.in_ok-places.ensures ∙ ap (flat_map features_in) c.as_slice-args.ensures)
    c.in_ok-feats.ensures.kept

pub dims_in-requires : goal.dims_in-requires
dims_in-requires c = subst (λ us. length us ≤ 8) (sym c.used-used.ensures.same) c.used-used.ensures.keeps.few_used
