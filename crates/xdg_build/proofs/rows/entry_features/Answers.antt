use Rattle.std.proofs.Common.{◌≡◌, ◌∙◌, ap, subst, get_or, [], IfOk}
use Rattle.xdg_build.specs.Rows.{features_in_record}
use Rattle.xdg_build.proofs.Kept.{found_alike, kept_alike}
use Rattle.xdg_build.proofs.rows.entry_features.Goals as goal

pub returns-in-Some-clause-features : goal.returns-in-Some-clause-features
returns-in-Some-clause-features c =
    subst (λ features. IfOk c.shared_features.result (λ made. made ≡ features))
    (c.as_slice.ensures
    ∙ found_alike c.args.packed.now.entries c.args.dim c.args.places.now c.args.kept.now.entries c.first_alike-first.result.0 c.args.no.0 c.in-Some.features.now
    c.requires.kept c.in-Some.ensures.value c.first_alike-first.ensures.first.alike)
    c.shared_features.ensures

pub returns-clause-kept : goal.returns-clause-kept
returns-clause-kept c =
    kept_alike c.args.packed.now.entries c.args.dim c.args.places.now c.args.kept.now.entries c.insert.new.self.entries c.first_alike-first.result.0 c.args.no.0 c.in_ok-made.made
    c.requires.kept c.in_ok-insert.ensures.entries c.first_alike-first.ensures.first.alike
    (c.in_ok-made.ensures ∙ ap (features_in_record c.args.places.now) (c.fields-fields.ensures ∙ ap (λ entry. get_or entry c.args.dim []) c.entry.ensures))
