use Rattle.std.proofs.Common.{◌++◌, map, rules, ◌∙◌}
use Rattle.std.specs.List.{flat_map}
use Rattle.xdg_classes.specs.Bodies.{body}
use Rattle.xdg_classes.specs.Lent.{said, called}
use Rattle.xdg_classes.specs.Given as spec
use Rattle.xdg_classes.specs.Collected as all
use Rattle.xdg_classes.proofs.Growing.{grows_then, grown, names_of_params, body_wants_are}
use Rattle.xdg_classes.proofs.collecting.wants_of_class.Goals as goal

pub returns : goal.returns
returns c =
    let look = all.feature_of c.args.features.now in
    let tell = spec.told c.args.classes.now.names c.args.known.now in
    let first = flat_map (all.record_wants look c.in_ok-params.params) (map said c.as_slice.result.now) in
    let then = flat_map (all.call_wants tell c.in_ok-params.params) (map called c.as_slice-2.result.now) in
    grown c.none-wants.result c.add_calls.new.wants (first ++ then) _ c.none-wants.ensures.params c.none-wants.ensures.types
    (grows_then c.none-wants.result c.add_records.new.wants c.add_calls.new.wants first then c.in_ok-add_records.ensures c.in_ok-add_calls.ensures)
    (body_wants_are look tell c.in_ok-params.params _ (map said c.as_slice.result.now) (map called c.as_slice-2.result.now) (body c.args.class.now.body.now.kind) (c.in_ok-params.ensures ∙ names_of_params c.args.class.now.params.now) (search rules) (search rules))
