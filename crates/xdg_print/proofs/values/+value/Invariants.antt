use Rattle.std.proofs.Common.{◌≡◌, drop}
use Rattle.std.specs.List.{flat_map}
use Rattle.xdg_domain.specs.Shapes.{shape, fields_of}
use Rattle.xdg_print.specs.Printed.{put}
use Rattle.xdg_types.specs.Table.{typed}
use Rattle.xdg_print.proofs.Keyed.{entry_words, feature_words}
use Rattle.xdg_print.proofs.values.+value.Given as goal

abbrev pub invariant-put_value-loop-entry : goal.invariant-put_value-loop-entry
invariant-put_value-loop-entry l = put (flat_map (entry_words (shape l.key) (shape l.of)) (drop l.entry-index l.entry-items)) l.printer ≡ put (flat_map (entry_words (shape l.key) (shape l.of)) l.entry-items) l.initial.printer

abbrev pub invariant-put_features-loop-feature : goal.invariant-put_features-loop-feature
invariant-put_features-loop-feature l = put (flat_map (feature_words (fields_of (typed l.types))) (drop l.feature-index l.said)) l.printer ≡ put (flat_map (feature_words (fields_of (typed l.types))) l.said) l.initial.printer
