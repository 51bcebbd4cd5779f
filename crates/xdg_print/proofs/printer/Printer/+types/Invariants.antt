use Rattle.std.proofs.Common.{◌≡◌, drop, flat_map}
use Rattle.xdg_ast.specs.Trees.{type_words}
use Rattle.xdg_print.specs.Printed.{put}
use Rattle.xdg_print.proofs.Written.{field_words}
use Rattle.xdg_print.proofs.printer.Printer.+types.Given as goal

abbrev pub invariant-type_term-loop-pair : goal.invariant-type_term-loop-pair
invariant-type_term-loop-pair l = put (flat_map field_words (drop l.pair-index l.pair-items)) l.self ≡ put (flat_map field_words l.pair-items) l.initial.self

abbrev pub invariant-type_term-loop-field : goal.invariant-type_term-loop-field
invariant-type_term-loop-field l = put (flat_map (λ type. type_words type.kind) (drop l.field-index l.field-items)) l.self ≡ put (flat_map (λ type. type_words type.kind) l.field-items) l.initial.self
