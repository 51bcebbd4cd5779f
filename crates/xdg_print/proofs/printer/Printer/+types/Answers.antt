use Rattle.std.proofs.Common.{arith, flat_map}
use Rattle.xdg_ast.specs.declared.token.Kind.TheVariants as k
use Rattle.xdg_ast.specs.declared.names.Spanned.{Spanned}
use Rattle.xdg_ast.specs.declared.types.TypeKind.{TypeKind}
use Rattle.xdg_ast.specs.Trees.{type_words}
use Rattle.xdg_print.proofs.Put.{next_of, all_of, finish}
use Rattle.xdg_print.proofs.Written.{field_words, keyed, enclosed, tuple_done}
use Rattle.xdg_print.proofs.AgainTrees.{type_words-Rec}
use Rattle.xdg_print.proofs.printer.Printer.+types.Goals as goal

pub type_term-loop-pair-preserved : goal.type_term-loop-pair-preserved
type_term-loop-pair-preserved t c =
    let added = keyed c.pair-item.result.key (type_words c.pair-item.result.value.kind) c.loop-pair.self c.name.new.self c.mark-in-loop-pair.new.self c.type_term.new.self c.in_ok-name-in-Rec.ensures c.in_ok-mark-in-Rec-2.ensures c.in_ok-type_term-in-Rec.ensures in
    next_of c.loop-pair.self field_words c.as_slice-pair-items.result.now c.loop-pair.pair-index c.pair-item.result c.loop-pair-test.true c.pair-item.is c.loop-pair.invariant added

pub type_term-loop-field-preserved : goal.type_term-loop-field-preserved
type_term-loop-field-preserved t c =
    next_of c.loop-field.self (λ (type : Spanned TypeKind). type_words type.kind) c.as_slice-field-items.result.now c.loop-field.field-index c.field-item.result c.loop-field-test.true c.field-item.is c.loop-field.invariant c.in_ok-type_term-in-Tuple.ensures

pub type_term-returns-after-loop-pair : goal.type_term-returns-after-loop-pair
type_term-returns-after-loop-pair t c =
    let all = all_of c.loop-pair.self field_words c.as_slice-pair-items.result.now c.loop-pair.pair-index (omega (arith, c.loop-pair-test.false)) c.loop-pair.invariant in
    finish c.mark-in-Rec.result c.mark-in-Rec.new.self (enclosed k.LeftBrace k.RightBrace type_words (flat_map field_words) c.args.given.now _ c.in-Rec.pairs c.as_slice-pair-items.result.now c.args.self.now c.mark.new.self c.loop-pair.self
    (type_words-Rec c.in-Rec.pairs) c.in-Rec.is c.as_slice-pair-items.ensures c.in_ok-mark-in-Rec.ensures all) c.mark-in-Rec.ensures

pub type_term-returns-after-loop-field : goal.type_term-returns-after-loop-field
type_term-returns-after-loop-field t c =
    let all = all_of c.loop-field.self (λ (type : Spanned TypeKind). type_words type.kind) c.as_slice-field-items.result.now c.loop-field.field-index (omega (arith, c.loop-field-test.false)) c.loop-field.invariant in
    finish c.mark-in-Tuple.result c.mark-in-Tuple.new.self (tuple_done c.args.given.now c.in-Tuple.types c.as_slice-field-items.result.now c.args.self.now c.open_type.new.self c.loop-field.self c.in-Tuple.is c.as_slice-field-items.ensures c.in_ok-open_type-in-Tuple.ensures all) c.mark-in-Tuple.ensures
