use Rattle.std.proofs.Common.{[], ◌∷◌}
use Rattle.xdg_ast.specs.declared.names.Name.{Name}
use Rattle.xdg_ast.specs.Trees.{name_word, pair_words}
use Rattle.xdg_print.proofs.Put.{next_of}
use Rattle.xdg_print.proofs.Written.{keyed}
use Rattle.xdg_print.proofs.printer.Printer.dims.Goals as goal

pub loop-pair-preserved : goal.loop-pair-preserved
loop-pair-preserved c =
    let added = keyed c.pair-item.result.key (name_word c.pair-item.result.value ∷ []) c.loop-pair.self c.name.new.self c.mark.new.self c.name-in-loop-pair.new.self c.in_ok-name.ensures c.in_ok-mark.ensures c.in_ok-name-2.ensures in
    next_of c.loop-pair.self (pair_words (λ (name : Name). name_word name ∷ [])) c.args.pairs.now c.loop-pair.pair-index c.pair-item.result c.loop-pair-test.true c.pair-item.is c.loop-pair.invariant added
