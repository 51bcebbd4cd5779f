use Rattle.std.proofs.Common.{arith, flat_map, refl}
use Rattle.xdg_ast.specs.declared.token.Kind.TheVariants as k
use Rattle.xdg_ast.specs.Trees.{term_words, terms_words}
use Rattle.xdg_print.proofs.Put.{next_of, all_of, finish}
use Rattle.xdg_print.proofs.Written.{keyed, enclosed}
use Rattle.xdg_print.proofs.WrittenTerms.{said_words}
use Rattle.xdg_print.proofs.printer.Printer.terms.Goals as goal

pub loop-pair-preserved : goal.loop-pair-preserved
loop-pair-preserved c =
    let added = keyed c.pair-item.result.key (term_words c.args.params.now c.pair-item.result.value.kind) c.loop-pair.self c.name.new.self c.mark-in-loop-pair.new.self c.term.new.self c.in_ok-name.ensures c.in_ok-mark-2.ensures c.in_ok-term.ensures in
    next_of c.loop-pair.self (said_words c.args.params.now) c.args.pairs.now c.loop-pair.pair-index c.pair-item.result c.loop-pair-test.true c.pair-item.is c.loop-pair.invariant added

pub returns : goal.returns
returns c =
    let all = all_of c.loop-pair.self (said_words c.args.params.now) c.args.pairs.now c.loop-pair.pair-index (omega (arith, c.loop-pair-test.false)) c.loop-pair.invariant in
    finish c.mark-2.result c.mark-2.new.self (enclosed k.LeftBrace k.RightBrace (terms_words c.args.params.now) (flat_map (said_words c.args.params.now)) _ _ c.args.pairs.now c.args.pairs.now c.args.self.now c.mark.new.self c.loop-pair.self
    refl refl refl c.in_ok-mark.ensures all) c.mark-2.ensures
