use Rattle.std.proofs.Common.{arith, flat_map}
use Rattle.xdg_ast.specs.declared.token.Kind.TheVariants as k
use Rattle.xdg_ast.specs.Trees.{term_words}
use Rattle.xdg_print.proofs.Put.{next_of, all_of, finish}
use Rattle.xdg_print.proofs.AgainTrees.{term_words-Braces}
use Rattle.xdg_print.proofs.Written.{enclosed}
use Rattle.xdg_print.proofs.WrittenTerms.{part_of}
use Rattle.xdg_print.proofs.printer.Printer.+term.Goals as goal

pub term-loop-elem-preserved : goal.term-loop-elem-preserved
term-loop-elem-preserved t c =
    next_of c.loop-elem.self (part_of c.args.params.now) c.as_slice-elem-items.result.now c.loop-elem.elem-index c.elem-item.result c.loop-elem-test.true c.elem-item.is c.loop-elem.invariant c.in_ok-elem-in-Braces.ensures

pub term-returns-after-loop-elem : goal.term-returns-after-loop-elem
term-returns-after-loop-elem t c =
    let all = all_of c.loop-elem.self (part_of c.args.params.now) c.as_slice-elem-items.result.now c.loop-elem.elem-index (omega (arith, c.loop-elem-test.false)) c.loop-elem.invariant in
    let same = enclosed k.LeftBrace k.RightBrace (term_words c.args.params.now) (flat_map (part_of c.args.params.now)) c.args.term.now _ c.in-Braces.elems c.as_slice-elem-items.result.now c.args.self.now c.mark.new.self c.loop-elem.self
    (term_words-Braces c.args.params.now c.in-Braces.elems) c.in-Braces.is c.as_slice-elem-items.ensures c.in_ok-mark-in-Braces.ensures all in
    finish c.mark-in-Braces.result c.mark-in-Braces.new.self same c.mark-in-Braces.ensures
