use Rattle.std.proofs.Common.{arith, ◌<◌, length, drop, get_or, ap}
use Rattle.std.proofs.lemmas.List.{drop_all, get_or_default}
use Rattle.xdg_io.proofs.Parts.{next_by, stop_by, ends}
use Rattle.xdg_text.specs.Blocks.{word_lines}
use Rattle.xdg_text.proofs.Rests.{words_from}
use Rattle.xdg_text.proofs.blocks.write_word_lines.Goals as goal

pub returns-in_err-write_word_line : goal.returns-in_err-write_word_line
returns-in_err-write_word_line g c =
    let within : c.loop-node.node < length c.args.entries.now = omega (arith, c.loop-node-test.true, c.requires.each) in
    stop_by _ (words_from c.args.words.now c.args.entries.now c.loop-node.node c.index-words-node.result (get_or c.args.entries.now c.loop-node.node (record { 0 = 0 })) c.loop-node-test.true within c.index-words-node.is (get_or_default _ _ _ _ within)) c.loop-node.invariant c.from_residual.ensures.0 c.in_err-write_word_line.ensures

pub loop-node-preserved : goal.loop-node-preserved
loop-node-preserved g c =
    let within : c.loop-node.node < length c.args.entries.now = omega (arith, c.loop-node-test.true, c.requires.each) in
    next_by (words_from c.args.words.now c.args.entries.now c.loop-node.node c.index-words-node.result (get_or c.args.entries.now c.loop-node.node (record { 0 = 0 })) c.loop-node-test.true within c.index-words-node.is (get_or_default _ _ _ _ within)) c.loop-node.invariant c.in_ok-write_word_line.ensures

pub returns : goal.returns
returns g c = ends c.loop-node.invariant (ap (λ words. word_lines c.loop-node.node words (drop c.loop-node.node c.args.entries.now)) (drop_all c.loop-node.node c.args.words.now c.loop-node-test.false))
