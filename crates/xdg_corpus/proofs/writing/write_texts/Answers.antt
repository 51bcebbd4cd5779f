use Rattle.std.proofs.Common.{◌+◌, ap}
use Rattle.std.proofs.lemmas.List.{drop_all, get_or_default}
use Rattle.xdg_io.proofs.Parts.{next_by, stop_by, ends}
use Rattle.xdg_corpus.specs.Groups.{group_text}
use Rattle.xdg_corpus.proofs.Written.{group_from}
use Rattle.xdg_corpus.proofs.writing.write_texts.Goals as goal

pub returns-in_err-write_sentence : goal.returns-in_err-write_sentence
returns-in_err-write_sentence g c =
    stop_by _ (group_from c.args.answers.now c.args.first c.args.sentences.now c.loop-place.place _ c.loop-place-test.true (get_or_default _ _ _ _ c.loop-place-test.true)) c.loop-place.invariant c.from_residual.ensures.0 c.in_err-write_sentence.ensures

pub loop-place-preserved : goal.loop-place-preserved
loop-place-preserved g c =
    next_by (group_from c.args.answers.now c.args.first c.args.sentences.now c.loop-place.place _ c.loop-place-test.true (get_or_default _ _ _ _ c.loop-place-test.true)) c.loop-place.invariant c.in_ok-write_sentence.ensures

pub returns : goal.returns
returns g c = ends c.loop-place.invariant (ap (group_text c.args.answers.now (c.args.first + c.loop-place.place)) (drop_all c.loop-place.place c.args.sentences.now c.loop-place-test.false))
