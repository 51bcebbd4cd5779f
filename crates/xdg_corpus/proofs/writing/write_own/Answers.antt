use Rattle.std.proofs.Common.{sym}
use Rattle.std.proofs.lemmas.Bool.{ltb-false}
use Rattle.xdg_io.proofs.Parts.{writes_nothing, writes_whole}
use Rattle.xdg_corpus.proofs.Written.{no_answer}
use Rattle.xdg_corpus.proofs.writing.write_own.Goals as goal

pub returns-in-None : goal.returns-in-None
returns-in-None g c = writes_whole (no_answer c.args.answers.now c.args.sentence.now c.in-Job.place c.in-Job.is (ltb-false _ _ (sym c.in-None.ensures.lookup.0))) (writes_nothing _ _)
