use Rattle.xdg_corpus.specs.Outcomes.{LinesThen}
use Rattle.xdg_inputs.specs.Loaded.{read_of}
use Rattle.xdg_corpus.proofs.Parting.{meaning_part, refused_part}
use Rattle.xdg_corpus.proofs.command.corpus_loaded.Goals as goal

pub returns-in-Ok-clause-leaves : goal.returns-in-Ok-clause-leaves
returns-in-Ok-clause-leaves g c content told =
    meaning_part (read_of c.args.loaded) (LinesThen c.args.options.now content) c.corpus_expanded.result c.in-Ok.expanded _ _ c.in-Ok.ensures.tells c.in-Ok.ensures.only (c.corpus_expanded.ensures.leaves content told)

pub returns-clause-leaves : goal.returns-clause-leaves
returns-clause-leaves g c content told =
    refused_part (read_of c.args.loaded) (LinesThen c.args.options.now content) c.refuse.result _ c.in-Err.stop _ _ _ c.deref.ensures.value c.in-Err.ensures.tells c.in-Err.ensures.only c.stopped_in.ensures c.refuse.ensures.written
