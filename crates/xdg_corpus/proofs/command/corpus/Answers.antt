use Rattle.std.proofs.Common.{◌≡◌, Some, subst}
use Rattle.xdg_corpus.specs.Outcomes.{LinesThen}
use Rattle.xdg_inputs.specs.Loaded.{read_of}
use Rattle.xdg_inputs.specs.Outcomes.{MeaningThen}
use Rattle.xdg_inputs.specs.Refusals.{Stops}
use Rattle.xdg_inputs.specs.Stages.{Accepts}
use Rattle.xdg_inputs.specs.GrammarFiles.{HasBadText, HasTree, ReadText}
use Rattle.xdg_inputs.specs.declared.status.Status.TheVariants as statuses
use Rattle.xdg_corpus.proofs.Parting.{accepted_part, stopped_part}
use Rattle.xdg_corpus.proofs.command.corpus.Goals as goal

pub returns-in-Ok-clause-leaves : goal.returns-in-Ok-clause-leaves
returns-in-Ok-clause-leaves g c files content told given =
    accepted_part ReadText statuses.BadText (HasBadText files c.args.options.now.grammar) (HasTree files c.args.options.now.grammar) (λ read. MeaningThen read (LinesThen c.args.options.now content)) (read_of c.in-Ok.loaded) c.corpus_loaded.result _ _
    (subst (λ n. Accepts ReadText (HasBadText files n) (HasTree files n) (read_of c.in-Ok.loaded)) c.as_str.ensures (c.in-Ok.ensures.found files told)) (c.corpus_loaded.ensures.leaves content given)

pub returns-in-Err-clause-leaves : goal.returns-in-Err-clause-leaves
returns-in-Err-clause-leaves g c files content told given =
    stopped_part ReadText statuses.BadText (HasBadText files c.args.options.now.grammar) (HasTree files c.args.options.now.grammar) (λ read. MeaningThen read (LinesThen c.args.options.now content)) (g.H.Shelf.files c.args.shelf.now ≡ Some files)
    (g.H.Shelf.faults c.args.shelf.now c.as_str.result.now) (g.H.Shelf.faults c.load_tree.new.shelf c.as_str.result.now) c.refuse.result c.in-Err.refusal _ _ told (λ e. e)
    (subst (λ n. Stops (g.H.Shelf.files c.args.shelf.now ≡ Some files) (g.H.Shelf.faults c.args.shelf.now c.as_str.result.now) (g.H.Shelf.faults c.load_tree.new.shelf c.as_str.result.now) ReadText (HasBadText files n) (HasTree files n) c.in-Err.refusal) c.as_str.ensures (c.in-Err.ensures.refused files)) c.refuse.ensures.written
