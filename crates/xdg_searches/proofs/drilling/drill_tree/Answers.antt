use Rattle.std.proofs.Common.{refl}
use Rattle.xdg_searches.specs.Outcomes.{DrillSentence}
use Rattle.xdg_inputs.proofs.Meaning.{meaning_leaves, meaning_refused}
use Rattle.xdg_inputs.specs.declared.status.Status.TheVariants as statuses
use Rattle.xdg_searches.proofs.Drilled.{stopped_wrote}
use Rattle.xdg_searches.proofs.drilling.drill_tree.Goals as goal

pub returns-in-Ok-clause-leaves : goal.returns-in-Ok-clause-leaves
returns-in-Ok-clause-leaves g c =
    meaning_leaves (record { text = c.args.text.now; tree = c.args.tree }) (DrillSentence c.args.number) c.drill_expanded.result c.in-Ok.expanded _ _ c.in-Ok.ensures.tells c.in-Ok.ensures.only c.drill_expanded.ensures.leaves

pub returns-in-Err-clause-leaves : goal.returns-in-Err-clause-leaves
returns-in-Err-clause-leaves g c =
    meaning_refused (record { text = c.args.text.now; tree = c.args.tree }) (DrillSentence c.args.number) c.refuse.result _ c.in-Err.stop _ _ _ refl c.in-Err.ensures.tells c.in-Err.ensures.only c.stopped_in.ensures c.refuse.ensures.written

pub returns-in-Err-clause-wrote : goal.returns-in-Err-clause-wrote
returns-in-Err-clause-wrote g c = stopped_wrote statuses.BadGrammar c.refuse.result _ c.in-Err.stop c.stopped_in.result _ _ _ _ tt tt c.stopped_in.ensures c.refuse.ensures.written c.refuse.ensures.quiet
