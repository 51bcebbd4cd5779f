use Rattle.std.proofs.Common.{Some, ◌≡◌}
use Rattle.xdg_arrange.specs.Lists.{HasList, IsBadList, Listed}
use Rattle.xdg_arrange.specs.Texts.{AreArranged}
use Rattle.xdg_inputs.specs.Answers.{grammar_in, meaning_of}
use Rattle.xdg_inputs.specs.declared.status.Status.TheVariants as statuses
use Rattle.xdg_inputs.proofs.Leaving.{accepted_front}
use Rattle.xdg_arrange.proofs.Fronting.{stopped_front}
use Rattle.xdg_arrange.proofs.Passing.{arranged_said}
use Rattle.xdg_arrange.proofs.command.arrange_expanded.Goals as goal

pub returns-in-Ok-clause-leaves : goal.returns-in-Ok-clause-leaves
returns-in-Ok-clause-leaves g c content told =
    let listed : Listed = record { grammar = grammar_in c.args.expanded.now; words = c.in-Ok.words } in
    accepted_front Listed statuses.BadSentence (IsBadList (meaning_of c.args.expanded.now) c.args.options.now.segment content) (HasList (meaning_of c.args.expanded.now) c.args.options.now.segment content) (AreArranged c.args.options.now.budget) listed
    c.print_arrangements.result _ _ (c.in-Ok.ensures.found content told) c.print_arrangements.ensures.leaves

pub returns-in-Err-clause-leaves : goal.returns-in-Err-clause-leaves
returns-in-Err-clause-leaves g c content told =
    stopped_front Listed statuses.BadSentence (IsBadList (meaning_of c.args.expanded.now) c.args.options.now.segment content) (HasList (meaning_of c.args.expanded.now) c.args.options.now.segment content) (AreArranged c.args.options.now.budget)
    (λ listed. arranged_said c.args.options.now.budget listed) (g.S.Source.left c.args.input.now ≡ Some content) (g.S.Source.faults c.args.input.now) (g.S.Source.faults c.read_list.new.source) c.refuse.result c.in-Err.refusal _ _ told (λ e. e)
    (c.in-Err.ensures.refused content) c.refuse.ensures.written
