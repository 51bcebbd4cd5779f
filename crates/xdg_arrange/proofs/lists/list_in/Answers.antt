use Rattle.std.proofs.Common.{◌∙◌, ap, sym, subst}
use Rattle.std.specs.Str.{IsValidUpTo}
use Rattle.xdg_arrange.specs.Lists.{HasList, IsBadList, IsRefused, Listed, refusing}
use Rattle.xdg_inputs.specs.Answers.{meaning_of}
use Rattle.xdg_inputs.specs.Refusals.{Stops}
use Rattle.xdg_linear.specs.Segments.{words_in}
use Rattle.xdg_inputs.proofs.Taking.{no_text_rejected}
use Rattle.xdg_arrange.proofs.Listing.{list_accepted, list_taken, words_stop}
use Rattle.xdg_arrange.proofs.lists.list_in.Goals as goal

pub returns-in-Err-clause-refused : goal.returns-in-Err-clause-refused
returns-in-Err-clause-refused c =
    let m = meaning_of c.args.expanded.now in
    subst (Stops (Unit {0}) 0 0 Listed (IsBadList m c.args.segment c.args.input.now) (HasList m c.args.segment c.args.input.now)) (sym c.no_text.ensures)
    (λ told. no_text_rejected refusing c.args.expanded.now c.requires.lexicon c.args.segment c.args.input.now (HasList m c.args.segment c.args.input.now) (list_taken c.args.expanded.now c.requires.lexicon c.args.segment c.args.input.now) c.valid_up_to.result c.requires.within c.in-Err.ensures.cases.0 (subst (IsValidUpTo c.args.input.now) (sym c.valid_up_to.ensures) c.in-Err.ensures.cases.1))

pub returns-in-Ok-words_within-clause-found : goal.returns-in-Ok-words_within-clause-found
returns-in-Ok-words_within-clause-found c =
    list_accepted c.args.expanded.now c.requires.lexicon c.args.segment c.args.input.now c.in-Ok-words_within.words c.requires.within c.in-Ok.ensures.cases.1
    (c.in-Ok-words_within.ensures.words ∙ ap (words_in c.args.segment) c.in-Ok.ensures.cases.0) c.in-Ok-words_within.ensures.known

pub returns-in-Err-words_within-clause-refused : goal.returns-in-Err-words_within-clause-refused
returns-in-Err-words_within-clause-refused c =
    let m = meaning_of c.args.expanded.now in
    subst (Stops (Unit {0}) 0 0 Listed (IsBadList m c.args.segment c.args.input.now) (HasList m c.args.segment c.args.input.now)) (sym c.stopped_in.ensures)
    (words_stop c.args.expanded.now c.requires.lexicon c.args.segment c.args.input.now c.in-Err-words_within.stop c.requires.within c.in-Ok.ensures.cases.1
    (subst (λ z. IsRefused c.args.expanded.now.lexicon (words_in c.args.segment z) c.in-Err-words_within.stop) c.in-Ok.ensures.cases.0 c.in-Err-words_within.ensures.refused))
