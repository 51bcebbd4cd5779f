use Rattle.std.proofs.Common.{ℕ, List, sym, subst}
use Rattle.std.specs.Str.{IsValidUpTo}
use Rattle.xdg_corpus.specs.Inputs.{HasText, IsBadCorpus}
use Rattle.xdg_inputs.specs.Refusals.{Stops}
use Rattle.xdg_corpus.proofs.Inputting.{text_accepted, text_rejected}
use Rattle.xdg_corpus.proofs.input.text_of.Goals as goal

pub returns-in-Ok-clause-found : goal.returns-in-Ok-clause-found
returns-in-Ok-clause-found c = text_accepted c.args.input.now c.in-Ok.text.now c.requires c.in-Ok.ensures.cases.0 c.in-Ok.ensures.cases.1

pub returns-in-Err-clause-refused : goal.returns-in-Err-clause-refused
returns-in-Err-clause-refused c =
    subst (Stops (Unit {0}) 0 0 (List ℕ) (IsBadCorpus c.args.input.now) (HasText c.args.input.now)) (sym c.no_text.ensures)
    (λ told. text_rejected c.args.input.now c.valid_up_to.result c.requires c.in-Err.ensures.cases.0 (subst (IsValidUpTo c.args.input.now) (sym c.valid_up_to.ensures) c.in-Err.ensures.cases.1))
