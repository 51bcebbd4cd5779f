use Rattle.std.proofs.Common.{subst, sym}
use Rattle.xdg_split.specs.Splits.{AllWant, IsSplit, wanted_of}
use Rattle.xdg_split.proofs.splitting.split.Goals as goal

pub search_in_turns-requires-clause-wanted : goal.search_in_turns-requires-clause-wanted
search_in_turns-requires-clause-wanted g c = λ _ _. subst (λ w. AllWant w c.args.jobs.now) (sym c.wanted-first.ensures.is) c.requires

pub returns : goal.returns
returns g c =
    subst (IsSplit (wanted_of c.args.jobs.now) c.args.jobs.now c.in_ok-answer.answer.ending) (sym c.from_vec.ensures)
    (subst (λ w. IsSplit w c.args.jobs.now c.in_ok-answer.answer.ending c.in_ok-answer.answer.found.items) c.wanted-first.ensures.is c.in_ok-answer.ensures)
