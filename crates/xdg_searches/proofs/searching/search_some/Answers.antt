use Rattle.std.proofs.Common.{◌-◌, ◌∙◌, IfOk, subst, sym}
use Rattle.xdg_searches.proofs.Branching.{wants_from}
use Rattle.xdg_split.specs.Splits.{AllWant, Continues}
use Rattle.xdg_searches.proofs.searching.search_some.Goals as goal

pub search_next-requires-clause-wanted : goal.search_next-requires-clause-wanted
search_next-requires-clause-wanted g c = λ _ _. subst (AllWant c.args.first) (sym (c.as_slice.ensures ∙ c.in_ok-jobs.ensures)) (wants_from c.args.problem.now c.args.budget c.args.first c.args.from (c.args.to - c.args.from))

pub returns : goal.returns
returns g c =
    subst (λ js. IfOk c.search_next.result (λ more. Continues c.args.first c.args.found.ending c.args.found.found.items js more.ending more.found.items))
    (c.as_slice.ensures ∙ c.in_ok-jobs.ensures) c.search_next.ensures
