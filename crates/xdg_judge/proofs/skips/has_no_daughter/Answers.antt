use Rattle.xdg_judge.proofs.skips.has_no_daughter.Goals as goal

pub returns : goal.returns
returns c = λ t v d. c.leads_nowhere.ensures t v ((c.requires.view.first_links.down.by_label c.args.u c.args.label v).1 d)
