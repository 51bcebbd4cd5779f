use Rattle.xdg_plink.proofs.near.near_since.Goals as goal

pub near_lost-requires-clause-held : goal.near_lost-requires-clause-held
near_lost-requires-clause-held c = c.requires.held c.in-Some.mark c.in-Some.is
