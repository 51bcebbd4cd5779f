use Rattle.xdg_facts.proofs.Wholes.{whole_listed}
use Rattle.xdg_facts.proofs.one_ending.Goals as goal

pub returns-clause-whole : goal.returns-clause-whole
returns-clause-whole c = whole_listed
