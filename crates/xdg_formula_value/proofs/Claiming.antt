-- What formulas claim, form by form, as one set of equations.
use Rattle.xdg_problem.proofs.Claimed.{claim_not, claim_and, claim_or, claim_every, claim_any, claim_edge, claim_above, claim_left, claim_same, claim_attr, claim_feat}

pub ruleset the_claims = (claim_not, claim_and, claim_or, claim_every, claim_any, claim_edge, claim_above, claim_left, claim_same, claim_attr, claim_feat)
