use Rattle.std.proofs.Common.{subst, sym}
use Rattle.xdg_plink.specs.Untouched.{HasLinks}
use Rattle.xdg_plink.proofs.near.near_links.Goals as goal

pub returns-in-BelowStart : goal.returns-in-BelowStart
returns-in-BelowStart c = subst (λ way. HasLinks c.near_paths.result way c.args.lost.now) (sym c.in-BelowStart.is) c.near_paths.ensures

pub returns-in-AboveStart : goal.returns-in-AboveStart
returns-in-AboveStart c = subst (λ way. HasLinks c.near_paths-in-AboveStart.result way c.args.lost.now) (sym c.in-AboveStart.is) c.near_paths-in-AboveStart.ensures
