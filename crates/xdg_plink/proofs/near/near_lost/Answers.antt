use Rattle.std.proofs.Common.{◌≡◌, false, true, refl, subst}
use Rattle.xdg_propcore.specs.Standing.{box_at}
use Rattle.xdg_propcore.specs.Touching.{HasTouched}
use Rattle.xdg_plink.specs.Untouched.{HasLinks}
use Rattle.xdg_plink.proofs.Others.{joins_stay, links_stay}
use Rattle.xdg_plink.proofs.Reaching.{not_reaching}
use Rattle.xdg_plink.proofs.near.near_lost.Goals as goal

pub returns-then-asks_edges : goal.returns-then-asks_edges
returns-then-asks_edges c =
    let s = c.args.store.now in
    let held = c.requires.held in
    links_stay s.parts c.args.group.now c.requires.known.problem (box_at s c.args.mark) s.now held.inside held.calm c.near_links.result c.gather.new.self
    (subst (λ d. HasTouched s.parts d (box_at s c.args.mark) s.now c.gather.new.self) c.dim_of-second_dim.ensures c.gather.ensures.touched) (c.if-asks_edges.ensures.0 refl)
    (subst (λ w. HasLinks c.near_links.result w c.gather.new.self) c.way_of.ensures c.near_links.ensures)

pub returns : goal.returns
returns c =
    let s = c.args.store.now in
    let held = c.requires.held in
    joins_stay s.parts c.args.group.now c.requires.known.problem (box_at s c.args.mark) s.now held.inside held.calm c.near_joins.result c.gather.new.self
    (subst (λ d. HasTouched s.parts d (box_at s c.args.mark) s.now c.gather.new.self) c.dim_of-second_dim.ensures c.gather.ensures.touched) (not_reaching c.args.group.now.principle c.requires.family (λ r. (let t : false ≡ true = c.if-asks_edges.ensures.1 r in cc))) held.is c.requires.known.is_box c.gather-2.new.self
    (subst (λ d. HasTouched s.parts d (box_at s c.args.mark) s.now c.gather-2.new.self) c.dim_of-first_dim.ensures c.gather-2.ensures.touched) c.near_joins.ensures
