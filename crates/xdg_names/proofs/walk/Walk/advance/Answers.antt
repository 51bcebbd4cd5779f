use Rattle.std.proofs.Common.{◌≡◌, ℕ, ◌+◌, ◌-◌, List, ◌<◌, ◌≤◌, length, sym, ap, subst, arith}
use Rattle.std.proofs.lemmas.List.{get_or_read}
use Rattle.xdg_names.specs.Leads.{Leads, number}
use Rattle.xdg_names.specs.Walks.{IsLooked}
use Rattle.xdg_names.proofs.Climbs.{marked_within}
use Rattle.xdg_names.proofs.Walking.{advanced, next_stands, leads_by}
use Rattle.xdg_names.proofs.walk.Walk.advance.Goals as goal

pub look-requires-clause-within : goal.look-requires-clause-within
look-requires-clause-within c =
    let w = c.requires.walks in
    let left = c.args.self.now.left.items in
    let has : 1 ≤ number left c.args.last = c.requires.has in
    let read : c.index.result.now ≡ number left c.args.last = get_or_read left c.args.last c.index.result.now (marked_within left c.args.last has) c.index.ensures 0 in
    let one : number left c.args.last ≡ (c.index.result.now - 1) + 1 = omega arith in
    let g = c.args.graph.now in
    subst (λ t. t < length g) (sym c.used-to.ensures) (c.requires.graph c.args.last _ (next_stands _ _ _ _ _ _ _ _ w c.args.last _ one))

pub look-requires-clause-reached : goal.look-requires-clause-reached
look-requires-clause-reached c =
    let w = c.requires.walks in
    let left = c.args.self.now.left.items in
    let has : 1 ≤ number left c.args.last = c.requires.has in
    let read : c.index.result.now ≡ number left c.args.last = get_or_read left c.args.last c.index.result.now (marked_within left c.args.last has) c.index.ensures 0 in
    let one : number left c.args.last ≡ (c.index.result.now - 1) + 1 = omega arith in
    let g = c.args.graph.now in
    subst (Leads g c.args.last) (sym c.used-to.ensures) (leads_by g c.args.last _ (next_stands _ _ _ _ _ _ _ _ w c.args.last _ one))

pub returns-clause-goes : goal.returns-clause-goes
returns-clause-goes c =
    let left = c.args.self.now.left.items in
    let new = c.look.new.self in
    let k = c.in_ok-look.ensures in
    let has : 1 ≤ number left c.args.last = c.requires.has in
    let read : c.index.result.now ≡ number left c.args.last = get_or_read left c.args.last c.index.result.now (marked_within left c.args.last has) c.index.ensures 0 in
    let same : number new.left.items c.args.last ≡ number left c.args.last = ap (λ (xs : List ℕ). number xs c.args.last) k.left in
    let one : number new.left.items c.args.last ≡ (c.index.result.now - 1) + 1 = omega arith in
    let g = c.args.graph.now in
    let looked = subst (IsLooked (length g) new.marks.items new.starts.items c.args.last) c.used-to.ensures k.looked in
    record { walks = advanced _ _ _ _ _ _ _ _ k.goes.walks c.args.last _ one k.held looked; stays = k.goes.stays }
