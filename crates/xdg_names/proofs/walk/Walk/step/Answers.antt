use Rattle.std.proofs.Common.{◌≡◌, ◌<◌, length, sym, subst, arith}
use Rattle.std.proofs.lemmas.List.{get_or_read}
use Rattle.xdg_names.specs.Leads.{number}
use Rattle.xdg_names.proofs.Climbs.{marked_within}
use Rattle.xdg_names.proofs.Leaving.{last_on, last_of_path}
use Rattle.xdg_names.proofs.walk.Walk.step.Goals as goal
use Rattle.xdg_facts.specs.Membership.{In}
use Rattle.xdg_facts.proofs.In.{is_last}

pub index-requires : goal.index-requires
index-requires c =
    let v = c.requires.walks in
    let on : length c.args.graph.now < number c.args.self.now.marks.items c.args.last = last_on _ _ _ _ _ _ _ _ _ v in
    let inside : c.args.last < length c.args.self.now.marks.items = marked_within _ c.args.last (omega arith) in
    omega (arith, v.lefts, v.marks_are.len, c.args.self.now.left.ok)

pub advance-requires-clause-on : goal.advance-requires-clause-on
advance-requires-clause-on c = subst (λ xs. In xs c.args.last) (sym c.in_ok-push.ensures.items) (is_last c.args.self.now.path.items c.args.last)

pub advance-requires-clause-last : goal.advance-requires-clause-last
advance-requires-clause-last c = λ a h. last_of_path _ _ _ _ _ _ _ _ _ c.requires.walks a (subst (λ xs. In xs a) c.in_ok-push.ensures.items h)

pub advance-requires-clause-has : goal.advance-requires-clause-has
advance-requires-clause-has c =
    let v = c.requires.walks in
    let left = c.args.self.now.left.items in
    let on : length c.args.graph.now < number c.args.self.now.marks.items c.args.last = last_on _ _ _ _ _ _ _ _ _ v in
    let within : c.args.last < length c.args.self.now.marks.items = marked_within _ c.args.last (omega arith) in
    let inside : c.args.last < length left = omega (arith, v.lefts, v.marks_are.len) in
    let read : c.index.result.now ≡ number left c.args.last = get_or_read left c.args.last c.index.result.now inside c.index.ensures 0 in
    omega arith
