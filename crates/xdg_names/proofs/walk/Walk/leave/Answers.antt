use Rattle.std.proofs.Common.{◌≡◌, ◌∷◌, [], ◌++◌, ◌<◌, ◌≤◌, length, subst, arith}
use Rattle.xdg_names.specs.Leads.{number}
use Rattle.xdg_names.specs.Walks.{IsWalking, Closes}
use Rattle.xdg_names.proofs.Leaving.{last_on, next_fits, has_start, passed, closed, closed_stays}
use Rattle.xdg_names.proofs.walk.Walk.leave.Goals as goal
use Rattle.xdg_facts.proofs.Lists.{empty_list}

pub close-requires-clause-most : goal.close-requires-clause-most
close-requires-clause-most c =
    let v = c.requires.walks in
    let len : length c.args.self.now.marks.items ≡ length c.args.graph.now = v.marks_are.len in
    let fits : c.args.self.now.next ≤ length c.args.graph.now = next_fits _ _ _ _ _ _ _ _ _ v in
    omega arith

pub close-requires-clause-on : goal.close-requires-clause-on
close-requires-clause-on c =
    let v = c.requires.walks in
    let len : length c.args.self.now.marks.items ≡ length c.args.graph.now = v.marks_are.len in
    let on : length c.args.graph.now < number c.args.self.now.marks.items c.args.last = last_on _ _ _ _ _ _ _ _ _ v in
    omega arith

pub returns-in-None-clause-goes : goal.returns-in-None-clause-goes
returns-in-None-clause-goes c = absurd (has_start _ _ _ _ _ _ _ _ _ c.requires.walks (empty_list c.args.self.now.starts.items (omega (arith, c.in-None.ensures.cases))))

pub returns-in_ok-push-in-Some-clause-goes : goal.returns-in_ok-push-in-Some-clause-goes
returns-in_ok-push-in-Some-clause-goes c =
    let w = c.args.self.now in
    let v = subst (λ s. IsWalking c.args.graph.now w.marks.items w.left.items w.stack.items s (w.path.items ++ c.args.last ∷ []) w.order.items w.next) c.in-Some.ensures.items c.requires.walks in
    record {
      walks = rw c.in_ok-push-in-Some.ensures.items (passed _ _ _ _ _ _ _ _ _ _ v c.requires.none c.if-start-last.false);
      stays = λ a h. h;
    }

pub returns-in_ok-close-in-Some-clause-goes : goal.returns-in_ok-close-in-Some-clause-goes
returns-in_ok-close-in-Some-clause-goes c =
    let w = c.args.self.now in
    let v = subst (λ s. IsWalking c.args.graph.now w.marks.items w.left.items w.stack.items s (w.path.items ++ c.args.last ∷ []) w.order.items w.next) c.in-Some.ensures.items c.requires.walks in
    let v' = subst (λ t. IsWalking c.args.graph.now w.marks.items w.left.items w.stack.items (c.pop.new.self.items ++ t ∷ []) (w.path.items ++ c.args.last ∷ []) w.order.items w.next) c.if-start-last.true v in
    let k = subst (λ n. Closes n c.args.last w.next w.marks.items w.order.items c.close.new.marks.items c.close.new.stack.items c.close.new.order.items) c.requires.walks.marks_are.len c.in_ok-close-in-Some.ensures in
    record {
      walks = closed _ _ _ _ _ _ _ _ _ v' c.requires.none _ _ _ k;
      stays = closed_stays _ _ _ _ _ _ _ _ _ v' c.requires.none _ _ _ k;
    }
