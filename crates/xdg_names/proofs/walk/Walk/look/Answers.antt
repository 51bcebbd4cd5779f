use Rattle.std.proofs.Common.{◌≡◌, ℕ, List, ◌∷◌, [], ◌<◌, length, sym, ap, subst, refl, arith}
use Rattle.std.proofs.lemmas.List.{get_or_read}
use Rattle.xdg_names.specs.Leads.{number}
use Rattle.xdg_names.specs.Walks.{Merges}
use Rattle.xdg_names.proofs.Walking.{leads_on}
use Rattle.xdg_names.proofs.Merging.{leads_last, merged, merged_looked}
use Rattle.xdg_names.proofs.walk.Walk.look.Goals as goal
use Rattle.xdg_facts.proofs.Lists.{length_more}
use Rattle.xdg_facts.specs.Membership.{In}
use Rattle.xdg_facts.proofs.In.{in_left}

pub enter-requires-clause-reached : goal.enter-requires-clause-reached
enter-requires-clause-reached c = λ a h. leads_on c.args.graph.now a c.args.from c.args.to (leads_last _ _ _ _ _ _ _ _ c.requires.walks c.args.from c.requires.on c.requires.last a h) c.requires.reached

pub returns-in_ok-enter : goal.returns-in_ok-enter
returns-in_ok-enter c =
    let e = c.in_ok-enter.ensures in
    record {
      goes = e.goes;
      left = e.left;
      path = omega (arith, length_more c.args.self.now.path.items c.args.to, ap length e.path);
      held = subst (λ xs. In xs c.args.from) (sym e.path) (in_left c.args.self.now.path.items (c.args.to ∷ []) c.args.from c.requires.on);
      looked = (e.on c.args.from (c.requires.walks.path_on c.args.from c.requires.on)).1;
    }

pub returns-in_ok-merge : goal.returns-in_ok-merge
returns-in_ok-merge c =
    let w = c.requires.walks in
    let marks = c.args.self.now.marks.items in
    let len : length marks ≡ length c.args.graph.now = w.marks_are.len in
    let inside : c.args.to < length marks = let h : c.args.to < length c.args.graph.now = c.requires.within in omega arith in
    let mark : c.index-mark.result.now ≡ number marks c.args.to = get_or_read marks c.args.to c.index-mark.result.now inside c.index-mark.ensures 0 in
    let on : length c.args.graph.now < number marks c.args.to = omega (arith, c.if-mark-graph.true) in
    let m = subst (λ ms. Merges ms c.index-mark.result.now c.args.self.now.starts.items c.merge.new.starts.items) c.as_slice.ensures.value c.in_ok-merge.ensures in
    let k = subst (λ top. Merges marks top c.args.self.now.starts.items c.merge.new.starts.items) mark m in
    record {
      goes = record { walks = merged _ _ _ _ _ _ _ _ w c.args.from c.args.to c.requires.on c.requires.last c.requires.reached on _ k; stays = λ a h. h };
      left = refl {A = List ℕ};
      path = omega arith;
      held = c.requires.on;
      looked = merged_looked _ _ _ _ _ _ _ _ w c.args.from c.args.to c.requires.on c.requires.last c.requires.reached on _ k;
    }
