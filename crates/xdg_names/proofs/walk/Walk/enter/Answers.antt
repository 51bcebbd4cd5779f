use Rattle.std.proofs.Common.{◌≡◌, ℕ, List, length, refl, arith}
use Rattle.xdg_names.proofs.Walking.{entered, entered_met, entered_stays, entered_on}
use Rattle.xdg_names.proofs.walk.Walk.enter.Goals as goal

pub returns : goal.returns
returns c =
    let w = c.requires.walks in
    let len : c.len.result ≡ length c.args.self.now.stack.items = omega (arith, c.len.ensures) in
    record {
      goes = record {
        walks = rw (len, c.in_ok-push.ensures.items, c.in_ok-push-2.ensures.items, c.in_ok-push-3.ensures.items) (entered _ _ _ _ _ _ _ _ w c.args.definition c.requires.within c.requires.fresh c.requires.reached);
        stays = λ a h. rw len (entered_stays _ _ _ _ _ _ _ _ w c.args.definition c.requires.within c.requires.fresh c.requires.reached a h);
      };
      left = refl {A = List ℕ};
      path = c.in_ok-push-3.ensures.items;
      on = λ a h. rw (len, c.in_ok-push-2.ensures.items) (entered_on _ _ _ _ _ _ _ _ w c.args.definition c.requires.within c.requires.fresh c.requires.reached a h);
      met = rw len (entered_met _ _ _ _ _ _ _ _ w c.args.definition c.requires.within c.requires.fresh c.requires.reached);
    }
