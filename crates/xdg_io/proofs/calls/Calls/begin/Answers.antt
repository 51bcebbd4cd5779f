use Rattle.std.proofs.Common.{rules, ◌≡◌, true, refl, inl, nat_eq, min, ◌+◌}
use Rattle.std.specs.List.{list_any}
use Rattle.xdg_io.proofs.calls.Calls.begin.Goals as goal

pub returns-then-contains-clause-exact : goal.returns-then-contains-clause-exact
returns-then-contains-clause-exact c =
    let listed : list_any (λ n. nat_eq n (min (c.args.self.now.count + 1) 18446744073709551615)) c.args.self.now.fails ≡ true = search rules in
    (λ _. inl listed, λ _. refl)
