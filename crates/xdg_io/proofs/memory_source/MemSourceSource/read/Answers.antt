use Rattle.std.proofs.Common.{◌≡◌, ◌<◌, ℕ, length, min, subst, ap, rules}
use Rattle.xdg_io.proofs.memory_source.MemSourceSource.read.Goals as goal
use Rattle.xdg_facts.proofs.Numbers.{ends_exactly}

pub returns-clause-end : goal.returns-clause-end
returns-clause-end c =
    let Some_cut : ℕ → Type 0 = λ n. 0 < n in
    let some_cut : 0 < c.args.self.now.cut = subst Some_cut (ap (λ s. s.cut) c.self.view_is) c.self.invariant.0 in
    let is : c.copy_front-count.result ≡ min c.args.self.now.cut (min (length c.args.buffer.now) (length c.args.self.now.left)) = search rules in
    ends_exactly c.args.self.now.cut (length c.args.buffer.now) c.copy_front-count.result c.args.self.now.left some_cut c.requires is
