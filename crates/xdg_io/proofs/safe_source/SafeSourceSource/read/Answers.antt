use Rattle.std.proofs.Common.{◌≡◌, length, min, rules}
use Rattle.xdg_io.proofs.safe_source.SafeSourceSource.read.Goals as goal
use Rattle.xdg_facts.proofs.Numbers.{ends_exactly}

pub returns-clause-end : goal.returns-clause-end
returns-clause-end c =
    let room = length c.args.buffer.now in
    let is : c.copy_front-count.result ≡ min room (min room (length c.args.self.now)) = search rules in
    ends_exactly room room c.copy_front-count.result c.args.self.now c.requires c.requires is
