use Rattle.std.proofs.Common.{◌≡◌, length}
use Rattle.xdg_packed.proofs.Growing.{Shortened}
use Rattle.xdg_packed.proofs.tables.Tables.take_back.Given as goal

abbrev pub invariant-loop-dim : goal.invariant-loop-dim
invariant-loop-dim l =
    (length l.self.tables.items ≡ length l.initial.self.tables.items) × (l.self.spellings.items ≡ l.initial.self.spellings.items) × Shortened l.initial.self.tables.items l.self.tables.items l.dim
