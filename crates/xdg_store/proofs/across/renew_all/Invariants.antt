use Rattle.std.proofs.Common.{◌≡◌, length, take}
use Rattle.std.specs.Prelude.{All}
use Rattle.xdg_store.specs.Across.{RenewsAll}
use Rattle.xdg_store.specs.Decisions.{IsDecision}
use Rattle.xdg_store.specs.Labels.{StaysTold}
use Rattle.xdg_store.proofs.across.renew_all.Given as goal

abbrev pub invariant-loop-decision : goal.invariant-loop-decision
invariant-loop-decision l =
    RenewsAll l.nodes l.trail.words (take l.decision-index l.changed) l.fn.rows.items l.rows.items
    × (length l.into.items ≡ length l.fn.into.items)
    × StaysTold l.nodes (λ parts. All (IsDecision parts) l.changed) l.fn.rows.items l.fn.into.items l.rows.items l.into.items
