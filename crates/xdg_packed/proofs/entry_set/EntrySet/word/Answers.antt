use Rattle.std.proofs.Common.{◌<◌, List, length, sym, ap, subst, ◌∙◌, arith}
use Rattle.xdg_packed.specs.Lexicon.{said_in}
use Rattle.xdg_packed.specs.Packing.{kept}
use Rattle.xdg_packed.specs.declared.table.Table.{Table}
use Rattle.xdg_packed.proofs.Said.{holds_kept}
use Rattle.xdg_packed.proofs.Unpacked.{HoldsDim, read_dim, table_within, record_is}
use Rattle.xdg_packed.proofs.entry_set.EntrySet.word.Goals.{After-index-as_slice-dim}
use Rattle.xdg_packed.proofs.entry_set.EntrySet.word.Goals as goal

pub bounds-as_slice-dim : goal.bounds-as_slice-dim
bounds-as_slice-dim c =
    subst (λ (ts : List Table). c.args.dim < length ts) (sym c.as_slice.ensures.value)
    (table_within _ _ (holds_kept c.args.self.now c.requires.right) c.args.number c.args.dim c.requires.number c.requires.dim)

table : (c : After-index-as_slice-dim) → HoldsDim (kept c.args.self.now) c.args.dim c.index-as_slice-dim.result
table c =
    let holds = holds_kept c.args.self.now c.requires.right in
    read_dim _ _ holds _ c.args.dim _ c.as_slice.ensures.value (table_within _ _ holds c.args.number c.args.dim c.requires.number c.requires.dim) c.index-as_slice-dim.is

pub record-requires-clause-right : goal.record-requires-clause-right
record-requires-clause-right c = (table (goal.at.record-requires-clause-right c).After-index-as_slice-dim).right

pub record-requires-clause-within : goal.record-requires-clause-within
record-requires-clause-within c = let h = table (goal.at.record-requires-clause-within c).After-index-as_slice-dim in omega (arith, h.long, c.requires.number)

pub returns : goal.returns
returns c =
    c.text_at.ensures
    ∙ ap (λ fields. said_in fields c.args.field) (record_is (kept c.args.self.now) c.args.dim _ c.args.number _ (table (goal.at.returns c).After-index-as_slice-dim) c.requires.number c.record.ensures)
