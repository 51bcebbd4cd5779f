use Rattle.std.proofs.Common.{◌≡◌, true, false}
use Rattle.xdg_store.proofs.Alone.{not_single, single_told}
use Rattle.xdg_store.proofs.single.is_single.Goals as goal

pub returns-then-not-are_entries_alone : goal.returns-then-not-are_entries_alone
returns-then-not-are_entries_alone c = (
  λ t. absurd (let q : false ≡ true = t in cc),
  λ single. absurd (not_single c.args.parts.now c.args.trail.now.words c.as_slice.result.now c.are_entries_alone.result c.requires.problem c.as_slice.ensures c.are_entries_alone.ensures c.if-not-are_entries_alone.true single),
)

pub returns : goal.returns
returns c = single_told c.args.parts.now c.args.trail.now.words c.as_slice.result.now c.as_slice-2.result.now c.len.result c.are_entries_alone.result c.are_nodes_alone.result c.requires.problem c.as_slice.ensures c.as_slice-2.ensures c.len.ensures c.are_entries_alone.ensures c.are_nodes_alone.ensures c.if-not-are_entries_alone.false
