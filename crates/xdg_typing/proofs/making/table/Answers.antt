use Rattle.std.proofs.Common.{◌≡◌, subst, sym, ap, ◌∙◌, List, ℕ}
use Rattle.xdg_types.specs.declared.table.DimType.{DimType}
use Rattle.xdg_types.specs.Parts.{Statement, used_names, dimensions}
use Rattle.xdg_types.specs.Table.{AreDims, AreUsed, IsTableOf}
use Rattle.xdg_typing.specs.Used.{places}
use Rattle.xdg_typing.specs.Branches.{Naming}
use Rattle.xdg_typing.specs.Right.{AreRight}
use Rattle.xdg_types.proofs.Made.{names_in}
use Rattle.xdg_typing.proofs.RightTable.{names_differ, used_are, is_table}
use Rattle.xdg_typing.proofs.making.table.Goals as goal
use Rattle.xdg_facts.specs.Membership.{Differ}

-- the places are those of the dimensions that are used
used_by : (statements : List Statement) (names : Naming) (dims lent : List DimType) (known : List (List ℕ)) (used : List ℕ) → AreRight statements names → AreDims names (dimensions statements) dims
    → lent ≡ dims → known ≡ names_in lent → used ≡ places known (used_names statements) → AreUsed dims (used_names statements) used
used_by statements names dims lent known used right are same is_known is =
    subst (AreUsed dims (used_names statements)) (sym (is ∙ ap (λ k. places k (used_names statements)) (is_known ∙ ap names_in same))) (used_are statements names right dims are)

pub index_dims-requires : goal.index_dims-requires
index_dims-requires c =
    let known = c.requires.known in
    subst (λ ds. Differ (names_in ds)) (sym c.as_slice.ensures) (names_differ c.args.statements.now known.0 known.1.1.1 c.in_ok-dims.dims (c.in_ok-dims.ensures known.0 known.1.0))

pub new-requires : goal.new-requires
new-requires c =
    let known = c.requires.known in
    let are = c.in_ok-dims.ensures known.0 known.1.0 in
    is_table c.args.statements.now known.0 known.1.1.1 c.in_ok-dims.dims c.in_ok-used.used are (used_by c.args.statements.now known.0 _ _ _ _ known.1.1.1 are c.as_slice.ensures c.in_ok-known.ensures c.in_ok-used.ensures)

pub returns-clause-made : goal.returns-clause-made
returns-clause-made c = λ names knows.
    let known = c.requires.known in
    let are = c.in_ok-dims.ensures known.0 known.1.0 in
    subst (IsTableOf names c.args.statements.now) (sym c.new.ensures)
    (record { dims = c.in_ok-dims.ensures names knows; used = used_by c.args.statements.now known.0 _ _ _ _ known.1.1.1 are c.as_slice.ensures c.in_ok-known.ensures c.in_ok-used.ensures })
