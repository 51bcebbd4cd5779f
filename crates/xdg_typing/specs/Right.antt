-- Grammars whose types are right.
use Rattle.std.specs.Prelude.{ℕ, List}
use Rattle.xdg_base.specs.declared.faults.Fault.{Fault}
use Rattle.xdg_types.specs.Parts.{Statement}
use Rattle.xdg_types.specs.Meaning.{Resolves}
use Rattle.xdg_types.specs.Kinds.{KindOffends}
use Rattle.xdg_types.specs.Names.{NameOffends}
use Rattle.xdg_typing.specs.Branches.{Naming}
use Rattle.xdg_typing.specs.Answers.{IsRanked}

-- The names mean what their definitions say, no definition leads back to itself, and nothing is wrong with names, kinds
-- and sizes.
pub record AreRight (statements : List Statement) (names : Naming) : Type 0 where
  pub resolves : Resolves statements names
  pub rank : List ℕ → ℕ
  pub ranked : IsRanked statements rank
  pub kinds : (f : Fault) → KindOffends names statements f → ⊥
  pub once : (f : Fault) → NameOffends statements f → ⊥
