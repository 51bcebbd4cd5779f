-- Names that stand for nothing, and names that are given again, in any lists.
use Rattle.std.specs.Prelude.{◌≡◌, ℕ, List, ◌∷◌, ◌++◌}
use Rattle.xdg_base.specs.Faults.{fault_at}
use Rattle.xdg_base.specs.declared.faults.Cause.{Cause}
use Rattle.xdg_base.specs.declared.faults.Cause.TheVariants as causes
use Rattle.xdg_base.specs.declared.faults.Fault.{Fault}
use Rattle.xdg_ast.specs.declared.names.Name.{Name}
use Rattle.xdg_facts.specs.Membership.{In}
use Rattle.xdg_ast.specs.Texts.{texts}

-- one of these names is none of the texts that are known
pub record IsUnknown (cause : Cause) (known : List (List ℕ)) (names : List Name) (f : Fault) : Type 0 where
  pub name : Name
  pub used : In names name
  pub missing : In known name.text → ⊥
  pub fault : f ≡ fault_at cause name.span.start

-- one of these names has the text of an earlier one
pub record IsAgain (names : List Name) (f : Fault) : Type 0 where
  pub before : List Name
  pub name : Name
  pub after : List Name
  pub parts : names ≡ before ++ name ∷ after
  pub earlier : In (texts before) name.text
  pub fault : f ≡ fault_at causes.Twice name.span.start

-- in one of these lists, in each of which a name may stand once, a name stands again
pub record IsTwice (lists : List (List Name)) (f : Fault) : Type 0 where
  pub names : List Name
  pub among : In lists names
  pub again : IsAgain names f
