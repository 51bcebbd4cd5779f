-- The numbers of a value are in range.
use Rattle.std.specs.Prelude.{ℕ, zero, suc, ◌<◌, ◌^◌}
use Rattle.xdg_domain.specs.Shapes.{Shape, integer, fields, Fields, no_field, field_then}
use Rattle.xdg_domain.specs.Values.{EachSaid}
use Rattle.xdg_domain.specs.declared.values.Value.{Value, out-Value}
use Rattle.xdg_domain.specs.declared.values.Value.TheOpen.{Value-F}

-- the number, and those in the fields of a record, are below 2 ^ 32
abbrev mutual
  pub FitsIn : Shape → Value-F Value → Type 0
  FitsIn integer (Value-F.Int n) = n < 2 ^ 32
  FitsIn (fields fs) (Value-F.Rec m) = EachSaid (FitsField fs) m
  FitsIn s v = Unit {0}

  -- the same of the field with that place
  pub FitsField : Fields → ℕ → Value → Type 0
  FitsField no_field k v = Unit {0}
  FitsField (field_then name u fs) zero v = FitsIn u (out-Value v)
  FitsField (field_then name u fs) (suc k) v = FitsField fs k v

abbrev pub Fits : Shape → Value → Type 0
Fits s v = FitsIn s (out-Value v)
