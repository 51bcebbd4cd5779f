-- What the code has at hand while it looks at uses of principles.
use Rattle.std.specs.Prelude.{◌≡◌, ℕ, List, map, Some}
use Rattle.xdg_types.specs.declared.table.DimType.{DimType}
use Rattle.xdg_types.specs.Table.{KeepDims, firsts}
use Rattle.xdg_principles.specs.declared.lookup.Lookup.{Lookup}
use Rattle.xdg_problem.specs.declared.forms.Sort.{Sort}
use Rattle.xdg_problem.specs.declared.forms.Sort.TheVariants as s
use Rattle.xdg_principles.specs.declared.settings.SettingRef.{SettingRef}
use Rattle.xdg_principles.specs.declared.settings.CalledRef.{CalledRef}
use Rattle.xdg_principles.specs.Settings.{Setting, Called, dim_texts, members_in}
use Rattle.xdg_principles.specs.Uses.{seen}

-- the names of the features or the attributes of each dimension
abbrev pub member_names : Sort → List DimType → List (List (List ℕ))
member_names sort dims = map (λ dim. firsts (members_in sort (Some dim))) dims

abbrev pub names_by : Lookup → Sort → List (List (List ℕ))
names_by lookup s.Feature = lookup.features
names_by lookup s.Attribute = lookup.attributes

-- The indexes are those of the dimensions, which are dimensions of a table.
pub record Knows (dims : List DimType) (lookup : Lookup) : Type 0 where
  pub keeps : KeepDims dims
  pub names : lookup.dims ≡ dim_texts dims
  pub members : (sort : Sort) → names_by lookup sort ≡ member_names sort dims

abbrev pub as_setting : SettingRef → Setting
as_setting lent = record { dims = lent.dims.now; one = seen lent.one; form = lent.form }

abbrev pub IsReady : SettingRef → Type 0
IsReady lent = Knows lent.dims.now lent.lookup.now

abbrev pub as_called : CalledRef → Called
as_called called = record { text = called.text.now; at = called.at }
