-- The features of an entry, by what their types say.
use Rattle.std.proofs.Common.{◌≡◌, ℕ, zero, suc, ◌<◌, ◌+◌, List, [], ◌∷◌, length, get_or, refl, sym, ap, ◌∙◌, subst, arith}
use Rattle.std.specs.Prelude.{Option, None, Some, MatchOption, slice_get}
use Rattle.xdg_domain.specs.Defaults.{IsFilledIn, AreFilled}
use Rattle.xdg_domain.specs.Shapes.{Shape, fields_of}
use Rattle.xdg_domain.specs.Valencies.{said_at}
use Rattle.xdg_domain.specs.Values.{IsIn, IsFieldOf, EachSaid}
use Rattle.xdg_domain.specs.declared.values.Value.{Value, out-Value}
use Rattle.xdg_domain.specs.declared.values.Value.TheVariants as v
use Rattle.xdg_domain.proofs.Keyed.{said_right}
use Rattle.xdg_types.specs.declared.table.DimType.{DimType}
use Rattle.xdg_types.specs.Table.{Table, Typed, typed}
use Rattle.xdg_packed.specs.Lexicon.{Record, Entry}
use Rattle.xdg_packed.specs.Entries.{IsUsed, IsWhole, IsEntry, record_type}
use Rattle.xdg_principles.specs.declared.building.PrincipleUse.{PrincipleUse}
use Rattle.xdg_problem.specs.declared.forms.Sort.TheVariants as s
use Rattle.xdg_problem.specs.declared.forms.Typing.{Typing}
use Rattle.xdg_problem.specs.declared.forms.Which.{Which}
use Rattle.xdg_principles.specs.Typed.{IsTypedMember, number_of, labels_at}
use Rattle.xdg_build.specs.Features.{rows_of, feature}
use Rattle.xdg_build.specs.Grammars.{used_place}
use Rattle.xdg_build.proofs.Dimensions.{Home, is_used_home, members-home}
use Rattle.xdg_build.proofs.TypeRows.{RowsFit, value_rows}
use Rattle.xdg_facts.proofs.Options.{none_some, some_same}

-- ---- a record

told : (o : Option Value) (P : Value → Type 0) → MatchOption o ⊥ P → (x : Value) × (o ≡ Some x) × P x
told None P h = absurd h
told (Some x) P h = (x, refl, h)

same_type : (one : List ℕ × Shape) (name : List ℕ) (type : Shape) → Some one ≡ Some (name, type) → one.1 ≡ type
same_type one name type h = ap (λ (f : List ℕ × Shape). f.1) (some_same one (name, type) h)

filled_at : (all : Typed) (place at k : ℕ) (name : List ℕ) (type : Shape) (m : Record) → at ≡ place + k → slice_get all k ≡ Some (name, type) → AreFilled place (fields_of all) m
    → (x : Value) × (said_at m at ≡ Some x) × IsFilledIn type (out-Value x)
filled_at [] place at k name type m same h filled = absurd (none_some (name, type) h)
filled_at (one ∷ all) place at zero name type m same h filled =
    let here : place ≡ at = omega (arith, same) in
    told (said_at m at) (λ x. IsFilledIn type (out-Value x))
    (subst (λ u. MatchOption (said_at m at) ⊥ (λ x. IsFilledIn u (out-Value x))) (same_type one name type h) (subst (λ n. MatchOption (said_at m n) ⊥ (λ x. IsFilledIn one.1 (out-Value x))) here filled.0))
filled_at (one ∷ all) place at (suc k) name type m same h filled = filled_at all (place + 1) at k name type m (omega (arith, same)) h filled.1

field_in : (all : Typed) (k : ℕ) (name : List ℕ) (type : Shape) (x : Value) → slice_get all k ≡ Some (name, type) → IsFieldOf (fields_of all) k x → IsIn type (out-Value x)
field_in [] k name type x h is = absurd is
field_in (one ∷ all) zero name type x h is = subst (λ u. IsIn u (out-Value x)) (same_type one name type h) is
field_in (one ∷ all) (suc k) name type x h is = field_in all k name type x h is

-- what a record says for a feature: a value of its type, whole
pub record IsSaid (m : Record) (place : ℕ) (type : Shape) : Type 0 where
  pub value : Value
  pub is : said_at m place ≡ Some value
  pub right : IsIn type (out-Value value)
  pub filled : IsFilledIn type (out-Value value)

-- ---- an entry

-- what it says for a feature of a used dimension
pub said_of : (table : Table) (d : ℕ) (dim : DimType) (entry : Entry) (place : ℕ) (name : List ℕ) (type : Shape) → IsEntry table entry → IsUsed table d dim
    → slice_get (typed dim.fields) place ≡ Some (name, type) → IsSaid (get_or entry d []) place type
said_of table d dim entry place name type is used stands =
    let m : Record = get_or entry d [] in
    let all : Typed = typed dim.fields in
    let whole : IsWhole dim m = is.each d dim used in
    let each : EachSaid (IsFieldOf (fields_of all)) m = (subst (λ x. IsIn (record_type dim) x) (v.outs-Rec m) whole.0).1 in
    let filled : AreFilled 0 (fields_of all) m = subst (λ x. IsFilledIn (record_type dim) x) (v.outs-Rec m) whole.1 in
    let said = filled_at all 0 place place name type m (let first : place ≡ 0 + place = omega arith in first) stands filled in
    record { value = said.0; is = said.1; right = field_in all place name type said.0 stands (said_right (IsFieldOf (fields_of all)) m place said.0 each said.1); filled = said.2 }

pub feature_fits : (table : Table) (u : PrincipleUse) (shared : Shape) (which : Which) (typing : Typing) (entry : Entry) (place : ℕ) → number_of which < length u.dims → Home table (get_or u.dims (number_of which) 0) → IsEntry table entry
    → IsTypedMember table u shared s.Feature which typing place → RowsFit (labels_at table u) shared typing (feature table entry (get_or u.dims (number_of which) 0) place).rows
feature_fits table u shared which typing entry place within home is member =
    let k : ℕ = get_or u.dims (number_of which) 0 in
    let stands = sym (ap (λ all. slice_get all place) (members-home table u s.Feature which within home)) ∙ member.stands in
    let said = said_of table (used_place table k) home.dim entry place member.name member.type is (is_used_home table k home) stands in
    subst (λ o. RowsFit (labels_at table u) shared typing (rows_of o)) (sym said.is) (value_rows (labels_at table u) shared typing member.type (out-Value said.value) member.wanted said.right said.filled)
