-- Entries of a grammar with these types: the one at a place, and the one place of their words.
use Rattle.std.proofs.Common.{◌≡◌, ℕ, ◌<◌, List, [], length, get_or, map, Option, None, Some, refl, sym, ap, ap₂, ◌∙◌, subst}
use Rattle.std.specs.Prelude.{slice_get}
use Rattle.xdg_domain.specs.declared.types.Ty.{Ty}
use Rattle.xdg_domain.specs.Shapes.{Shape, shape, text}
use Rattle.xdg_types.specs.declared.table.DimType.{DimType}
use Rattle.xdg_types.specs.Table.{Table, IsTable, typed}
use Rattle.xdg_packed.specs.Lexicon.{Entry}
use Rattle.xdg_packed.specs.Entries.{IsUsed, IsEntry, AreEntries, IsWordPlace, TellsWordPlace}
use Rattle.xdg_facts.specs.Membership.{Differ}
use Rattle.xdg_facts.proofs.In.{differ_once}
use Rattle.xdg_facts.proofs.Lists.{any_default, fused, map_at}
use Rattle.xdg_facts.proofs.Options.{some_same}
use Rattle.xdg_types.proofs.Places.{places_once}
use Rattle.xdg_types.proofs.Kept.{keeps_found}
use Rattle.xdg_facts.proofs.Each.{at_place}

pub entry_at : (table : Table) (entries : List Entry) (n : ℕ) (entry : Entry) → AreEntries table entries → n < length entries → entry ≡ get_or entries n [] → IsEntry table entry
entry_at table entries n entry are within is = at_place (AreEntries table) (IsEntry table) (λ _ _ h. h) entries n entry are within (is ∙ any_default entries n [] entry within)

-- ---- the place of the words

-- used dimensions of one name are one dimension at one place
pub used_once : (table : Table) → IsTable table → (d e : ℕ) (one other : DimType) → IsUsed table d one → IsUsed table e other → one.name ≡ other.name → (d ≡ e) × (one ≡ other)
used_once table is d e one other x y same =
    let name : DimType → List ℕ = λ dim. dim.name in
    let place : x.0 ≡ y.0 = differ_once (map name table.dims) x.0 y.0 one.name is.names (map_at name table.dims x.0 one x.1.1) (map_at name table.dims y.0 other y.1.1 ∙ ap Some (sym same)) in (
      places_once (length table.dims) table.used d e x.0 is.used x.1.0 (y.1.0 ∙ ap Some (sym place)),
      some_same one other (sym x.1.1 ∙ ap (slice_get table.dims) place ∙ y.1.1),
    )

-- a feature's name stands at one place of a dimension
pub feature_once : (table : Table) → IsTable table → (d : ℕ) (dim : DimType) → IsUsed table d dim → (f g : ℕ) (name : List ℕ) (s t : Shape)
    → slice_get (typed dim.fields) f ≡ Some (name, s) → slice_get (typed dim.fields) g ≡ Some (name, t) → f ≡ g
feature_once table is d dim used f g name s t one other =
    let first : List ℕ × Shape → List ℕ = λ field. field.0 in
    differ_once (map first (typed dim.fields)) f g name
    (subst Differ (sym (fused first (λ (field : List ℕ × Ty). (field.0, shape field.1)) dim.fields)) (keeps_found table.dims used.0 dim used.1.1 is.dims).fields)
    (map_at first (typed dim.fields) f (name, s) one) (map_at first (typed dim.fields) g (name, t) other)

pub words_once : (table : Table) → IsTable table → (d f e g : ℕ) → IsWordPlace table d f → IsWordPlace table e g → (d ≡ e) × (f ≡ g)
words_once table is d f e g x y =
    let same = used_once table is d e x.lex y.lex x.used y.used (x.name ∙ sym y.name) in
    (same.0, feature_once table is d x.lex x.used f g _ text text x.word (ap (λ (dim : DimType). slice_get (typed dim.fields) g) same.1 ∙ y.word))

-- two answers that tell it are one
pub told_once : (table : Table) → IsTable table → (a b : Option (ℕ × ℕ)) → TellsWordPlace table a → TellsWordPlace table b → a ≡ b
told_once table is None None a b = refl
told_once table is None (Some q) a b = absurd (a q.0 q.1 b)
told_once table is (Some p) None a b = absurd (b p.0 p.1 a)
told_once table is (Some p) (Some q) a b = let same = words_once table is p.0 p.1 q.0 q.1 a b in ap₂ (λ d f. Some (d, f)) same.0 same.1
