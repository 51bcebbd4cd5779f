-- What is wrong with a record of attributes.
use Rattle.std.proofs.Common.{◌≡◌, ℕ, ◌<◌, ◌≤◌, Bool, List, [], ◌∷◌, length, get_or, Option, None, Some, refl, sym, ap, ap₂, ◌∙◌, arith}
use Rattle.std.specs.Prelude.{slice_get, option_map}
use Rattle.std.proofs.lemmas.Option.{slice_get-map, slice_get_read, slice_get_past}
use Rattle.xdg_base.specs.declared.faults.Cause.TheVariants as causes
use Rattle.xdg_base.specs.declared.faults.Fault.{Fault}
use Rattle.xdg_names.specs.First.{first, earlier}
use Rattle.xdg_names.proofs.First.{first_append}
use Rattle.xdg_ast.specs.declared.names.Name.{Name}
use Rattle.xdg_ast.specs.declared.names.Pair.{Pair}
use Rattle.xdg_ast.specs.declared.types.TypeKind.{TypeKind}
use Rattle.xdg_ast.specs.declared.types.TypeKind.TheVariants as y
use Rattle.xdg_domain.specs.Shapes.{Shape}
use Rattle.xdg_types.specs.Written.{member_names, tree}
use Rattle.xdg_types.specs.Parts.{TypeTerm, keys}
use Rattle.xdg_types.specs.Meaning.{meaning, fields_meaning}
use Rattle.xdg_types.specs.Kinds.{field_count}
use Rattle.xdg_base.specs.Faults.{fault_reaching}
use Rattle.xdg_typing.specs.KindFaults.{members, ninth_name_faults, has_other, wide_record_faults, other_faults, named_faults}
use Rattle.xdg_typing.proofs.Layers.{tree_rec}

abbrev Fields : Type 0
Fields = List (Pair TypeTerm)

abbrev key_of : Pair TypeTerm → Name
key_of field = field.key

pub members_named : (fields : Fields) → member_names (members fields) ≡ keys fields
members_named [] = refl
members_named (field ∷ more) = ap (λ names. field.key ∷ names) (members_named more)

name_at : (fields : Fields) (k : ℕ) → slice_get (member_names (members fields)) k ≡ option_map key_of (slice_get fields k)
name_at fields k = ap (λ names. slice_get names k) (members_named fields) ∙ slice_get-map key_of fields k

pub ninth_found : (fields : Fields) (field : Pair TypeTerm) → 8 < length fields → field ≡ get_or fields 8 field
    → Some (fault_reaching causes.TooWide field.key.span.start 9) ≡ first (ninth_name_faults (slice_get (member_names (members fields)) 8))
ninth_found fields field within is =
    let e : slice_get (member_names (members fields)) 8 ≡ Some field.key = name_at fields 8 ∙ ap (option_map key_of) (slice_get_read fields (length fields) 8 field refl within is) in
    sym (ap (λ name. first (ninth_name_faults name)) e)

pub ninth_missing : (fields : Fields) → length fields ≤ 8 → None ≡ first (ninth_name_faults (slice_get (member_names (members fields)) 8))
ninth_missing fields past = sym (ap (λ name. first (ninth_name_faults name)) (name_at fields 8 ∙ ap (option_map key_of) (slice_get_past fields 8 past)))

module _ (names : List ℕ → Shape) where
  counted : (fields : Fields) → field_count (fields_meaning names (members fields)) ≡ length fields
  counted [] = refl
  counted (field ∷ more) = let e : field_count (fields_meaning names (members more)) ≡ length more = counted more in omega arith

  -- a record that is given by name
  pub named_record : (at : ℕ) (head : TypeKind) (fields given : Fields) (count : ℕ) (others : Bool) (wide other both : Option Fault) → head ≡ y.Rec fields → count ≡ length fields → given ≡ fields
      → others ≡ has_other (fields_meaning names (members given)) → wide ≡ first (wide_record_faults at count) → other ≡ first (other_faults at others) → both ≡ earlier wide other
      → both ≡ first (named_faults at (meaning names (tree head)))
  named_record at head fields given count others wide other both is all same has is_wide is_other sum =
      let k : count ≡ field_count (fields_meaning names (members fields)) = all ∙ sym (counted fields) in
      let h : others ≡ has_other (fields_meaning names (members fields)) = has ∙ ap (λ fs. has_other (fields_meaning names (members fs))) same in
      sum ∙ ap₂ earlier (is_wide ∙ ap (λ n. first (wide_record_faults at n)) k) (is_other ∙ ap (λ b. first (other_faults at b)) h)
      ∙ sym (first_append (wide_record_faults at (field_count (fields_meaning names (members fields)))) (other_faults at (has_other (fields_meaning names (members fields)))))
      ∙ ap (λ t. first (named_faults at (meaning names t))) (sym (tree_rec head fields fields is refl))
