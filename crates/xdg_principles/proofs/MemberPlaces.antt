-- Features and attributes that are there or not.
use Rattle.std.proofs.Common.{◌≡◌, ℕ, List, length, None, Some, sym, ap, ◌∙◌, arith}
use Rattle.std.specs.Prelude.{slice_get}
use Rattle.std.proofs.lemmas.List.{length-map}
use Rattle.xdg_domain.specs.declared.types.Ty.{Ty}
use Rattle.xdg_names.proofs.Texts.{place_of-has_text, place_of-Some, None-place_of, among_has, no_text}
use Rattle.xdg_types.specs.Table.{firsts}
use Rattle.xdg_problem.specs.declared.forms.Sort.{Sort}
use Rattle.xdg_problem.specs.declared.forms.Which.{Which}
use Rattle.xdg_principles.specs.Settings.{Setting, members, member_place, member_type, at_place, type_in}
use Rattle.xdg_facts.proofs.Lists.{some_at}
use Rattle.xdg_facts.proofs.Options.{none_some}
use Rattle.xdg_facts.specs.Membership.{In}

module _ (s : Setting) (sort : Sort) (which : Which) (t : List ℕ) where
  -- the one at the place of the name has its type
  pub member_there : (k : ℕ) → member_place s sort which t ≡ Some k → (member : List ℕ × Ty) × ((slice_get (members s sort which) k ≡ Some member) × (member_type s sort which t ≡ Some member.1))
  member_there k is =
      let ms = members s sort which in
      let len : length (firsts ms) ≡ length ms = length-map ms (λ one. one.0) in
      let found = some_at ms k (omega (arith, len, (place_of-Some (firsts ms) t k is).0)) in
      (found.0, (found.1, ap (λ o. type_in (at_place ms o)) is ∙ ap type_in found.1))

  pub no_type : member_type s sort which t ≡ None → In (firsts (members s sort which)) t → ⊥
  no_type e h =
      let k = place_of-has_text (firsts (members s sort which)) t (among_has (firsts (members s sort which)) t h) in
      let m = member_there k.0 k.1 in
      none_some m.0.1 (sym e ∙ m.1.1)

  pub type_there : (In (firsts (members s sort which)) t → ⊥) → member_type s sort which t ≡ None
  type_there h = ap (λ o. type_in (at_place (members s sort which) o)) (None-place_of (firsts (members s sort which)) t (no_text (firsts (members s sort which)) t h))
