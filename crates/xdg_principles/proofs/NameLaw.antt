-- The offences of names that the pass lists are those of the rules.
use Rattle.std.proofs.Common.{◌≡◌, inl, inr, ◌⊎◌, ℕ, true, List, [], ◌++◌, None, Some, refl, sym, ap, ◌∙◌}
use Rattle.std.specs.List.{flat_map}
use Rattle.std.proofs.lemmas.List.{append-nil}
use Rattle.xdg_base.specs.Faults.{fault_at}
use Rattle.xdg_base.specs.declared.faults.Cause.TheVariants as causes
use Rattle.xdg_base.specs.declared.faults.Fault.{Fault}
use Rattle.xdg_ast.specs.declared.names.Name.{Name}
use Rattle.xdg_names.specs.First.{Tells, first}
use Rattle.xdg_names.specs.Texts.{has_text}
use Rattle.xdg_types.specs.NameFaults.{unknown, repeats, different}
use Rattle.xdg_ast.specs.Misnamed.{IsUnknown, IsTwice}
use Rattle.xdg_types.specs.Parts.{Statement, dim_names, used_names, keys}
use Rattle.xdg_names.proofs.Listing.{lists_tell, lists_unknown}
use Rattle.xdg_types.proofs.Listings.{joined_each, nested, regrouped}
use Rattle.xdg_types.proofs.Distinct.{same_known}
use Rattle.xdg_names.proofs.Texts.{has_among, among_has}
use Rattle.xdg_types.proofs.NamesAgain.{all_twice}
use Rattle.xdg_types.proofs.NamesKnown.{all_unknown, unknown_names}
use Rattle.xdg_principles.specs.Names.{IsUnusedDimension, IsUnknownPrinciple, IsUnknownKey, IsMissing, IsLeftOut, PrincipleNameOffends, once, given_dims, dim_keys, arg_keys, required_keys}
use Rattle.xdg_principles.specs.NameFaults.{lacking, key_faults, left_out, principle_faults, again, unused, name_faults}
use Rattle.xdg_problem.specs.declared.forms.Form.{Form}
use Rattle.xdg_problem.specs.declared.parts.Principle.{Principle}
use Rattle.xdg_problem.specs.Forms.{form_of}
use Rattle.xdg_problem.specs.Names.{named}
use Rattle.xdg_principles.specs.Uses.{Use, principle_uses, values}
use Rattle.xdg_facts.specs.Membership.{In}
use Rattle.xdg_ast.specs.Texts.{texts}
use Rattle.xdg_facts.proofs.Parts.{Lists, lists_as, lists_both, lists_each, lists_one, lists_option, lists_if}

-- ---- the keys of a principle

all_keys : (form : Form) (one : Use) → Lists (key_faults form one) (λ f. IsUnknown causes.WrongParams (dim_keys form) (keys one.dims) f ⊎ IsUnknown causes.WrongParams (arg_keys form) (keys one.args) f)
all_keys form one =
    lists_both (all_unknown causes.WrongParams (dim_keys form) (dim_keys form) (λ t. refl) (keys one.dims)) (all_unknown causes.WrongParams (arg_keys form) (arg_keys form) (λ t. refl) (keys one.args))

all_missing : (at : ℕ) (names : List Name) (wanted : List (List ℕ)) → Lists (flat_map (lacking at names) wanted) (IsMissing wanted names at)
all_missing at names wanted =
    lists_as
    (lists_each (lacking at names) (λ key f. (In (texts names) key → ⊥) × (fault_at causes.MissingArg at ≡ f)) wanted (λ key asked. lists_unknown (texts names) key (fault_at causes.MissingArg at)))
    (λ f. (λ k. record { key = k.0; asked = k.1.0; missing = k.1.1.0; fault = sym k.1.1.1 }, λ m. (m.key, (m.asked, (m.missing, sym m.fault)))))

all_left_out : (form : Form) (one : Use) → Lists (left_out form one) (λ f. IsMissing (dim_keys form) (keys one.dims) one.name.span.start f ⊎ IsMissing (required_keys form) (keys one.args) one.name.span.start f)
all_left_out form one = lists_both (all_missing one.name.span.start (keys one.dims) (dim_keys form)) (all_missing one.name.span.start (keys one.args) (required_keys form))

-- ---- all uses

module _ (statements : List Statement) where
  abbrev uses : List Use
  uses = principle_uses statements

  abbrev defined : List (List ℕ)
  defined = different (dim_names statements)

  abbrev used : List (List ℕ)
  used = different (used_names statements)

  all_again : Lists (flat_map again uses) (IsTwice (flat_map once uses))
  all_again =
      nested (repeats []) once again (λ one. ap (λ fs. repeats [] (keys one.dims) ++ fs) (sym (append-nil (repeats [] (keys one.args))))) uses (all_twice (flat_map once uses))

  all_unknown_dims : Lists (flat_map (λ one. flat_map (unknown defined) (values one.dims)) uses) (IsUnknown causes.UnknownName (texts (dim_names statements)) (given_dims statements))
  all_unknown_dims =
      nested (unknown defined) (λ one. values one.dims) (λ one. flat_map (unknown defined) (values one.dims)) (λ one. refl) uses (unknown_names (dim_names statements) (given_dims statements))

  all_unused : Lists (flat_map (unused used) uses) (IsUnusedDimension statements)
  all_unused =
      lists_as
      (lists_each (unused used) (λ one f. (has_text used one.within.text ≡ true) × IsUnknown causes.UnknownName (texts (used_names statements)) (values one.dims) f) uses
      (λ one stands. lists_if (has_text used one.within.text) (unknown_names (used_names statements) (values one.dims))))
      (λ f. (
        λ k. record {
          one = k.0;
          stands = k.1.0;
          used = has_among (texts (used_names statements)) k.0.within.text (sym (same_known (used_names statements) k.0.within.text) ∙ k.1.1.0);
          unknown = k.1.1.1;
        },
        λ u. (u.one, (u.stands, (same_known (used_names statements) u.one.within.text ∙ among_has (texts (used_names statements)) u.one.within.text u.used, u.unknown))),
      ))

  -- where this is the principle that the use names
  abbrev by_name : Use → List Fault
  by_name one = principle_faults one (named one.name.text)

  -- what is wrong with the keys of a use of that principle
  abbrev OfKeys : Use → Principle → Fault → Type 0
  OfKeys one principle f =
      (IsUnknown causes.WrongParams (dim_keys (form_of principle)) (keys one.dims) f ⊎ IsUnknown causes.WrongParams (arg_keys (form_of principle)) (keys one.args) f)
      ⊎ (IsMissing (dim_keys (form_of principle)) (keys one.dims) one.name.span.start f ⊎ IsMissing (required_keys (form_of principle)) (keys one.args) one.name.span.start f)

  abbrev ByName : Use → Fault → Type 0
  ByName one f = ((named one.name.text ≡ None) × (fault_at causes.UnknownPrinciple one.name.span.start ≡ f)) ⊎ ((principle : Principle) × ((named one.name.text ≡ Some principle) × OfKeys one principle f))

  all_by_name : Lists (flat_map by_name uses) (λ f. IsUnknownPrinciple statements f ⊎ (IsUnknownKey statements f ⊎ IsLeftOut statements f))
  all_by_name =
      lists_as
      (lists_each by_name ByName uses (λ one stands. lists_option (principle_faults one) (λ f. fault_at causes.UnknownPrinciple one.name.span.start ≡ f) (OfKeys one) (lists_one (fault_at causes.UnknownPrinciple one.name.span.start))
      (λ principle. lists_both (all_keys (form_of principle) one) (all_left_out (form_of principle) one)) (named one.name.text)))
      (λ f. (
        λ k. elim k.1.1 [
          | inl n ↦ inl (record { one = k.0; stands = k.1.0; missing = n.0; fault = sym n.1 })
          | inr p ↦ elim p.1.1 [
            | inl u ↦ inr (inl (record { one = k.0; stands = k.1.0; principle = p.0; known = p.1.0; unknown = u }))
            | inr l ↦ inr (inr (record { one = k.0; stands = k.1.0; principle = p.0; known = p.1.0; missing = l }))
          ]
        ],
        λ h. elim h [
          | inl n ↦ (n.one, (n.stands, inl (n.missing, sym n.fault)))
          | inr (inl u) ↦ (u.one, (u.stands, inr (u.principle, (u.known, inl u.unknown))))
          | inr (inr l) ↦ (l.one, (l.stands, inr (l.principle, (l.known, inr l.missing))))
        ],
      ))

  pub all_names : Lists (name_faults statements) (PrincipleNameOffends statements)
  all_names =
      joined_each again (λ one. (flat_map (unknown defined) (values one.dims) ++ unused used one) ++ by_name one) uses all_again
      (regrouped (joined_each (λ one. flat_map (unknown defined) (values one.dims) ++ unused used one) by_name uses
      (joined_each (λ one. flat_map (unknown defined) (values one.dims)) (unused used) uses all_unknown_dims all_unused)
      all_by_name))

  -- the first of the list is the first offence
  pub names_tell : Tells (PrincipleNameOffends statements) (first (name_faults statements))
  names_tell = lists_tell (name_faults statements) all_names
