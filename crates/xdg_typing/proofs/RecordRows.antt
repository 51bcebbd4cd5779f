-- What is wrong with a record of attributes is found as the rule says.
use Rattle.std.proofs.Common.{◌≡◌, ◌<◌, inl, inr, ℕ, ltb, true, List, [], ◌∷◌, ◌++◌, Option, None, Some, refl, sym, ap, subst, ◌∙◌}
use Rattle.std.specs.Prelude.{slice_get, not, if◌then◌else◌}
use Rattle.std.proofs.lemmas.Bool.{or_cases, or_left, or_right, lt-ltb, ltb-true, true≢false}
use Rattle.xdg_base.specs.Faults.{fault_at, fault_reaching}
use Rattle.xdg_base.specs.declared.faults.Cause.TheVariants as causes
use Rattle.xdg_base.specs.declared.faults.Fault.{Fault}
use Rattle.xdg_ast.specs.declared.names.Name.{Name}
use Rattle.xdg_domain.specs.Shapes.{Shape, fields, Fields, no_field, field_then}
use Rattle.xdg_facts.proofs.Parts.{Lists, lists_none, lists_as, lists_both, lists_when}
use Rattle.xdg_types.specs.Written.{Tree, recorded, named, member_names}
use Rattle.xdg_types.specs.Meaning.{as_domain}
use Rattle.xdg_types.specs.Kinds.{Wanted, the_attributes, Site, is_attribute, field_count, HasOther, NamedOffends, AttributesOffend, HasWrongAttributes}
use Rattle.xdg_typing.specs.KindFaults.{ninth_name_faults, has_other, named_faults, record_faults, attributes_faults}
use Rattle.xdg_facts.proofs.Truths.{from_not}
use Rattle.xdg_facts.specs.Membership.{In}
use Rattle.xdg_facts.proofs.Fronts.{place_between, parts_between}

-- a fault where a limit is passed
pub above_limit : (limit count : ℕ) (fault : Fault) → Lists (if ltb limit count then fault ∷ [] else []) (λ f. (limit < count) × (f ≡ fault))
above_limit limit count fault = lists_as (lists_when (ltb limit count) fault) (λ f. (λ h. (ltb-true limit count h.0, sym h.1), λ h. (lt-ltb limit count h.0, sym h.1)))

module _ (names : List ℕ → Shape) where
  other_sound : (fs : Fields) → has_other fs ≡ true → HasOther fs
  other_sound no_field h = absurd (true≢false (sym h))
  other_sound (field_then name u fs) h = elim (or_cases (not (is_attribute (as_domain u))) (has_other fs) h) [ inl e ↦ inl (from_not (is_attribute (as_domain u)) e) | inr k ↦ inr (other_sound fs k) ]

  other_complete : (fs : Fields) → HasOther fs → has_other fs ≡ true
  other_complete no_field h = absurd h
  other_complete (field_then name u fs) h = elim h [
    | inl e ↦ or_left (not (is_attribute (as_domain u))) (has_other fs) (ap not e)
    | inr k ↦ or_right (not (is_attribute (as_domain u))) (has_other fs) (other_complete fs k)
  ]

  all_named : (at : ℕ) (s : Shape) → Lists (named_faults at s) (NamedOffends at s)
  all_named at (fields fs) =
      lists_both (above_limit 8 (field_count fs) (fault_reaching causes.TooWide at 9))
      (lists_as (lists_when (has_other fs) (fault_at causes.WrongKind at)) (λ f. (λ k. (other_sound fs k.0, sym k.1), λ k. (other_complete fs k.0, sym k.1))))
  all_named at s = lists_none

  ninth_name : (found : Option Name) (f : Fault) → In (ninth_name_faults found) f → (name : Name) × ((found ≡ Some name) × (f ≡ fault_reaching causes.TooWide name.span.start 9))
  ninth_name None f h = absurd h
  ninth_name (Some name) f h = elim h [ inl e ↦ (name, (refl, sym e)) | inr k ↦ absurd k ]

  all_record : (at : ℕ) (t : Tree) → Lists (record_faults names at t) (AttributesOffend names at t)
  all_record at (recorded ms) = record {
    sound = λ f h.
        let r = ninth_name (slice_get (member_names ms) 8) f h in
        let p = parts_between (member_names ms) 8 r.0 r.1.0 in
        (p.0, (r.0, (p.1.0, (p.1.1.0, (p.1.1.1, r.1.1)))));
    complete = λ f h.
        let is : slice_get (member_names ms) 8 ≡ Some h.1.0 =
        ap (λ ns. slice_get ns 8) h.1.1.1.0 ∙ ap (λ k. slice_get (h.0 ++ h.1.0 ∷ h.1.1.0) k) (sym h.1.1.1.1.0) ∙ place_between h.0 h.1.0 h.1.1.0 in
        subst (λ o. In (ninth_name_faults o) f) (sym is) (inl (sym h.1.1.1.1.1));
  }
  all_record at (named name) = all_named at (names name.text)
  all_record at t = lists_none

  attributes_sound : (wanted : Wanted) (at : ℕ) (t : Tree) (f : Fault) → In (attributes_faults names wanted at t) f → (wanted ≡ the_attributes) × AttributesOffend names at t f
  attributes_sound the_attributes at t f h = (refl, (all_record at t).sound f h)
  attributes_sound wanted at t f h = absurd h

  pub all_attributes : (site : Site) → Lists (attributes_faults names site.wanted site.at site.written) (HasWrongAttributes names site)
  all_attributes site = record {
    sound = λ f h. (let r = attributes_sound site.wanted site.at site.written f h in record { wanted = r.0; offends = r.1 });
    complete = λ f h. subst (λ w. In (attributes_faults names w site.at site.written) f) (sym h.wanted) ((all_record site.at site.written).complete f h.offends);
  }
