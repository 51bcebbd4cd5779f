-- The faults of the pass over kinds and sizes are those of the rules.
use Rattle.std.proofs.Common.{◌≡◌, inl, inr, ℕ, List, ◌∷◌, ◌++◌, Option, None, Some, refl, sym, ap, subst, ◌∙◌}
use Rattle.std.specs.Prelude.{slice_get}
use Rattle.xdg_base.specs.declared.faults.Cause.TheVariants as causes
use Rattle.xdg_base.specs.declared.faults.Fault.{Fault}
use Rattle.xdg_domain.specs.Shapes.{Shape}
use Rattle.xdg_names.specs.First.{Tells, first, earlier}
use Rattle.xdg_names.proofs.Listing.{lists_tell}
use Rattle.xdg_types.specs.Parts.{Statement, used_places}
use Rattle.xdg_types.specs.Kinds.{sites, IsNinthDimension, SiteOffends, KindOffends}
use Rattle.xdg_base.specs.Faults.{fault_reaching}
use Rattle.xdg_typing.specs.KindFaults.{site_faults, faults_in, ninth_use_faults, all_faults}
use Rattle.xdg_typing.proofs.KindRows.{all_site}
use Rattle.xdg_typing.proofs.Walked.{joined}
use Rattle.xdg_facts.specs.Membership.{In}
use Rattle.xdg_facts.proofs.Parts.{Lists, lists_both, lists_each}
use Rattle.xdg_facts.proofs.Fronts.{place_between, parts_between}

ninth_use : (found : Option ℕ) (f : Fault) → In (ninth_use_faults found) f → (place : ℕ) × ((found ≡ Some place) × (f ≡ fault_reaching causes.TooWide place 9))
ninth_use None f h = absurd h
ninth_use (Some place) f h = elim h [ inl e ↦ (place, (refl, sym e)) | inr k ↦ absurd k ]

module _ (names : List ℕ → Shape) (statements : List Statement) where
  ninth_sound : (f : Fault) → In (ninth_use_faults (slice_get (used_places statements) 8)) f → IsNinthDimension statements f
  ninth_sound f h =
      let r = ninth_use (slice_get (used_places statements) 8) f h in
      let p = parts_between (used_places statements) 8 r.0 r.1.0 in
      record { before = p.0; ninth = r.0; after = p.1.0; parts = p.1.1.0; eight = p.1.1.1; fault = r.1.1 }

  ninth_complete : (f : Fault) → IsNinthDimension statements f → In (ninth_use_faults (slice_get (used_places statements) 8)) f
  ninth_complete f h =
      let is : slice_get (used_places statements) 8 ≡ Some h.ninth =
      ap (λ ns. slice_get ns 8) h.parts ∙ ap (λ k. slice_get (h.before ++ h.ninth ∷ h.after) k) (sym h.eight) ∙ place_between h.before h.ninth h.after in
      subst (λ o. In (ninth_use_faults o) f) (sym is) (inl (sym h.fault))

  all_kinds : Lists (all_faults names statements) (KindOffends names statements)
  all_kinds = lists_both (record { sound = ninth_sound; complete = ninth_complete }) (lists_each (site_faults names) (SiteOffends names) (sites statements) (λ site stands. all_site names site))

  -- what the pass answers
  pub both_tell : (uses in_types found : Option Fault) → uses ≡ first (ninth_use_faults (slice_get (used_places statements) 8)) → in_types ≡ first (faults_in names (sites statements))
      → found ≡ earlier uses in_types → Tells (KindOffends names statements) found
  both_tell uses in_types found is_uses is_types sum =
      subst (Tells (KindOffends names statements)) (sym (joined (ninth_use_faults (slice_get (used_places statements) 8)) (faults_in names (sites statements)) uses in_types found is_uses is_types sum)) (lists_tell (all_faults names statements) all_kinds)
