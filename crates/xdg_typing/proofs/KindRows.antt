-- The faults of one type are those of the rules.
use Rattle.std.proofs.Common.{◌≡◌, ◌⊎◌, inl, inr, ℕ, ◌<◌, ◌-◌, ◌^◌, List, ◌++◌, length, refl, sym, subst, append_assoc}
use Rattle.std.specs.Prelude.{min, not, ◌&&◌}
use Rattle.xdg_base.specs.Faults.{fault_at, fault_reaching}
use Rattle.xdg_base.specs.declared.faults.Cause.TheVariants as causes
use Rattle.xdg_base.specs.declared.faults.Fault.{Fault}
use Rattle.xdg_domain.specs.Shapes.{Shape, constants, sizes, product}
use Rattle.xdg_types.specs.Written.{Tree, listed, tupled, Trees}
use Rattle.xdg_types.specs.Meaning.{meaning, domains_meaning, as_domain}
use Rattle.xdg_types.specs.Kinds.{Wanted, the_labels, Site, is_of_kind, has_no_field, IsWrongKind, IsTooBig, HasManyLabels, HasManyTuples, SharesConstant, HasWrongAttributes, SiteOffends}
use Rattle.xdg_typing.specs.KindFaults.{kind_faults, big_faults, label_faults, wide_faults, attributes_faults, shared_faults, site_faults}
use Rattle.xdg_facts.proofs.Parts.{Lists, lists_as, lists_both, lists_unless}
use Rattle.xdg_typing.proofs.RecordRows.{above_limit, all_attributes}
use Rattle.xdg_typing.proofs.SharedRows.{shares_sound, shares_complete}
use Rattle.xdg_facts.specs.Membership.{In}
use Rattle.xdg_facts.proofs.Truths.{either_off, off_either}

module _ (names : List ℕ → Shape) (site : Site) where
  abbrev count : ℕ
  count = length (constants (as_domain (meaning names site.written)))

  all_wrong : Lists (kind_faults names site.wanted site.at site.written) (IsWrongKind names site)
  all_wrong =
      let right = is_of_kind site.wanted (meaning names site.written) in
      let fieldless = has_no_field site.written in
      lists_as (lists_unless (right && not fieldless) (fault_at causes.WrongKind site.at))
      (λ f. (λ r. record { kind = either_off right fieldless r.0; fault = sym r.1 }, λ h. (off_either right fieldless h.kind, sym h.fault)))

  big_sound : (t : Tree) → site.written ≡ t → (f : Fault) → In (big_faults site.at t) f → IsTooBig site f
  big_sound (listed cs) is f h = let r = (above_limit 64 (length cs) (fault_reaching causes.DomainTooBig site.at (length cs))).sound f h in record { constants = cs; is = is; many = r.0; fault = r.1 }
  big_sound t is f h = absurd h

  all_big : Lists (big_faults site.at site.written) (IsTooBig site)
  all_big = record {
    sound = big_sound site.written refl;
    complete = λ f h. subst (λ t. In (big_faults site.at t) f) (sym h.is) ((above_limit 64 (length h.constants) (fault_reaching causes.DomainTooBig site.at (length h.constants))).complete f (h.many, h.fault));
  }

  labels_sound : (wanted : Wanted) → site.wanted ≡ wanted → (f : Fault) → In (label_faults wanted site.at count) f → HasManyLabels names site f
  labels_sound the_labels is f h = let r = (above_limit 32 count (fault_reaching causes.TooWide site.at count)).sound f h in record { wanted = is; many = r.0; fault = r.1 }
  labels_sound wanted is f h = absurd h

  all_labels : Lists (label_faults site.wanted site.at count) (HasManyLabels names site)
  all_labels = record {
    sound = labels_sound site.wanted refl;
    complete = λ f h. subst (λ w. In (label_faults w site.at count) f) (sym h.wanted) ((above_limit 32 count (fault_reaching causes.TooWide site.at count)).complete f (h.many, h.fault));
  }

  -- of so many tuples
  too_wide : (ts : Trees)
      → Lists (wide_faults names site.at (tupled ts)) (λ f. (1024 < product (sizes (domains_meaning names ts))) × (f ≡ fault_reaching causes.TooWide site.at (min (product (sizes (domains_meaning names ts))) (2 ^ 64 - 1))))
  too_wide ts = let n = product (sizes (domains_meaning names ts)) in above_limit 1024 n (fault_reaching causes.TooWide site.at (min n (2 ^ 64 - 1)))

  wide_sound : (t : Tree) → site.written ≡ t → (f : Fault) → In (wide_faults names site.at t) f → HasManyTuples names site f
  wide_sound (tupled ts) is f h = let r = (too_wide ts).sound f h in record { members = ts; is = is; many = r.0; fault = r.1 }
  wide_sound t is f h = absurd h

  all_wide : Lists (wide_faults names site.at site.written) (HasManyTuples names site)
  all_wide = record {
    sound = wide_sound site.written refl;
    complete = λ f h. subst (λ t. In (wide_faults names site.at t) f) (sym h.is) ((too_wide h.members).complete f (h.many, h.fault));
  }

  all_shared : Lists (shared_faults names site.written) (SharesConstant names site)
  all_shared = record { sound = λ f h. shares_sound names site site.written f refl h; complete = shares_complete names site }

  -- what is shared is looked for last, and told before what is wrong with attributes
  all_last : Lists (attributes_faults names site.wanted site.at site.written ++ shared_faults names site.written) (λ f. SharesConstant names site f ⊎ HasWrongAttributes names site f)
  all_last = lists_as (lists_both (all_attributes names site) all_shared) (λ f. (λ h. elim h [ inl a ↦ inr a | inr s ↦ inl s ], λ h. elim h [ inl s ↦ inr s | inr a ↦ inl a ]))

  pub all_site : Lists (site_faults names site) (SiteOffends names site)
  all_site =
      let t = site.written in
      let same : site_faults names site ≡ kind_faults names site.wanted site.at t ++ (big_faults site.at t ++ (label_faults site.wanted site.at count
      ++ (wide_faults names site.at t ++ (attributes_faults names site.wanted site.at t ++ shared_faults names t)))) = simp append_assoc in
      rw same (lists_both all_wrong (lists_both all_big (lists_both all_labels (lists_both all_wide all_last))))
