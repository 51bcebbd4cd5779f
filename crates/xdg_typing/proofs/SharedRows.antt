-- Constants that two fields of a tuple type have are found as the rule says.
use Rattle.std.proofs.Common.{◌≡◌, inl, inr, ℕ, List, [], ◌++◌, refl, sym, subst, append_assoc}
use Rattle.std.proofs.lemmas.List.{append-nil}
use Rattle.xdg_base.specs.Faults.{fault_at}
use Rattle.xdg_base.specs.declared.faults.Cause.TheVariants as causes
use Rattle.xdg_base.specs.declared.faults.Fault.{Fault}
use Rattle.xdg_domain.specs.Shapes.{Shape, constants, constants_of, in_a_row}
use Rattle.xdg_types.specs.Written.{Tree, listed, tupled, named, Trees, no_tree, tree_then}
use Rattle.xdg_types.specs.Meaning.{meaning, domains_meaning, as_domain}
use Rattle.xdg_types.specs.Kinds.{Site, Split, SharesAt, SharesConstant}
use Rattle.xdg_typing.specs.KindFaults.{add_texts, has_one, field_faults, shared_in, shared_faults}
use Rattle.xdg_typing.proofs.KindAmong.{Alike, alike_none, alike_more, has_one_in, in_has_one}
use Rattle.xdg_names.proofs.Listing.{lists_known}
use Rattle.xdg_facts.specs.Membership.{In}
use Rattle.xdg_facts.proofs.In.{in_append, in_left, in_right}
use Rattle.xdg_types.specs.NameFaults.{repeated}
use Rattle.xdg_facts.proofs.Parts.{Lists, lists_none, lists_as, lists_each, lists_when}

module _ (names : List ℕ → Shape) where
  all_field : (seen earlier : List (List ℕ)) → Alike seen earlier → (at : ℕ) (t : Tree) → Lists (field_faults names seen at t) (SharesAt names earlier at t)
  all_field seen earlier alike at (listed cs) =
      lists_as (lists_each (repeated seen) (λ c f. In seen c.text × (fault_at causes.Twice c.span.start ≡ f)) cs (λ c among. lists_known seen c.text (fault_at causes.Twice c.span.start)))
      (λ f. (λ k. (k.0, (k.1.0, (alike.to k.0.text k.1.1.0, sym k.1.1.1))), λ h. (h.0, (h.1.0, (alike.from h.0.text h.1.1.0, sym h.1.1.1)))))
  all_field seen earlier alike at (named name) =
      let cs = constants (as_domain (names name.text)) in
      lists_as (lists_when (has_one seen cs) (fault_at causes.Twice at)) (λ f. (
        λ k. (let r = has_one_in seen cs k.0 in (r.0, (r.1.0, (alike.to r.0 r.1.1, sym k.1)))),
        λ h. (in_has_one seen cs h.0 h.1.0 (alike.from h.0 h.1.1.0), sym h.1.1.1),
      ))
  all_field seen earlier alike at t = lists_none

  -- the constants of these fields
  abbrev row : Trees → List (List ℕ)
  row ts = in_a_row (constants_of (domains_meaning names ts))

  pub record Shared (earlier : List (List ℕ)) (ts : Trees) (f : Fault) : Type 0 where
    pub before : Trees
    pub at : ℕ
    pub field : Tree
    pub after : Trees
    pub parts : Split before ts at field after
    pub shares : SharesAt names (earlier ++ row before) at field f

  shared_sound : (ts : Trees) (seen earlier : List (List ℕ)) → Alike seen earlier → (f : Fault) → In (shared_in names seen ts) f → Shared earlier ts f
  shared_sound no_tree seen earlier alike f h = absurd h
  shared_sound (tree_then at t ts) seen earlier alike f h =
      let cs = constants (as_domain (meaning names t)) in
      elim (in_append (field_faults names seen at t) (shared_in names (add_texts seen cs) ts) f h) [
        | inl here ↦ record {
          before = no_tree;
          at = at;
          field = t;
          after = ts;
          parts = refl;
          shares = subst (λ es. SharesAt names es at t f) (sym (append-nil earlier)) ((all_field seen earlier alike at t).sound f here);
        }
        | inr later ↦ (let r = shared_sound ts (add_texts seen cs) (earlier ++ cs) (alike_more seen earlier cs alike) f later in record {
          before = tree_then at t r.before;
          at = r.at;
          field = r.field;
          after = r.after;
          parts = (ts, (refl, r.parts));
          shares = subst (λ es. SharesAt names es r.at r.field f) (append_assoc earlier cs (row r.before)) r.shares;
        })
      ]

  shared_complete : (before ts : Trees) (at : ℕ) (field : Tree) (after : Trees) (seen earlier : List (List ℕ)) → Alike seen earlier → (f : Fault)
      → Split before ts at field after → SharesAt names (earlier ++ row before) at field f → In (shared_in names seen ts) f
  shared_complete no_tree ts at field after seen earlier alike f is shares = subst (λ us. In (shared_in names seen us) f) (sym is)
      (in_left (field_faults names seen at field) (shared_in names (add_texts seen (constants (as_domain (meaning names field)))) after) f
      ((all_field seen earlier alike at field).complete f (subst (λ es. SharesAt names es at field f) (append-nil earlier) shares)))
  shared_complete (tree_then here s before) ts at field after seen earlier alike f is shares =
      let cs = constants (as_domain (meaning names s)) in
      subst (λ us. In (shared_in names seen us) f) (sym is.1.0)
      (in_right (field_faults names seen here s) (shared_in names (add_texts seen cs) is.0) f
      (shared_complete before is.0 at field after (add_texts seen cs) (earlier ++ cs) (alike_more seen earlier cs alike) f is.1.1
      (subst (λ es. SharesAt names es at field f) (sym (append_assoc earlier cs (row before))) shares)))

  pub shares_sound : (site : Site) (t : Tree) (f : Fault) → site.written ≡ t → In (shared_faults names t) f → SharesConstant names site f
  shares_sound site (tupled ts) f is h =
      let r = shared_sound ts [] [] alike_none f h in
      record { members = ts; is = is; before = r.before; at = r.at; field = r.field; after = r.after; parts = r.parts; shares = r.shares }
  shares_sound site t f is h = absurd h

  pub shares_complete : (site : Site) (f : Fault) → SharesConstant names site f → In (shared_faults names site.written) f
  shares_complete site f h = subst (λ t. In (shared_faults names t) f) (sym h.is)
      (shared_complete h.before h.members h.at h.field h.after [] [] alike_none f h.parts h.shares)
