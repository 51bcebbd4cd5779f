-- Which names of a list are told to stand for nothing.
use Rattle.std.proofs.Common.{◌≡◌, inl, inr, ℕ, List, refl, sym}
use Rattle.std.specs.List.{flat_map}
use Rattle.xdg_base.specs.Faults.{fault_at}
use Rattle.xdg_base.specs.declared.faults.Cause.{Cause}
use Rattle.xdg_base.specs.declared.faults.Cause.TheVariants as causes
use Rattle.xdg_ast.specs.declared.names.Name.{Name}
use Rattle.xdg_names.specs.Texts.{has_text}
use Rattle.xdg_types.specs.Answers.{None_of}
use Rattle.xdg_ast.specs.Misnamed.{IsUnknown}
use Rattle.xdg_types.specs.NameFaults.{unknown_as, unknown, different}
use Rattle.xdg_names.proofs.Listing.{lists_unknown}
use Rattle.xdg_types.proofs.Distinct.{same_known}
use Rattle.xdg_types.proofs.Elements.{among_or_not}
use Rattle.xdg_ast.specs.Texts.{texts}
use Rattle.xdg_facts.specs.Membership.{In}
use Rattle.xdg_facts.proofs.Parts.{Lists, lists_as, lists_each}

-- those that are looked for among texts in which the same are found
pub all_unknown : (cause : Cause) (seen known : List (List ℕ)) → ((t : List ℕ) → has_text seen t ≡ has_text known t) → (names : List Name) → Lists (flat_map (unknown_as cause seen) names) (IsUnknown cause known names)
all_unknown cause seen known same names = lists_as
    (lists_each (unknown_as cause seen) (λ name f. (In known name.text → ⊥) × (fault_at cause name.span.start ≡ f)) names (λ name _. rw (same name.text) (lists_unknown known name.text (fault_at cause name.span.start))))
    (λ f. (λ k. record { name = k.0; used = k.1.0; missing = k.1.1.0; fault = sym k.1.1.1 }, λ u. (u.name, (u.used, (u.missing, sym u.fault)))))

-- the same of names that stand for nothing, looked for among the different names that the code has found
pub unknown_names : (known names : List Name) → Lists (flat_map (unknown (different known)) names) (IsUnknown causes.UnknownName (texts known) names)
unknown_names known = all_unknown causes.UnknownName (different known) (texts known) (same_known known)

-- where none stands for nothing, each is known
pub each_known : {cause : Cause} (known : List (List ℕ)) (names : List Name) → None_of (IsUnknown cause known names) → (name : Name) → In names name → In known name.text
each_known {cause = cause} known names none name used = elim (among_or_not known name.text) [
  | inl a ↦ a
  | inr n ↦ absurd (none (fault_at cause name.span.start) (record { name = name; used = used; missing = n; fault = refl }))
]
