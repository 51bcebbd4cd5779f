-- What is kept of records: what is found there are the features of an entry, and more can be kept.
use Rattle.std.proofs.Common.{◌≡◌, ℕ, Bool, true, false, cond, List, [], ◌∷◌, refl, sym, ap, ◌∙◌, subst, nat_eq, Some, if◌then◌else◌}
use Rattle.std.proofs.lemmas.Bool.{eqb-true}
use Rattle.std.specs.Map.{lookup}
use Rattle.indexmap.specs.IndexMap.{insert_entry}
use Rattle.xdg_packed.specs.Lexicon.{Entry}
use Rattle.xdg_problem.specs.declared.parts.Feat.{Feat}
use Rattle.xdg_build.specs.Rows.{record_of, features_in_record, AreKept}
use Rattle.xdg_facts.proofs.Options.{none_some, some_same}

module _ (entries : List Entry) (dim : ℕ) (places : List ℕ) where
  -- the features of the record of the entry with that number
  abbrev of_entry : ℕ → List Feat
  of_entry number = features_in_record places (record_of entries dim number)

  -- what is kept under a number are the features of the entry with that number
  found : (kept : List (ℕ × List Feat)) (number : ℕ) (features : List Feat) → AreKept entries dim places kept → lookup (nat_eq number) kept ≡ Some features → features ≡ of_entry number
  found [] number features are e = absurd (none_some features e)
  found (one ∷ more) number features are e = by (nat_eq number one.0) refl e (found more number features are.1)
    where
      by : (b : Bool) → nat_eq number one.0 ≡ b → cond b (Some one.1) (lookup (nat_eq number) more) ≡ Some features → (lookup (nat_eq number) more ≡ Some features → features ≡ of_entry number) → features ≡ of_entry number
      by true same e later = sym (some_same one.1 features e) ∙ are.0 ∙ ap of_entry (sym (eqb-true number one.0 same))
      by false other e later = later e

  -- and so of each entry with that record
  pub found_alike : (kept : List (ℕ × List Feat)) (first number : ℕ) (features : List Feat) → AreKept entries dim places kept → Some features ≡ lookup (nat_eq first) kept
      → record_of entries dim first ≡ record_of entries dim number → features ≡ of_entry number
  found_alike kept first number features are e alike = found kept first features are (sym e) ∙ ap (features_in_record places) alike

  kept_more : (kept : List (ℕ × List Feat)) (number : ℕ) (features : List Feat) → AreKept entries dim places kept → features ≡ of_entry number → AreKept entries dim places (insert_entry nat_eq kept number features)
  kept_more [] number features are is = (is, tt)
  kept_more (one ∷ more) number features are is = by (nat_eq number one.0) refl (kept_more more number features are.1 is)
    where
      by : (b : Bool) → nat_eq number one.0 ≡ b → AreKept entries dim places (insert_entry nat_eq more number features) → AreKept entries dim places (if b then (one.0, features) ∷ more else one ∷ insert_entry nat_eq more number features)
      by true same later = (is ∙ ap of_entry (eqb-true number one.0 same), are.1)
      by false other later = (are.0, later)

  -- the features of an entry may be kept under the number of each entry with that record
  pub kept_alike : (kept new : List (ℕ × List Feat)) (first number : ℕ) (features : List Feat) → AreKept entries dim places kept → new ≡ insert_entry nat_eq kept first features
      → record_of entries dim first ≡ record_of entries dim number → features ≡ of_entry number → AreKept entries dim places new
  kept_alike kept new first number features are e alike is =
      subst (AreKept entries dim places) (sym e) (kept_more kept first features are (is ∙ ap (features_in_record places) (sym alike)))
