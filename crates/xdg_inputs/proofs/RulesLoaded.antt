-- The rules of a file: accepted or rejected.
use Rattle.std.proofs.Common.{◌≡◌, ℕ, ◌+◌, ◌<◌, ◌≤◌, List, length, Some, Ok, Err, refl, sym, ap, subst, arith}
use Rattle.std.specs.Prelude.{Option, Result}
use Rattle.xdg_base.specs.declared.faults.Cause.TheVariants as causes
use Rattle.xdg_base.specs.declared.faults.Fault.{Fault}
use Rattle.xdg_base.specs.declared.faults.Stop.{Stop}
use Rattle.xdg_base.specs.declared.faults.Stop.TheVariants as stops
use Rattle.xdg_base.specs.Told.{Gives}
use Rattle.xdg_formula.specs.declared.tree.Rules.{Rules}
use Rattle.xdg_io.specs.Files as told_files
use Rattle.xdg_inputs.specs.Refusals.{RejectsAt, Stops, refusal_of}
use Rattle.xdg_inputs.specs.Stages.{Accepts}
use Rattle.xdg_inputs.specs.declared.refusals.Refusal.{Refusal}
use Rattle.xdg_inputs.proofs.Settling.{Judges, settled}
use Rattle.xdg_inputs.proofs.Trees.{first_byte, told_file}
use Rattle.xdg_inputs.specs.Files.{HasBadFile, HasFile, IsBadRules, too_long, wrong, rules_limit}
use Rattle.xdg_inputs.specs.RulesTexts.{IsAnswer, Says, Tells}
use Rattle.xdg_types.specs.Table.{Table}
use Rattle.xdg_base.specs.Faults.{fault_reaching}
use Rattle.xdg_facts.proofs.Options.{one_value}

module _ (table : Table) where
  abbrev Only : List ℕ → Result Rules Stop → Type 0
  Only text result = (answer : Result Rules Fault) → IsAnswer table text answer → Gives answer result

  module _ (files : List ℕ → Option (List ℕ)) (name text : List ℕ) (file : files name ≡ Some text) where
    abbrev Verdict : Result Rules Fault → Type 0
    Verdict (Ok rules) = (length text ≤ rules_limit) × Says table text rules
    Verdict (Err f) = IsBadRules table text f

    judges : Judges Rules (HasBadFile files name table) (HasFile files name table) text Verdict
    judges = record {
      has = λ rules v. record { text = text; file = file; within = v.0; says = v.1 };
      had = λ rules h. subst (λ z. (length z ≤ rules_limit) × Says table z rules) (one_value (files name) h.text text h.file file) (h.within, h.says);
      refuses = λ f v. record { file = file; because = v };
      refused = λ t f q. let e = one_value (files name) t text q.file file in (e, subst (λ z. IsBadRules table z f) e q.because);
    }

    one_within : (verdict : Result Rules Fault) → length text ≤ rules_limit → ((answer : Result Rules Fault) → IsAnswer table text answer → answer ≡ verdict) → (x : Result Rules Fault) → Verdict x → x ≡ verdict
    one_within verdict within only (Ok rules) v = only (Ok rules) v.1
    one_within verdict within only (Err f) (too_long long e) = absurd (omega (arith, within, long))
    one_within verdict within only (Err f) (wrong small u) = only (Err f) u

    one_long : rules_limit < length text → (x : Result Rules Fault) → Verdict x → x ≡ Err (fault_reaching causes.TooLong 0 (rules_limit + 1))
    one_long long (Ok rules) v = absurd (let within = v.0 in omega (arith, long, within))
    one_long long (Err f) (too_long more e) = ap Err e
    one_long long (Err f) (wrong small u) = absurd (omega (arith, long, small))

    pub long_rejected : rules_limit < length text → RejectsAt Rules (HasBadFile files name table) (HasFile files name table) (fault_reaching causes.TooLong 0 (rules_limit + 1)) (record { line = 1; column = 1 })
    long_rejected long = record {
      text = text;
      rejects = settled judges (Err (fault_reaching causes.TooLong 0 (rules_limit + 1))) (too_long long refl) (one_long long);
      place_is = first_byte text (fault_reaching causes.TooLong 0 (rules_limit + 1)) refl;
    }

  -- ---- what a shelf gives

  pub loaded_accepted : (told : Option (List ℕ → Option (List ℕ))) (files : List ℕ → Option (List ℕ)) (name text read : List ℕ) (rules : Rules) → told ≡ Some files → told_files.HasFile told name text → length text ≤ rules_limit → read ≡ text
      → Tells table read (Ok rules) → Only read (Ok rules) → Accepts Rules (HasBadFile files name table) (HasFile files name table) rules
  loaded_accepted told files name text read rules t has within e says only =
      let file = told_file told files name text t has in
      settled (judges files name text file) (Ok rules) (within, subst (λ z. Says table z rules) e says) (one_within files name text file (Ok rules) within (subst (λ z. Only z (Ok rules)) e only))

  read_stops : (told : Option (List ℕ → Option (List ℕ))) (files : List ℕ → Option (List ℕ)) (name text : List ℕ) (old new : ℕ) (stop : Stop) → told_files.HasFile told name text → length text ≤ rules_limit → Tells table text (Err stop) → Only text (Err stop)
      → Stops (told ≡ Some files) old new Rules (HasBadFile files name table) (HasFile files name table) (refusal_of text stop)
  read_stops told files name text old new (stops.Fault f) has within tells only = λ t.
      let file = told_file told files name text t has in
      record { text = text; rejects = settled (judges files name text file) (Err f) (wrong within tells) (one_within files name text file (Err f) within only); place_is = refl }
  read_stops told files name text old new stops.OutOfMemory has within tells only = tt

  pub loaded_stops : (told : Option (List ℕ → Option (List ℕ))) (files : List ℕ → Option (List ℕ)) (name text read : List ℕ) (old new : ℕ) (stop : Stop) (refusal : Refusal) → told_files.HasFile told name text → length text ≤ rules_limit → read ≡ text
      → Tells table read (Err stop) → Only read (Err stop) → refusal ≡ refusal_of text stop → Stops (told ≡ Some files) old new Rules (HasBadFile files name table) (HasFile files name table) refusal
  loaded_stops told files name text read old new stop refusal has within e tells only r =
      subst (Stops (told ≡ Some files) old new Rules (HasBadFile files name table) (HasFile files name table)) (sym r)
      (read_stops told files name text old new stop has within (subst (λ z. Tells table z (Err stop)) e tells) (subst (λ z. Only z (Err stop)) e only))
