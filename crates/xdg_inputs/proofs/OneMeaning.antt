-- What a tree means is one thing.
use Rattle.std.proofs.Common.{◌≡◌, List, map, Ok, Err, refl, sym, ap, ap₂, ◌∙◌, subst}
use Rattle.std.specs.Prelude.{Result}
use Rattle.xdg_base.specs.declared.faults.Fault.{Fault}
use Rattle.xdg_base.specs.declared.faults.Stop.{Stop}
use Rattle.xdg_base.specs.declared.faults.Stop.TheVariants as stops
use Rattle.xdg_ast.specs.declared.grammar.Grammar.{Grammar}
use Rattle.xdg_types.specs.Answers as types
use Rattle.xdg_types.specs.Answers.{HasTable}
use Rattle.xdg_base.specs.Told.{Gives}
use Rattle.xdg_types.specs.Table.{Table}
use Rattle.xdg_check.specs.Answers as check
use Rattle.xdg_check.specs.Answers.{IsRight, IsCheckedOf}
use Rattle.xdg_check.specs.Checked.{Parts, named_bodies}
use Rattle.xdg_check.specs.Only as check_only
use Rattle.xdg_check.specs.Only.{SameMeaning, placed_body}
use Rattle.xdg_packed.specs.Lexicon.{Entry, Lexicon}
use Rattle.xdg_lexicon.specs.Answers as lexicon
use Rattle.xdg_lexicon.specs.Sources.{source_of}
use Rattle.xdg_inputs.specs.Meanings.{Meaning, Checks, Means, of_types, of_check, of_lexicon}
use Rattle.xdg_inputs.specs.Answers.{IsAnswer, Tells, meaning_of}

-- ---- what is told

pub check_tells : (tree : Grammar) (table : Table) (stop : Stop) → types.Tells tree.statements (Ok table) → check.Tells tree.statements table (Err stop) → Tells tree (Err stop)
check_tells tree table (stops.Fault f) has told = of_check table has told
check_tells tree table stops.OutOfMemory has told = tt

checks : (tree : Grammar) (table : Table) (checked : Parts) → HasTable tree.statements table → IsRight tree.statements table × IsCheckedOf tree.statements table checked → Checks tree checked
checks tree table checked has told =
    let same : table ≡ checked.types = sym told.1.types in
    record {
      types = subst (λ t. HasTable tree.statements t) same has;
      right = subst (λ t. IsRight tree.statements t) same told.0;
      checked_is = subst (λ t. IsCheckedOf tree.statements t checked) same told.1;
    }

pub expand_tells : (tree : Grammar) (table : Table) (checked : Parts) (stop : Stop) → types.Tells tree.statements (Ok table) → check.Tells tree.statements table (Ok checked) → lexicon.Tells (source_of checked) (Err stop) → Tells tree (Err stop)
expand_tells tree table checked (stops.Fault f) has told refused = of_lexicon checked (checks tree table checked has told) refused
expand_tells tree table checked stops.OutOfMemory has told refused = tt

pub made_tells : (tree : Grammar) (table : Table) (checked : Parts) (all : List Entry) → types.Tells tree.statements (Ok table) → check.Tells tree.statements table (Ok checked) → lexicon.Tells (source_of checked) (Ok all)
    → Means tree (record { table = checked.types; uses = checked.principles; entries = all })
made_tells tree table checked all has told is = record { checked = checked; checks = checks tree table checked has told; table = refl; uses = refl; lexicon = is }

-- ---- that it is one thing

-- An answer by what the types are, by what the check says of them, and by what the lexicon is of what is checked.
abbrev ByEntries : Parts → Result (List Entry) Fault → Result Meaning Fault
ByEntries checked (Ok all) = Ok (record { table = checked.types; uses = checked.principles; entries = all })
ByEntries checked (Err f) = Err f

abbrev ByCheck : Result Parts Fault → Result Meaning Fault → Type 0
ByCheck (Ok checked) answer = (told : Result (List Entry) Fault) × lexicon.IsAnswer (source_of checked) told × (answer ≡ ByEntries checked told)
ByCheck (Err f) answer = answer ≡ Err f

abbrev ByTypes : Grammar → Result Table Fault → Result Meaning Fault → Type 0
ByTypes tree (Ok table) answer = (told : Result Parts Fault) × check.IsAnswer tree.statements table told × ByCheck told answer
ByTypes tree (Err f) answer = answer ≡ Err f

by_types : (tree : Grammar) (types_are : Result Table Fault) → ((a : Result Table Fault) → types.IsAnswer tree.statements a → a ≡ types_are) → (answer : Result Meaning Fault) → IsAnswer tree answer → ByTypes tree types_are answer
by_types tree types_are one (Ok m) is =
    let meaning : ◌≡◌ {A = Result Meaning Fault} (Ok m) (ByEntries is.checked (Ok m.entries)) = ap₂ (λ t u. Ok (record { table = t; uses = u; entries = m.entries })) is.table is.uses in
    subst (λ r. ByTypes tree r (Ok m)) (one (Ok is.checked.types) is.checks.types) (Ok is.checked, (is.checks.right, is.checks.checked_is), (Ok m.entries, is.lexicon, meaning))
by_types tree types_are one (Err f) (of_types refused) = subst (λ r. ByTypes tree r (Err f)) (one (Err f) refused) refl
by_types tree types_are one (Err f) (of_check table has refused) = subst (λ r. ByTypes tree r (Err f)) (one (Ok table) has) (Err f, refused, refl)
by_types tree types_are one (Err f) (of_lexicon checked are refused) = subst (λ r. ByTypes tree r (Err f)) (one (Ok checked.types) are.types) (Ok checked, (are.right, are.checked_is), (Err f, refused, refl))

pub types_only_tell : (tree : Grammar) (stop : Stop) → ((a : Result Table Fault) → types.IsAnswer tree.statements a → Gives a (Err stop)) → (answer : Result Meaning Fault) → IsAnswer tree answer → Gives answer (Err stop)
types_only_tell tree stops.OutOfMemory only answer is = tt
types_only_tell tree (stops.Fault g) only answer is = by_types tree (Err g) only answer is

-- the check refuses, of one table
refused_so : (g : Fault) (told : Result Parts Fault) (answer : Result Meaning Fault) → check_only.Gives told (Err (stops.Fault g)) → ByCheck told answer → answer ≡ Err g
refused_so g (Ok checked) answer never by = absurd never
refused_so g (Err f) answer same by = by ∙ ap Err same

pub check_only_tell : (tree : Grammar) (table : Table) (stop : Stop) → ((a : Result Table Fault) → types.IsAnswer tree.statements a → Gives a (Ok table))
    → ((a : Result Parts Fault) → check.IsAnswer tree.statements table a → check_only.Gives a (Err stop)) → (answer : Result Meaning Fault) → IsAnswer tree answer → Gives answer (Err stop)
check_only_tell tree table stops.OutOfMemory one only answer is = tt
check_only_tell tree table (stops.Fault g) one only answer is = (let by = by_types tree (Ok table) one answer is in refused_so g by.0 answer (only by.0 by.1) by.2)

-- ---- the lexicon

same_source : (a b : Parts) → SameMeaning a b → source_of a ≡ source_of b
same_source a b same =
    ap (λ t. record { table = t; classes = named_bodies a.classes; entries = map placed_body a.entries }) same.types
    ∙ ap (λ c. record { table = b.types; classes = c; entries = map placed_body a.entries }) same.classes
    ∙ ap (λ e. record { table = b.types; classes = named_bodies b.classes; entries = e }) same.entries

same_entries : (a b : Parts) (told : Result (List Entry) Fault) → SameMeaning a b → ByEntries a told ≡ ByEntries b told
same_entries a b (Ok all) same = ap₂ (λ t u. Ok (record { table = t; uses = u; entries = all })) same.types same.principles
same_entries a b (Err f) same = refl

-- what is checked means one thing, of which the lexicon is one
told_so : (checked : Parts) (entries : Result (List Entry) Fault) → ((a : Result (List Entry) Fault) → lexicon.IsAnswer (source_of checked) a → a ≡ entries) → (told : Result Parts Fault) (answer : Result Meaning Fault)
    → check_only.Gives told (Ok checked) → ByCheck told answer → answer ≡ ByEntries checked entries
told_so checked entries only (Ok other) answer same by =
    by.2 ∙ ap (ByEntries other) (only by.0 (subst (λ s. lexicon.IsAnswer s by.0) (same_source other checked same) by.1)) ∙ same_entries other checked entries same
told_so checked entries only (Err f) answer never by = absurd never

module _ (tree : Grammar) (table : Table) (checked : Parts) (one : (a : Result Table Fault) → types.IsAnswer tree.statements a → Gives a (Ok table)) (two : (a : Result Parts Fault) → check.IsAnswer tree.statements table a → check_only.Gives a (Ok checked)) where
  lexicon_tells : (entries : Result (List Entry) Fault) → ((a : Result (List Entry) Fault) → lexicon.IsAnswer (source_of checked) a → a ≡ entries) → (answer : Result Meaning Fault) → IsAnswer tree answer → answer ≡ ByEntries checked entries
  lexicon_tells entries only answer is = (let by = by_types tree (Ok table) one answer is in told_so checked entries only by.0 answer (two by.0 by.1) by.2)

  pub expand_only_tell : (stop : Stop) → ((a : Result (List Entry) Fault) → lexicon.IsAnswer (source_of checked) a → Gives a (Err stop)) → (answer : Result Meaning Fault) → IsAnswer tree answer → Gives answer (Err stop)
  expand_only_tell stops.OutOfMemory only answer is = tt
  expand_only_tell (stops.Fault g) only answer is = lexicon_tells (Err g) only answer is

  pub made_only : (packed : Lexicon) → ((a : Result (List Entry) Fault) → lexicon.IsAnswer (source_of checked) a → Gives a (Ok packed.entries)) → (answer : Result Meaning Fault) → IsAnswer tree answer
      → Gives answer (Ok (meaning_of (record { checked = checked; lexicon = packed })))
  made_only packed only answer is = lexicon_tells (Ok packed.entries) only answer is
