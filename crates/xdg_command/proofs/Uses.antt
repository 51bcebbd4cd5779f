-- One use of an argument.
use Rattle.std.proofs.Common.{◌≡◌, ◌∙◌, ℕ, true, false, List, [], ◌∷◌, ◌++◌, inl, inr, Option, Some, None, refl, ap, append-nil, arith, length}
use Rattle.std.specs.Prelude.{codes, nat_lt, if◌then◌else◌}
use Rattle.std.specs.Str.{bytes_eq}
use Rattle.std.proofs.lemmas.Bool.{cases_Bool, lt-ltb, or_parts}
use Rattle.clap.specs.Walk.{Row, Rule, at_row, has_row, more_values, reading_by, used, with_values, without}
use Rattle.clap.specs.Kinds.{or_else}
use Rattle.clap.specs.Faults.{repeat_fault, use_fault}
use Rattle.clap.specs.declared.parser.matches.ValueSource.TheVariants.{CommandLine}
use Rattle.xdg_command.proofs.Rules.{added, flag_rule, nothing, operand_rule, row, value_rule}

-- where no row has the name, a new one stands last
pub at_none : (id : List ℕ) (change : Row → List Row) (missing rows : List Row) → has_row id rows ≡ false → at_row id change missing rows ≡ rows ++ missing
at_none id change missing [] e = refl
at_none id change missing (r ∷ rs) e =
    let p = or_parts (bytes_eq r.id id) (has_row id rs) e in
    rw p.0 (ap (λ xs. r ∷ xs) (at_none id change missing rs p.1))

new_row : (a : Rule) (raw : List (List ℕ)) (rows : List Row) → has_row a.id rows ≡ false → with_values a.id (reading_by a) CommandLine raw (without a.id rows) ≡ rows ++ row a raw ∷ []
new_row a raw rows e =
    ap (with_values a.id (reading_by a) CommandLine raw) (at_none a.id (λ _. []) [] rows e ∙ append-nil rows)
    ∙ at_none a.id (more_values CommandLine raw) (row a raw ∷ []) rows e

-- an argument is used with these values, if they pass
abbrev pub using_as : Rule → List (List ℕ) → List Row → Option (List Row)
using_as a values rows = if nothing (use_fault false a values rows) then Some (used a values rows) else None

use_ok : (a : Rule) (values raw : List (List ℕ)) (rows : List Row) → use_fault false a values rows ≡ or_else (repeat_fault false a.id rows) []
    → used a values rows ≡ with_values a.id (reading_by a) CommandLine raw (without a.id rows) → using_as a values rows ≡ added a raw rows
use_ok a values raw rows fault uses = elim (cases_Bool (has_row a.id rows)) [ inl e ↦ rw (fault, e) refl | inr e ↦ rw (fault, uses, new_row a raw rows e, e) refl ]

pub value_used : (name : List ℕ) (x : ℕ) (v : List ℕ) (rows : List Row) → using_as (value_rule name) ((x ∷ v) ∷ []) rows ≡ added (value_rule name) ((x ∷ v) ∷ []) rows
value_used name x v rows =
    let fits : nat_lt 0 (length (x ∷ v)) ≡ true = lt-ltb 0 (length (x ∷ v)) (omega arith) in
    use_ok (value_rule name) ((x ∷ v) ∷ []) ((x ∷ v) ∷ []) rows (rw fits refl) refl

pub empty_refused : (name : List ℕ) (rows : List Row) → using_as (value_rule name) ([] ∷ []) rows ≡ None
empty_refused name rows = elim (cases_Bool (has_row name rows)) [ inl e ↦ rw e refl | inr e ↦ rw e refl ]

pub flag_used : (name : List ℕ) (rows : List Row) → using_as (flag_rule name) [] rows ≡ added (flag_rule name) (codes "true" ∷ []) rows
flag_used name rows = use_ok (flag_rule name) [] (codes "true" ∷ []) rows refl refl

pub operand_used : (place : ℕ) (name word : List ℕ) (rows : List Row) → using_as (operand_rule place name) (word ∷ []) rows ≡ added (operand_rule place name) (word ∷ []) rows
operand_used place name word rows = use_ok (operand_rule place name) (word ∷ []) (word ∷ []) rows refl refl
