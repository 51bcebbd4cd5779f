-- What is found by its name is what the items say.
use Rattle.std.proofs.Common.{◌≡◌, ◌∙◌, ◌+◌, ◌||◌, ℕ, Bool, zero, suc, true, false, List, [], ◌∷◌, ◌++◌, inl, inr, map, Option, Some, None, refl, sym, ap, arith}
use Rattle.std.specs.Prelude.{codes, option_and_then, slice_get, if◌then◌else◌}
use Rattle.std.specs.List.{find, fold}
use Rattle.std.specs.Option.{option_or}
use Rattle.std.specs.Str.{bytes_eq}
use Rattle.std.proofs.lemmas.Bool.{cases_Bool, cond_both, or_parts, true≢false}
use Rattle.std.proofs.lemmas.List.Folds.{find-append}
use Rattle.clap.specs.Walk.{Row, first_of, has_row, more_values, one_of, reading_by, row_text, with_default}
use Rattle.clap.specs.declared.parser.matches.ValueSource.TheVariants.{DefaultValue}
use Rattle.xdg_command.specs.Items.{Item, operand, valued, flagged, has_flag, operands_of, value_of}
use Rattle.xdg_base.specs.Texts.{has_text}
use Rattle.xdg_command.specs.Syntax.{Table}
use Rattle.xdg_command.proofs.Built.{numbered, rules_in}
use Rattle.xdg_command.proofs.Filling.{Formed, distinct_at, other_name, other_operand}
use Rattle.xdg_command.proofs.Fitting.{operand_row, rows_of_items}
use Rattle.xdg_command.proofs.Lookups.{Right}
use Rattle.xdg_command.proofs.Rules.{flag_rule, form, row, value_rule}
use Rattle.xdg_command.proofs.Uses.{at_none}
use Rattle.xdg_facts.proofs.Texts.{equal, same_text, other_test}

abbrev pub found_in : List ℕ → List Row → Option Row
found_in name rows = find (λ r. bytes_eq r.id name) rows

abbrev first_in : Option Row → Option (List ℕ)
first_in found = option_and_then (λ x. slice_get x.values 0) found

-- the row of a flag, where it is given
abbrev pub given : List ℕ → Bool → Option Row
given name b = if b then Some (row (flag_rule name) (codes "true" ∷ [])) else None

-- ---- the rows of items

-- the row of an operand is passed over by another name
passed : (o : Option (List ℕ)) (place : ℕ) (word name : List ℕ) (rows : List Row) → ((other : List ℕ) → o ≡ Some other → bytes_eq other name ≡ false)
    → found_in name (operand_row o place word ++ rows) ≡ found_in name rows
passed None place word name rows unlike = refl
passed (Some other) place word name rows unlike = rw (unlike other refl) refl

module _ (t : Table) (r : Right t) where
  pub finds_value : (name : List ℕ) → form t name ≡ Some true → (k : ℕ) (items : List Item) → Formed t items → first_of name (rows_of_items t k items) ≡ value_of name items
  finds_value name mine k [] formed = refl
  finds_value name mine k (operand word ∷ items) formed =
      ap first_in (passed (slice_get t.operands k) (suc k) word name _ (λ other e. other_name t r k other name true e mine)) ∙ finds_value name mine (suc k) items formed
  finds_value name mine k (valued other value ∷ items) formed =
      elim (cases_Bool (bytes_eq other name)) [ inl e ↦ rw e refl | inr e ↦ rw e (finds_value name mine k items formed.1) ]
  finds_value name mine k (flagged other ∷ items) formed =
      let no : bytes_eq other name ≡ false = other_test other name (λ x. let bad : Some false ≡ Some true = sym formed.0 ∙ ap (form t) x ∙ mine in true≢false (sym cc)) in
      rw no (finds_value name mine k items formed.1)

  pub finds_flag : (name : List ℕ) → form t name ≡ Some false → (k : ℕ) (items : List Item) → Formed t items
      → found_in name (rows_of_items t k items) ≡ given name (has_flag name items)
  finds_flag name mine k [] formed = refl
  finds_flag name mine k (operand word ∷ items) formed =
      passed (slice_get t.operands k) (suc k) word name _ (λ other e. other_name t r k other name false e mine) ∙ finds_flag name mine (suc k) items formed
  finds_flag name mine k (valued other value ∷ items) formed =
      let no : bytes_eq other name ≡ false = other_test other name (λ x. let bad : Some true ≡ Some false = sym formed.0 ∙ ap (form t) x ∙ mine in true≢false cc) in
      rw no (finds_flag name mine k items formed.1)
  finds_flag name mine k (flagged other ∷ items) formed = elim (cases_Bool (bytes_eq other name)) [
    | inl e ↦ rw e (ap (λ n. Some (row (flag_rule n) (codes "true" ∷ []))) (same_text other name e))
    | inr e ↦ rw e (finds_flag name mine k items formed.1)
  ]

  pub finds_operand : (k m : ℕ) (name : List ℕ) (items : List Item) → slice_get t.operands (k + m) ≡ Some name → Formed t items → first_of name (rows_of_items t k items) ≡ slice_get (operands_of items) m
  finds_operand k m name [] e formed = refl
  finds_operand k zero name (operand word ∷ items) e formed =
      let here : k + 0 ≡ k = omega arith in
      let at : slice_get t.operands k ≡ Some name = ap (slice_get t.operands) (sym here) ∙ e in
      rw (at, equal name) refl
  finds_operand k (suc m) name (operand word ∷ items) e formed =
      let next : k + suc m ≡ suc k + m = omega arith in
      let at : slice_get t.operands (suc k + m) ≡ Some name = ap (slice_get t.operands) (sym next) ∙ e in
      ap first_in (passed (slice_get t.operands k) (suc k) word name _ (λ other is. distinct_at t.operands k (k + suc m) other name r.operands is e (omega arith)))
      ∙ finds_operand (suc k) m name items at formed
  finds_operand k m name (valued other value ∷ items) e formed = rw (other_operand t r (k + m) name other true e formed.0) (finds_operand k m name items e formed.1)
  finds_operand k m name (flagged other ∷ items) e formed = rw (other_operand t r (k + m) name other false e formed.0) (finds_operand k m name items e formed.1)

-- ---- flags that are not given

abbrev unset : List ℕ → Row
unset name = record { id = name; values = codes "false" ∷ []; count = None; source = Some DefaultValue; reading = reading_by (flag_rule name) }

stays : (b : Bool) (rows : List Row) → (if b then rows else rows) ≡ rows
stays true rows = refl
stays false rows = refl

-- operands and options with a value have no default
without_defaults : (operands values flags : List (List ℕ)) (place : ℕ) (rows : List Row)
    → fold with_default rows (numbered place operands ++ (map value_rule values ++ map flag_rule flags)) ≡ fold with_default rows (map flag_rule flags)
without_defaults [] [] flags place rows = refl
without_defaults [] (v ∷ values) flags place rows = ap (λ xs. fold with_default xs (map value_rule values ++ map flag_rule flags)) (stays (has_row v rows) rows) ∙ without_defaults [] values flags place rows
without_defaults (o ∷ operands) values flags place rows =
    ap (λ xs. fold with_default xs (numbered (suc place) operands ++ (map value_rule values ++ map flag_rule flags))) (stays (has_row o rows) rows) ∙ without_defaults operands values flags (suc place) rows

-- a flag that wasn't found is found unset
default_is : (name : List ℕ) (rows : List Row) → with_default rows (flag_rule name) ≡ (if has_row name rows then rows else rows ++ unset name ∷ [])
default_is name rows = elim (cases_Bool (has_row name rows)) [
  | inl e ↦ rw e refl
  | inr e ↦ rw e (at_none name (more_values DefaultValue (codes "false" ∷ [])) (unset name ∷ []) rows e)
]

found_first : (name : List ℕ) (rows : List Row) (x : Row) (more : List Row) → found_in name rows ≡ Some x → found_in name (rows ++ more) ≡ Some x
found_first name rows x more e = find-append (λ r. bytes_eq r.id name) rows more ∙ ap (λ o. option_or o (found_in name more)) e

found_later : (name : List ℕ) (rows more : List Row) → found_in name rows ≡ None → found_in name (rows ++ more) ≡ found_in name more
found_later name rows more e = find-append (λ r. bytes_eq r.id name) rows more ∙ ap (λ o. option_or o (found_in name more)) e

none_found : (name : List ℕ) (rows : List Row) → found_in name rows ≡ None → has_row name rows ≡ false
none_found name [] e = refl
none_found name (y ∷ rows) e = elim (cases_Bool (bytes_eq y.id name)) [
  | inl is ↦ let bad : Some y ≡ None = rw is at e in absurd cc
  | inr is ↦ rw is (none_found name rows (rw is at e))
]

-- another flag's default changes nothing
other_default : (name other : List ℕ) (rows : List Row) → bytes_eq other name ≡ false → found_in name (with_default rows (flag_rule other)) ≡ found_in name rows
other_default name other rows unlike = ap (found_in name) (default_is other rows) ∙ go (has_row other rows) (found_in name rows) refl
  where
    go : (b : Bool) (o : Option Row) → found_in name rows ≡ o → found_in name (if b then rows else rows ++ unset other ∷ []) ≡ found_in name rows
    go true o e = refl
    go false (Some x) e = found_first name rows x (unset other ∷ []) e ∙ sym e
    go false None e = found_later name rows (unset other ∷ []) e ∙ rw unlike (sym e)

-- what is found stays
default_stays : (name other : List ℕ) (rows : List Row) (x : Row) → found_in name rows ≡ Some x → found_in name (with_default rows (flag_rule other)) ≡ Some x
default_stays name other rows x e =
    ap (found_in name) (default_is other rows) ∙ cond_both (has_row other rows) rows _ (λ xs. found_in name xs ≡ Some x) (λ is. e) (λ is. found_first name rows x (unset other ∷ []) e)

all_stays : (name : List ℕ) (flags : List (List ℕ)) (rows : List Row) (x : Row) → found_in name rows ≡ Some x → found_in name (fold with_default rows (map flag_rule flags)) ≡ Some x
all_stays name [] rows x e = e
all_stays name (f ∷ flags) rows x e = all_stays name flags (with_default rows (flag_rule f)) x (default_stays name f rows x e)

-- no flag has the name
unflagged : (name : List ℕ) (flags : List (List ℕ)) (rows : List Row) → has_text flags name ≡ false → found_in name (fold with_default rows (map flag_rule flags)) ≡ found_in name rows
unflagged name [] rows e = refl
unflagged name (f ∷ flags) rows e =
    let parts = or_parts (bytes_eq f name) (has_text flags name) e in
    unflagged name flags (with_default rows (flag_rule f)) parts.1 ∙ other_default name f rows parts.0

-- a flag has the name, and isn't found
flag_unset : (name : List ℕ) (flags : List (List ℕ)) (rows : List Row) → has_text flags name ≡ true → found_in name rows ≡ None → found_in name (fold with_default rows (map flag_rule flags)) ≡ Some (unset name)
flag_unset name [] rows e none = absurd (true≢false (sym e))
flag_unset name (f ∷ flags) rows e none = go (bytes_eq f name) refl (flag_unset name flags (with_default rows (flag_rule f))) e
  where
    go : (b : Bool) → bytes_eq f name ≡ b
        → (has_text flags name ≡ true → found_in name (with_default rows (flag_rule f)) ≡ None → found_in name (fold with_default (with_default rows (flag_rule f)) (map flag_rule flags)) ≡ Some (unset name))
        → (b || has_text flags name) ≡ true → found_in name (fold with_default (with_default rows (flag_rule f)) (map flag_rule flags)) ≡ Some (unset name)
    go true is next e =
        let name_is : f ≡ name = same_text f name is in
        let no : has_row f rows ≡ false = ap (λ n. has_row n rows) name_is ∙ none_found name rows none in
        let here : with_default rows (flag_rule f) ≡ rows ++ unset f ∷ [] = default_is f rows ∙ ap (λ b. if b then rows else rows ++ unset f ∷ []) no in
        all_stays name flags (with_default rows (flag_rule f)) (unset name)
        (ap (found_in name) here ∙ found_later name rows (unset f ∷ []) none ∙ rw is (ap (λ n. Some (unset n)) name_is))
    go false is next e = next e (other_default name f rows is ∙ none)

module _ (t : Table) where
  pub first_kept : (name : List ℕ) (rows : List Row) → has_text t.flags name ≡ false → first_of name (fold with_default rows (rules_in t)) ≡ first_of name rows
  first_kept name rows e =
      ap (first_of name) (without_defaults t.operands t.values t.flags 1 rows) ∙ ap first_in (unflagged name t.flags rows e)

  pub flag_kept : (name : List ℕ) (rows : List Row) (b : Bool) → has_text t.flags name ≡ true → found_in name rows ≡ given name b
      → one_of name (fold with_default rows (rules_in t)) ≡ Some (if b then codes "true" else codes "false")
  flag_kept name rows true mine e =
      ap (one_of name) (without_defaults t.operands t.values t.flags 1 rows) ∙ ap (option_and_then row_text) (all_stays name t.flags rows _ e)
  flag_kept name rows false mine e =
      ap (one_of name) (without_defaults t.operands t.values t.flags 1 rows) ∙ ap (option_and_then row_text) (flag_unset name t.flags rows mine e)
