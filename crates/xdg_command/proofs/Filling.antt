-- Items of which each option is given once, and that have not too many operands, are found.
use Rattle.std.proofs.Common.{◌≡◌, ◌∙◌, ◌≤◌, ◌<◌, ◌+◌, ◌||◌, ℕ, Bool, zero, suc, true, false, not, List, [], ◌∷◌, ◌++◌, map, length, Some, refl, sym, ap, subst, arith}
use Rattle.std.specs.Prelude.{codes, slice_get}
use Rattle.std.specs.Str.{bytes_eq}
use Rattle.std.proofs.lemmas.Bool.{not-true, or_from, true≢false}
use Rattle.clap.proofs.WalkLemmas.{both}
use Rattle.clap.specs.Walk.{Row, Rule, has_row}
use Rattle.xdg_command.specs.Items.{AreItems, ended, operands, by_operand, by_flag, by_next, by_equals, Item, operand, valued, flagged, one_if, operands_of, uses_of}
use Rattle.xdg_base.specs.Texts.{has_text}
use Rattle.xdg_command.specs.Syntax.{Table, all_differ}
use Rattle.xdg_command.proofs.Fitting.{has_more, most, no_more}
use Rattle.xdg_command.proofs.Lookups.{Right, among_at, not_operand}
use Rattle.xdg_command.proofs.Placed.{put}
use Rattle.xdg_facts.specs.Onward.{onward}
use Rattle.xdg_command.proofs.Rules.{added, flag_rule, form, operand_rule, row, value_rule}
use Rattle.xdg_command.proofs.Spelled.{flag_form, value_form}
use Rattle.xdg_facts.proofs.Lists.{some_at}
use Rattle.xdg_facts.proofs.Texts.{equal, other_test}
use Rattle.xdg_facts.proofs.Truths.{or_false}

-- the options of the items are options of the table
abbrev pub Formed : Table → List Item → Type 0
Formed t [] = Unit {0}
Formed t (operand word ∷ items) = Formed t items
Formed t (valued name value ∷ items) = (form t name ≡ Some true) × Formed t items
Formed t (flagged name ∷ items) = (form t name ≡ Some false) × Formed t items

-- names at two places differ
pub distinct_at : (names : List (List ℕ)) (k j : ℕ) (a b : List ℕ) → all_differ names ≡ true → slice_get names k ≡ Some a → slice_get names j ≡ Some b → k < j → bytes_eq a b ≡ false
distinct_at [] k j a b different e f lt = absurd cc
distinct_at (n ∷ names) k zero a b different e f lt = absurd (omega (arith, lt))
distinct_at (n ∷ names) zero (suc j) a b different e f lt =
    let is : n ≡ a = cc in
    let first = not-true (has_text names n) (both (not (has_text names n)) (all_differ names) different).0 in
    other_test a b (λ x. true≢false (sym (among_at names j b f) ∙ ap (has_text names) (sym x ∙ sym is) ∙ first))
distinct_at (n ∷ names) (suc k) (suc j) a b different e f lt = distinct_at names k j a b (both (not (has_text names n)) (all_differ names) different).1 e f (omega (arith, lt))

module _ (t : Table) (r : Right t) where
  formed_operands : (words : List (List ℕ)) → Formed t (map operand words)
  formed_operands [] = tt
  formed_operands (word ∷ words) = formed_operands words

  pub formed : (words : List (List ℕ)) (items : List Item) → AreItems t.values t.flags words items → Formed t items
  formed _ _ ended = tt
  formed _ _ (operands words) = formed_operands words
  formed _ _ (by_operand word words items e more) = formed words items more
  formed _ _ (by_flag name words items e more) = (flag_form t r name e, formed words items more)
  formed _ _ (by_next name value words items e some plain more) = (value_form t r name e, formed words items more)
  formed _ _ (by_equals name value words items e some more) = (value_form t r name e, formed words items more)

  -- an operand has no name of an option
  pub other_name : (k : ℕ) (a name : List ℕ) (b : Bool) → slice_get t.operands k ≡ Some a → form t name ≡ Some b → bytes_eq a name ≡ false
  other_name k a name b e f = other_test a name (λ x. true≢false (sym (among_at t.operands k a e) ∙ ap (has_text t.operands) x ∙ not_operand t r name b f))

  pub other_operand : (k : ℕ) (a name : List ℕ) (b : Bool) → slice_get t.operands k ≡ Some a → form t name ≡ Some b → bytes_eq name a ≡ false
  other_operand k a name b e f = other_test name a (λ x. true≢false (sym (among_at t.operands k a e) ∙ ap (has_text t.operands) (sym x) ∙ not_operand t r name b f))

  -- each option is used at most once, counting that it is found already, and the places from the kth on are free
  abbrev Left : List Row → List Item → Type 0
  Left rows items = (name : List ℕ) (b : Bool) → form t name ≡ Some b → one_if (has_row name rows) + uses_of name items ≤ 1

  abbrev Free : ℕ → List Row → Type 0
  Free k rows = (j : ℕ) (name : List ℕ) → k ≤ j → slice_get t.operands j ≡ Some name → has_row name rows ≡ false

  abbrev Puts : ℕ → List Row → List Item → Type 0
  Puts k rows items = (end : List Row) × (put t k rows items ≡ Some end)

  -- an option is found
  option_put : (k : ℕ) (rows : List Row) (items : List Item) (a : Rule) (values : List (List ℕ)) (b : Bool) → form t a.id ≡ Some b
      → ((name : List ℕ) (c : Bool) → form t name ≡ Some c → one_if (has_row name rows) + (one_if (bytes_eq a.id name) + uses_of name items) ≤ 1) → Free k rows
      → ((more : List Row) → Left more items → Free k more → Puts k more items) → (end : List Row) × (onward (added a values rows) (λ more. put t k more items) ≡ Some end)
  option_put k rows items a values b mine left free next =
      let same : bytes_eq a.id a.id ≡ true = equal a.id in
      let none : has_row a.id rows ≡ false = no_more (has_row a.id rows) (uses_of a.id items) (subst (λ x. one_if (has_row a.id rows) + (one_if x + uses_of a.id items) ≤ 1) same (left a.id b mine)) in
      let more : List Row = rows ++ row a values ∷ [] in
      let ends = next more
      (λ name c is.
      let one : one_if (has_row name more) ≤ one_if (has_row name rows) + one_if (bytes_eq a.id name) =
      subst (λ x. one_if x ≤ one_if (has_row name rows) + one_if (bytes_eq a.id name)) (sym (has_more name rows (row a values))) (most (has_row name rows) (bytes_eq a.id name)) in
      omega (arith, one, left name c is))
      (λ j name le e. has_more name rows (row a values) ∙ or_from (has_row name rows) (bytes_eq a.id name) (free j name le e) (other_operand j name a.id b e mine)) in
      (ends.0, rw none ends.1)

  pub filled : (k : ℕ) (rows : List Row) (items : List Item) → Formed t items → Left rows items → Free k rows → k + length (operands_of items) ≤ length t.operands → Puts k rows items
  filled k rows [] form left free few = (rows, refl)
  filled k rows (operand word ∷ items) form left free few =
      let place = some_at t.operands k (omega (arith, few)) in
      let a : Rule = operand_rule (suc k) place.0 in
      let none : has_row place.0 rows ≡ false = free k place.0 (omega arith) place.1 in
      let more : List Row = rows ++ row a (word ∷ []) ∷ [] in
      let ends = filled (suc k) more items form
      (λ name b is.
      let after : has_row name more ≡ has_row name rows = has_more name rows (row a (word ∷ [])) ∙ ap (λ x. has_row name rows || x) (other_name k place.0 name b place.1 is) ∙ or_false (has_row name rows) in
      subst (λ x. one_if x + uses_of name items ≤ 1) (sym after) (left name b is))
      (λ j name le e. has_more name rows (row a (word ∷ [])) ∙ or_from (has_row name rows) (bytes_eq place.0 name) (free j name (omega (arith, le)) e)
      (distinct_at t.operands k j place.0 name r.operands place.1 e (omega (arith, le))))
      (omega (arith, few)) in
      (ends.0, rw (place.1, none) ends.1)
  filled k rows (valued name value ∷ items) form left free few =
      option_put k rows items (value_rule name) (value ∷ []) true form.0 left free (λ more left free. filled k more items form.1 left free few)
  filled k rows (flagged name ∷ items) form left free few =
      option_put k rows items (flag_rule name) (codes "true" ∷ []) false form.0 left free (λ more left free. filled k more items form.1 left free few)
