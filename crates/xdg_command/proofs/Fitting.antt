-- Items are found where each option is given once and there are not too many operands, and only there.
use Rattle.std.proofs.Common.{◌≡◌, ◌∙◌, ◌≤◌, ◌+◌, ◌||◌, ℕ, Bool, suc, true, false, List, [], ◌∷◌, ◌++◌, inl, inr, length, Option, Some, None, refl, sym, ap, subst, arith, append_assoc, append-nil}
use Rattle.std.specs.Prelude.{codes, slice_get}
use Rattle.std.specs.Str.{bytes_eq}
use Rattle.std.proofs.lemmas.Bool.{cases_Bool, true≢false}
use Rattle.clap.specs.Walk.{Row, Rule, has_row}
use Rattle.xdg_command.specs.Items.{Item, operand, valued, flagged, one_if, operands_of, uses_of}
use Rattle.xdg_command.specs.Syntax.{Table}
use Rattle.xdg_command.proofs.Placed.{put, put_operand}
use Rattle.xdg_command.proofs.Rules.{added, flag_rule, operand_rule, row, value_rule}
use Rattle.xdg_facts.proofs.Texts.{same_text}
use Rattle.xdg_facts.proofs.Truths.{or_assoc, or_false}
use Rattle.std.proofs.lemmas.Option.{slice_get_within}
use Rattle.xdg_facts.proofs.Options.{onward_is}

-- ---- rows

-- the row of an operand, by the name of its place
abbrev pub operand_row : Option (List ℕ) → ℕ → List ℕ → List Row
operand_row None place word = []
operand_row (Some name) place word = row (operand_rule place name) (word ∷ []) ∷ []

-- the rows of items, of which k operands stand before
abbrev pub rows_of_items : Table → ℕ → List Item → List Row
rows_of_items t k [] = []
rows_of_items t k (operand word ∷ items) = operand_row (slice_get t.operands k) (suc k) word ++ rows_of_items t (suc k) items
rows_of_items t k (valued name value ∷ items) = row (value_rule name) (value ∷ []) ∷ rows_of_items t k items
rows_of_items t k (flagged name ∷ items) = row (flag_rule name) (codes "true" ∷ []) ∷ rows_of_items t k items

-- what it is to be added
added_is : (a : Rule) (values : List (List ℕ)) (rows more : List Row) → added a values rows ≡ Some more → (has_row a.id rows ≡ false) × (more ≡ rows ++ row a values ∷ [])
added_is a values rows more e = elim (cases_Bool (has_row a.id rows)) [
  | inl is ↦ let bad : None ≡ Some more = rw is at e in absurd cc
  | inr is ↦ let same : Some (rows ++ row a values ∷ []) ≡ Some more = rw is at e in let rows_are : rows ++ row a values ∷ [] ≡ more = cc in (is, sym rows_are)
]

-- one row more
pub has_more : (name : List ℕ) (rows : List Row) (r : Row) → has_row name (rows ++ r ∷ []) ≡ (has_row name rows || bytes_eq r.id name)
has_more name [] r = or_false (bytes_eq r.id name)
has_more name (x ∷ rows) r = rw (has_more name rows r) (sym (or_assoc (bytes_eq x.id name) (has_row name rows) (bytes_eq r.id name)))

pub most : (a b : Bool) → one_if (a || b) ≤ one_if a + one_if b
most true true = omega arith
most true false = omega arith
most false true = omega arith
most false false = omega arith

at_most : (a : Bool) → one_if a ≤ 1
at_most true = omega arith
at_most false = omega arith

pub no_more : (b : Bool) (n : ℕ) → one_if b + (1 + n) ≤ 1 → b ≡ false
no_more true n e = absurd (omega (arith, e))
no_more false n e = refl

module _ (t : Table) where
  -- ---- what is found is the rows of the items

  pub put_rows : (k : ℕ) (rows : List Row) (items : List Item) (end : List Row) → put t k rows items ≡ Some end → end ≡ rows ++ rows_of_items t k items
  put_rows k rows [] end e = let is : rows ≡ end = cc in sym is ∙ sym (append-nil rows)
  put_rows k rows (operand word ∷ items) end e =
      let next = onward_is (put_operand (slice_get t.operands k) (suc k) word rows) (λ more. put t (suc k) more items) end e in
      put_rows (suc k) next.0 items end next.2 ∙ by_place (slice_get t.operands k) next.1
    where
      by_place : {more : List Row} (o : Option (List ℕ)) → put_operand o (suc k) word rows ≡ Some more → more ++ rows_of_items t (suc k) items ≡ rows ++ (operand_row o (suc k) word ++ rows_of_items t (suc k) items)
      by_place {more} None e = absurd cc
      by_place {more} (Some name) e = let is = added_is (operand_rule (suc k) name) (word ∷ []) rows more e in ap (λ xs. xs ++ rows_of_items t (suc k) items) is.1 ∙ append_assoc rows _ _
  put_rows k rows (valued name value ∷ items) end e =
      let next = onward_is (added (value_rule name) (value ∷ []) rows) (λ more. put t k more items) end e in
      let is = added_is (value_rule name) (value ∷ []) rows next.0 next.1 in
      put_rows k next.0 items end next.2 ∙ ap (λ xs. xs ++ rows_of_items t k items) is.1 ∙ append_assoc rows _ _
  put_rows k rows (flagged name ∷ items) end e =
      let next = onward_is (added (flag_rule name) (codes "true" ∷ []) rows) (λ more. put t k more items) end e in
      let is = added_is (flag_rule name) (codes "true" ∷ []) rows next.0 next.1 in
      put_rows k next.0 items end next.2 ∙ ap (λ xs. xs ++ rows_of_items t k items) is.1 ∙ append_assoc rows _ _

  -- ---- what is found is given once

  -- an option is used at most once, counting that it is found already
  abbrev Once : List Row → List Item → Type 0
  Once rows items = (name : List ℕ) → one_if (has_row name rows) + uses_of name items ≤ 1

  once_more : (a : Rule) (values : List (List ℕ)) (rows more : List Row) (items : List Item) → added a values rows ≡ Some more → Once more items
      → (name : List ℕ) → one_if (has_row name rows) + (one_if (bytes_eq a.id name) + uses_of name items) ≤ 1
  once_more a values rows more items e once name =
      let is = added_is a values rows more e in
      let after : has_row name more ≡ (has_row name rows || bytes_eq a.id name) = ap (has_row name) is.1 ∙ has_more name rows (row a values) in
      go (has_row name rows) (bytes_eq a.id name) refl refl (subst (λ b. one_if b + uses_of name items ≤ 1) after (once name)) is.0
    where
      go : (x y : Bool) → has_row name rows ≡ x → bytes_eq a.id name ≡ y → one_if (x || y) + uses_of name items ≤ 1 → has_row a.id rows ≡ false → one_if x + (one_if y + uses_of name items) ≤ 1
      go true true before is most none = absurd (true≢false (sym before ∙ ap (λ n. has_row n rows) (sym (same_text a.id name is)) ∙ none))
      go true false before is most none = omega (arith, most)
      go false y before is most none = omega (arith, most)

  pub put_once : (k : ℕ) (rows : List Row) (items : List Item) (end : List Row) → put t k rows items ≡ Some end → Once rows items
  put_once k rows [] end e name = omega (arith, at_most (has_row name rows))
  put_once k rows (operand word ∷ items) end e name =
      let next = onward_is (put_operand (slice_get t.operands k) (suc k) word rows) (λ more. put t (suc k) more items) end e in
      by_place (slice_get t.operands k) next.0 next.1 (put_once (suc k) next.0 items end next.2)
    where
      by_place : (o : Option (List ℕ)) (more : List Row) → put_operand o (suc k) word rows ≡ Some more → Once more items → one_if (has_row name rows) + uses_of name items ≤ 1
      by_place None more e once = absurd cc
      by_place (Some other) more e once = omega (arith, once_more (operand_rule (suc k) other) (word ∷ []) rows more items e once name)
  put_once k rows (valued other value ∷ items) end e name =
      let next = onward_is (added (value_rule other) (value ∷ []) rows) (λ more. put t k more items) end e in
      once_more (value_rule other) (value ∷ []) rows next.0 items next.1 (put_once k next.0 items end next.2) name
  put_once k rows (flagged other ∷ items) end e name =
      let next = onward_is (added (flag_rule other) (codes "true" ∷ []) rows) (λ more. put t k more items) end e in
      once_more (flag_rule other) (codes "true" ∷ []) rows next.0 items next.1 (put_once k next.0 items end next.2) name

  -- ---- and its operands are not too many

  pub put_few : (k : ℕ) (rows : List Row) (items : List Item) (end : List Row) → put t k rows items ≡ Some end → k ≤ length t.operands → k + length (operands_of items) ≤ length t.operands
  put_few k rows [] end e few = omega (arith, few)
  put_few k rows (operand word ∷ items) end e few =
      let next = onward_is (put_operand (slice_get t.operands k) (suc k) word rows) (λ more. put t (suc k) more items) end e in
      omega (arith, put_few (suc k) next.0 items end next.2 (by_place (slice_get t.operands k) refl next.0 next.1))
    where
      by_place : (o : Option (List ℕ)) → slice_get t.operands k ≡ o → (more : List Row) → put_operand o (suc k) word rows ≡ Some more → suc k ≤ length t.operands
      by_place None is more e = absurd cc
      by_place (Some name) is more e = omega (arith, slice_get_within t.operands k name is)
  put_few k rows (valued other value ∷ items) end e few =
      let next = onward_is (added (value_rule other) (value ∷ []) rows) (λ more. put t k more items) end e in put_few k next.0 items end next.2 few
  put_few k rows (flagged other ∷ items) end e few =
      let next = onward_is (added (flag_rule other) (codes "true" ∷ []) rows) (λ more. put t k more items) end e in put_few k next.0 items end next.2 few
