-- The tables of a lexicon, while an entry is added, and taken back.
use Rattle.std.proofs.Common.{◌≡◌, ℕ, ◌+◌, ◌<◌, ◌≤◌, ◌≢◌, List, [], ◌∷◌, ◌++◌, length, get_or, slice_set, refl, sym, ap, ap₂, subst, ◌∙◌, arith}
use Rattle.std.proofs.lemmas.List.{append_assoc, length-append, length-set, get_or-set_same, get_or-set_other}
use Rattle.std.proofs.Math.Seq.{get_or-append_seam}
use Rattle.xdg_packed.specs.Lexicon.{Record, Entry}
use Rattle.xdg_packed.specs.Rows.{IsTable, AreSpelled}
use Rattle.xdg_packed.specs.Tables.{no_table, IsRight, AreTables, AddsRecord, IsWithoutLast}
use Rattle.xdg_packed.specs.declared.table.Table.{Table}
use Rattle.xdg_facts.proofs.Lists.{any_default, default_pushed}
use Rattle.xdg_facts.proofs.Each.{set_each}

-- ---- as many tables as records

pub empty_right : IsTable [] [] []
empty_right = record {
  within = λ k d h. absurd (omega (arith, h));
  kept = record { once = tt; each = λ x h. h; only = λ x h. h };
  as_many = refl;
  firsts_are = record { have = λ row h. absurd (omega (arith, h)); least = λ entry h. absurd (omega (arith, h)) };
}

pub wider : (tables more : List Table) (spellings more_spellings : List (List (List ℕ))) (table : Table) (texts : List (List ℕ)) → AreTables tables spellings → table ≡ no_table → texts ≡ [] → more ≡ tables ++ table ∷ [] → more_spellings ≡ spellings ++ texts ∷ []
    → AreTables more more_spellings × ((dim : ℕ) → get_or more dim no_table ≡ get_or tables dim no_table)
wider tables more spellings more_spellings table texts are none empty grown texts_grown =
    let same : (dim : ℕ) → get_or more dim no_table ≡ get_or tables dim no_table = λ dim. ap (λ ts. get_or ts dim no_table) (grown ∙ ap (λ t. tables ++ t ∷ []) none) ∙ default_pushed tables no_table dim in
    let texts_same : (dim : ℕ) → get_or more_spellings dim [] ≡ get_or spellings dim [] = λ dim. ap (λ ts. get_or ts dim []) (texts_grown ∙ ap (λ t. spellings ++ t ∷ []) empty) ∙ default_pushed spellings [] dim in
    let long = length-append tables (table ∷ []) in
    let texts_long = length-append spellings (texts ∷ []) in (
      record {
        as_many = ap length texts_grown ∙ texts_long ∙ ap (λ n. n + 1) are.as_many ∙ sym (ap length grown ∙ long);
        right = λ dim. subst IsRight (sym (same dim)) (are.right dim);
        spelled = λ dim. subst (λ t. AreSpelled t.rows (get_or more_spellings dim [])) (sym (same dim)) (subst (AreSpelled (get_or tables dim no_table).rows) (sym (texts_same dim)) (are.spelled dim));
      },
      same,
    )

-- ---- the records of an entry, from the last to the first

-- What is known while records of an entry are left: those behind them are added, and the tables of the others are as they were.
pub record Entered (old : List Table) (entry rest : Entry) (tables : List Table) (spellings : List (List (List ℕ))) : Type 0 where
  pub right : AreTables tables spellings
  pub long : length tables ≡ length entry
  pub gone : Entry
  pub front : entry ≡ rest ++ gone
  pub left : (dim : ℕ) → dim < length rest → get_or tables dim no_table ≡ get_or old dim no_table
  pub done : (dim : ℕ) → length rest ≤ dim → dim < length entry → AddsRecord (get_or old dim no_table) (get_or tables dim no_table) (get_or entry dim [])

module _ (old : List Table) (entry rest more : Entry) (fields : Record) (tables : List Table) (spellings : List (List (List ℕ))) (dim : ℕ) (h : Entered old entry rest tables spellings) (popped : rest ≡ more ++ fields ∷ []) (last : dim ≡ length more) where
  longer : length rest ≡ length more + 1
  longer = ap length popped ∙ length-append more (fields ∷ [])

  front_more : entry ≡ more ++ fields ∷ h.gone
  front_more = h.front ∙ ap (λ l. l ++ h.gone) popped ∙ append_assoc more (fields ∷ []) h.gone

  in_entry : length more < length entry
  in_entry = let size : length entry ≡ length more + length (fields ∷ h.gone) = ap length front_more ∙ length-append more (fields ∷ h.gone) in omega (arith, size)

  pub dim_within : dim < length tables
  dim_within = let long = h.long in let inside = in_entry in omega (arith, long, inside, last)

  pub texts_within : dim < length spellings
  texts_within = let same = h.right.as_many in let within = dim_within in omega (arith, same, within)

  fields_are : get_or entry dim [] ≡ fields
  fields_are = ap₂ (λ n l. get_or l n []) last front_more ∙ get_or-append_seam more fields h.gone []

  module _ (table : Table) (texts : List (List ℕ)) (is : table ≡ get_or tables dim table) (texts_are : texts ≡ get_or spellings dim texts) where
    table_is : table ≡ get_or tables dim no_table
    table_is = is ∙ any_default tables dim table no_table dim_within

    texts_is : texts ≡ get_or spellings dim []
    texts_is = texts_are ∙ any_default spellings dim texts [] texts_within

    pub table_right : IsRight table
    table_right = subst IsRight (sym table_is) (h.right.right dim)

    pub table_spelled : AreSpelled table.rows texts
    table_spelled = subst (λ t. AreSpelled t.rows texts) (sym table_is) (subst (AreSpelled (get_or tables dim no_table).rows) (sym texts_is) (h.right.spelled dim))

    table_old : table ≡ get_or old dim no_table
    table_old = table_is ∙ h.left dim (let size = longer in omega (arith, size, last))

    pub table_few : (bound : ℕ) → ((d : ℕ) → length (get_or old d no_table).places < bound) → length table.places < bound
    table_few bound few = subst (λ (t : Table). length t.places < bound) (sym table_old) (few dim)

    pub entered_more : (new : Table) (new_texts : List (List ℕ)) → IsRight new → AreSpelled new.rows new_texts → AddsRecord table new fields → Entered old entry more (slice_set tables dim new) (slice_set spellings dim new_texts)
    entered_more new new_texts right spelled adds =
        let size = longer in
        record {
          right = record {
            as_many = length-set spellings dim new_texts ∙ h.right.as_many ∙ sym (length-set tables dim new);
            right = set_each (λ d t. IsRight t) tables dim new no_table dim_within right (λ d n. h.right.right d);
            spelled = set_each (λ d (t : Table). AreSpelled t.rows (get_or (slice_set spellings dim new_texts) d [])) tables dim new no_table dim_within
                (subst (AreSpelled new.rows) (sym (get_or-set_same spellings dim new_texts [] texts_within)) spelled)
                (λ d n. subst (AreSpelled (get_or tables d no_table).rows) (sym (get_or-set_other spellings dim d new_texts [] n)) (h.right.spelled d));
          };
          long = length-set tables dim new ∙ h.long;
          gone = fields ∷ h.gone;
          front = front_more;
          left = set_each (λ d t. d < length more → t ≡ get_or old d no_table) tables dim new no_table dim_within
              (λ below. absurd (omega (arith, below, last)))
              (λ d n below. h.left d (omega (arith, size, below)));
          done = set_each (λ d t. length more ≤ d → d < length entry → AddsRecord (get_or old d no_table) t (get_or entry d [])) tables dim new no_table dim_within
              (λ above below. subst (λ f. AddsRecord (get_or old dim no_table) new f) (sym fields_are) (subst (λ t. AddsRecord t new fields) table_old adds))
              (λ d n above below. h.done d (let other : d ≢ length more = λ e. n (e ∙ sym last) in omega (arith, size, above, other)) below);
        }

-- ---- an entry is taken back

-- what is known while the last entry is taken out of the first tables
abbrev pub Shortened : List Table → List Table → ℕ → Type 0
Shortened old tables bound = (dim : ℕ) → (dim < bound → IsWithoutLast (get_or old dim no_table) (get_or tables dim no_table)) × (bound ≤ dim → get_or tables dim no_table ≡ get_or old dim no_table)
