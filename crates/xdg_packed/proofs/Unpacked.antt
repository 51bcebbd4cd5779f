-- Packed entries are the entries.
use Rattle.std.proofs.Common.{◌≡◌, ℕ, ◌+◌, ◌-◌, ◌^◌, ◌<◌, ◌≤◌, List, [], ◌∷◌, ◌++◌, length, get_or, map, take, refl, sym, ap, subst, ◌∙◌, arith, All}
use Rattle.std.specs.List.{range_with_len}
use Rattle.std.proofs.lemmas.List.{length-map, get_or-map}
use Rattle.std.proofs.lemmas.List.FromFn.{length-map-range_with_len, get_or-map-range_with_len}
use Rattle.xdg_base.specs.declared.ids.EntryNo.{EntryNo}
use Rattle.xdg_packed.specs.Lexicon.{Record, Entry, Lexicon, HasWord, word_of, AreAsLong, width, column, columns, CountsDifferent, CountsRows}
use Rattle.xdg_packed.specs.Packing.{unpacked, IsPacked}
use Rattle.xdg_packed.specs.Tables.{records, no_table, IsRight}
use Rattle.xdg_packed.specs.Words.{IsWordIndex}
use Rattle.xdg_packed.specs.declared.table.Table.{Table}
use Rattle.xdg_packed.proofs.Firsts.{in_column, long_shown}
use Rattle.xdg_facts.proofs.Lists.{fused, any_default, all_places, from_zero}
use Rattle.xdg_facts.proofs.Fronts.{map_next}

-- ---- entries

entry_back : (entries : List Entry) → AreAsLong entries → (n : ℕ) → n < length entries → map (λ table. get_or table n []) (columns entries) ≡ get_or entries n []
entry_back entries equal n within =
    fused (λ table. get_or table n []) (λ dim. column dim entries) (range_with_len 0 (width entries))
    ∙ all_places (λ dim. get_or (column dim entries) n []) [] (get_or entries n []) (width entries) (sym (equal n [] within)) (λ dim inside. in_column entries n dim within)

-- the records of the entry with a number are that entry
pub row_back : (entries : List Entry) (tables : List Table) → AreAsLong entries → map records tables ≡ columns entries → (n : ℕ) → n < length entries → map (λ table. get_or (records table) n []) tables ≡ get_or entries n []
row_back entries tables equal are n within = sym (fused (λ (table : List Record). get_or table n []) records tables) ∙ ap (map (λ (table : List Record). get_or table n [])) are ∙ entry_back entries equal n within

-- what is unpacked from the columns of entries are the entries
pub unpacked_columns : (entries : List Entry) (tables : List Table) (count : ℕ) → AreAsLong entries → map records tables ≡ columns entries → count ≡ length entries → unpacked tables count ≡ entries
unpacked_columns entries tables count equal are size = all_places (λ n. map (λ table. get_or (records table) n []) tables) [] entries count size (λ n within. row_back entries tables equal are n within)

-- ---- tables

counts_more : (tables : List (List Record)) (rows : ℕ) (table : List Record) (here : ℕ) → CountsRows tables rows → CountsDifferent table here → CountsRows (tables ++ table ∷ []) (rows + here)
counts_more [] rows table here none counts = (here, 0, counts, refl, omega (arith, none))
counts_more (first ∷ tables) rows table here (h, later, counted, rest, sum) counts =
    (h, later + here, counted, counts_more tables later table here rest counts, omega (arith, sum))

-- the rows of one table more
pub rows_next : (tables : List Table) (i : ℕ) (table : Table) (rows here sum : ℕ) → i < length tables → table ≡ get_or tables i table → CountsRows (map records (take i tables)) rows → CountsDifferent (records table) here → sum ≡ rows + here
    → CountsRows (map records (take (i + 1) tables)) sum
rows_next tables i table rows here sum within is counted counts e =
    subst (λ n. CountsRows (map records (take (i + 1) tables)) n) (sym e)
    (subst (λ ts. CountsRows ts (rows + here)) (sym (map_next records tables i table within is)) (counts_more (map records (take i tables)) rows (records table) here counted counts))

-- ---- packed

pub made_packed : (entries : List Entry) (tables : List Table) (count rows dim field : ℕ) (words : List (List ℕ)) (numbers : List (List EntryNo)) → All (HasWord dim field) entries → AreAsLong entries → length entries ≤ 2 ^ 32 - 1
    → ((d : ℕ) → IsRight (get_or tables d no_table)) → map records tables ≡ columns entries → count ≡ length entries → CountsRows (map records tables) rows → IsWordIndex (map (word_of dim field) entries) words numbers
    → IsPacked (record { entries = unpacked tables count; dim = dim; field = field }) tables rows words numbers
made_packed entries tables count rows dim field words numbers said equal few right are size counted indexed =
    let back : entries ≡ unpacked tables count = sym (unpacked_columns entries tables count equal are size) in
    let P : List Entry → Type 0 = λ es. IsPacked (record { entries = es; dim = dim; field = field }) tables rows words numbers in
    subst P back (record {
      right = record { words = said; equal = equal; few = few };
      tables_right = right;
      tables_are = are;
      counted = counted;
      indexed = indexed;
    })

-- what is known of tables that hold entries
pub record Holds (entries : List Entry) (tables : List Table) : Type 0 where
  pub equal : AreAsLong entries
  pub right : (dim : ℕ) → IsRight (get_or tables dim no_table)
  pub are : map records tables ≡ columns entries

-- and of that of one dimension
pub record HoldsDim (entries : List Entry) (dim : ℕ) (table : Table) : Type 0 where
  pub right : IsRight table
  pub are : records table ≡ column dim entries
  pub long : length table.places ≡ length entries

pub columns_wide : (entries : List Entry) (tables : List Table) → map records tables ≡ columns entries → length tables ≡ width entries
columns_wide entries tables are = sym (length-map tables records) ∙ ap length are ∙ length-map-range_with_len (λ d. column d entries) 0 (width entries)

pub columns_at : (entries : List Entry) (tables : List Table) (dim : ℕ) → map records tables ≡ columns entries → dim < length tables → records (get_or tables dim no_table) ≡ column dim entries
columns_at entries tables dim are inside =
    let wide = columns_wide entries tables are in
    let below : dim < width entries = omega (arith, wide, inside) in
    sym (get_or-map records tables dim no_table [] inside) ∙ ap (λ ts. get_or ts dim []) are ∙ get_or-map-range_with_len (λ d. column d entries) 0 (width entries) dim dim [] below (from_zero dim)

-- each table has as many places as there are entries
pub long_places : (entries : List Entry) (tables : List Table) (dim : ℕ) → map records tables ≡ columns entries → dim < length tables → length (get_or tables dim no_table).places ≡ length entries
long_places entries tables dim are inside =
    let table = get_or tables dim no_table in
    sym (long_shown table.rows table.places) ∙ ap length (columns_at entries tables dim are inside) ∙ length-map entries (λ e. get_or e dim [])

module _ (entries : List Entry) (tables : List Table) (holds : Holds entries tables) where
  -- of a table that is read
  pub read_dim : (read : List Table) (dim : ℕ) (table : Table) → read ≡ tables → dim < length tables → table ≡ get_or read dim table → HoldsDim entries dim table
  read_dim read dim table lent inside is =
      subst (HoldsDim entries dim) (sym (is ∙ ap (λ ts. get_or ts dim table) lent ∙ any_default tables dim table no_table inside))
      (record { right = holds.right dim; are = columns_at entries tables dim holds.are inside; long = long_places entries tables dim holds.are inside })

  -- a dimension of an entry has a table
  pub table_within : (n dim : ℕ) → n < length entries → dim < length (get_or entries n []) → dim < length tables
  table_within n dim within inside =
      let same = holds.equal n [] within in
      let count = columns_wide entries tables holds.are in
      omega (arith, same, count, inside)

-- the record of an entry
pub record_is : (entries : List Entry) (dim : ℕ) (table : Table) (n : ℕ) (fields : Record) → HoldsDim entries dim table → n < length entries → fields ≡ get_or (records table) n [] → fields ≡ get_or (get_or entries n []) dim []
record_is entries dim table n fields holds within own = own ∙ ap (λ t. get_or t n []) holds.are ∙ in_column entries n dim within

-- of what is packed

module _ {view now : Lexicon} {tables : List Table} {rows : ℕ} {words : List (List ℕ)} {numbers : List (List EntryNo)} (is : view ≡ now) (packed : IsPacked view tables rows words numbers) where
  pub holds_packed : Holds now.entries tables
  holds_packed = subst (λ (l : Lexicon). Holds l.entries tables) is (record { equal = packed.right.equal; right = packed.tables_right; are = packed.tables_are })

  pub rows_are : CountsRows (columns now.entries) rows
  rows_are = subst (λ ts. CountsRows ts rows) (packed.tables_are ∙ ap (λ (l : Lexicon). columns l.entries) is) packed.counted

pub count_is : (now : Lexicon) (tables : List Table) (count dim field : ℕ) → record { entries = unpacked tables count; dim = dim; field = field } ≡ now → count ≡ length now.entries
count_is now tables count dim field is = sym (length-map-range_with_len (λ n. map (λ table. get_or (records table) n []) tables) 0 count) ∙ ap (λ (l : Lexicon). length l.entries) is
