-- An entry is added to a packed lexicon, or stands there already.
use Rattle.std.proofs.Common.{◌≡◌, ℕ, suc, ◌+◌, ◌-◌, ◌<◌, ◌≤◌, true, false, List, [], ◌∷◌, ◌++◌, ◌⊎◌, length, get_or, map, take, refl, sym, ap, ap₂, subst, inl, inr, ◌∙◌, arith, true≢false}
use Rattle.std.proofs.lemmas.Bool.{cases_lt}
use Rattle.std.proofs.lemmas.List.{map-append, length-map, length-append, get_or-map, get_or_past, take_more}
use Rattle.std.proofs.lemmas.List.Elements.{All-take}
use Rattle.std.proofs.Math.ListN.{get_or-append}
use Rattle.std.proofs.Math.Seq.{get_or-append_seam}
use Rattle.xdg_names.specs.Texts.{has_text}
use Rattle.xdg_names.proofs.Texts.{has_text-stands, stands-has_text}
use Rattle.xdg_packed.specs.Lexicon.{Entry, AreAsLong, width, column, columns}
use Rattle.xdg_packed.specs.Rows.{shown, IsTable, AreSpelled}
use Rattle.xdg_packed.specs.Spelling.{numbers}
use Rattle.xdg_packed.specs.Tables.{no_table, records, IsRight, AreTables, AddsEntry, IsWithoutLast, places_at, key, AreKeys}
use Rattle.xdg_packed.specs.declared.table.Table.{Table}
use Rattle.xdg_packed.proofs.Firsts.{in_shown, same_row}
use Rattle.xdg_packed.proofs.Growing.{empty_right}
use Rattle.xdg_packed.proofs.Packs.{taken_back}
use Rattle.xdg_packed.proofs.Prefixes.{numbers_alone}
use Rattle.xdg_packed.proofs.Unpacked.{row_back, columns_wide, columns_at, long_places}
use Rattle.xdg_facts.proofs.In.{in_get, in_index, map_in}
use Rattle.xdg_facts.specs.Membership.{In}
use Rattle.xdg_facts.proofs.Each.{each_pushed}
use Rattle.xdg_facts.proofs.Lists.{all_places, maps_agree, map_place}
use Rattle.xdg_facts.proofs.Fronts.{cut_last}

-- ---- rows of tables

-- the records of the entry with a number
abbrev row : List Table → ℕ → Entry
row tables n = map (λ table. get_or (records table) n []) tables

-- all tables have an entry with that number
abbrev Reach : List Table → ℕ → Type 0
Reach tables n = (dim : ℕ) → dim < length tables → n < length (get_or tables dim no_table).places

module _ (tables : List Table) (m k : ℕ) (one : Reach tables m) (other : Reach tables k) where
  -- entries at equal places are equal
  rows_told : places_at tables m ≡ places_at tables k → row tables m ≡ row tables k
  rows_told e = maps_agree (λ table. get_or (records table) m []) (λ table. get_or (records table) k []) tables tables no_table refl (λ dim within.
      let table = get_or tables dim no_table in
      in_shown table.rows table.places m (one dim within)
      ∙ ap (λ p. get_or table.rows p []) (map_place (λ (t : Table). get_or t.places m 0) (λ t. get_or t.places k 0) tables no_table dim within e)
      ∙ sym (in_shown table.rows table.places k (other dim within)))

  -- and equal entries stand at equal places
  places_told : ((dim : ℕ) → IsRight (get_or tables dim no_table)) → row tables m ≡ row tables k → places_at tables m ≡ places_at tables k
  places_told right e = maps_agree (λ (t : Table). get_or t.places m 0) (λ t. get_or t.places k 0) tables tables no_table refl (λ dim within.
      let table = get_or tables dim no_table in
      same_row table.rows (right dim).kept.once (get_or table.places m 0) (get_or table.places k 0) ((right dim).within m 0 (one dim within)) ((right dim).within k 0 (other dim within))
      (sym (in_shown table.rows table.places m (one dim within))
      ∙ map_place (λ table. get_or (records table) m []) (λ table. get_or (records table) k []) tables no_table dim within e
      ∙ in_shown table.rows table.places k (other dim within)))

-- ---- tables of entries

-- each table has fewer places than a bound
pub few_places : (entries : List Entry) (tables : List Table) (bound : ℕ) → map records tables ≡ columns entries → length entries < bound → (dim : ℕ) → length (get_or tables dim no_table).places < bound
few_places entries tables bound are few dim = elim (cases_lt dim (length tables)) [
  | inl inside ↦ (let size = long_places entries tables dim are inside in omega (arith, size, few))
  | inr past ↦ subst (λ (t : Table). length t.places < bound) (sym (get_or_past tables dim no_table past)) (omega (arith, few))
]

pub reach : (entries : List Entry) (tables : List Table) (n : ℕ) → map records tables ≡ columns entries → n < length entries → Reach tables n
reach entries tables n are within dim inside = let size = long_places entries tables dim are inside in omega (arith, size, within)

-- ---- one entry more

width_more : (entries : List Entry) (entry : Entry) → AreAsLong (entries ++ entry ∷ []) → length entry ≡ width (entries ++ entry ∷ [])
width_more entries entry equal =
    ap length (sym (get_or-append_seam entries entry [] [])) ∙ equal (length entries) [] (let size = length-append entries (entry ∷ []) in omega (arith, size))

-- the entries before it are none, or as wide
same_width : (entries : List Entry) (entry : Entry) → AreAsLong (entries ++ entry ∷ []) → (entries ≡ []) ⊎ (length entry ≡ width entries)
same_width [] entry equal = inl refl
same_width (first ∷ entries) entry equal = inr (width_more (first ∷ entries) entry equal)

no_wider : (entries : List Entry) (entry : Entry) (n : ℕ) → n ≡ width entries → (entries ≡ []) ⊎ (length entry ≡ width entries) → n ≤ length entry
no_wider entries entry n is (inl none) = let e : n ≡ 0 = is ∙ ap width none in omega (arith, e)
no_wider entries entry n is (inr same) = omega (arith, is, same)

pub within_entry : (entries : List Entry) (entry : Entry) (tables : List Table) → AreAsLong (entries ++ entry ∷ []) → map records tables ≡ columns entries → length tables ≤ length entry
within_entry entries entry tables equal are = no_wider entries entry (length tables) (columns_wide entries tables are) (same_width entries entry equal)

module _ (entries : List Entry) (entry : Entry) (old new : List Table) (equal : AreAsLong (entries ++ entry ∷ [])) (are : map records old ≡ columns entries) (adds : AddsEntry old new entry) where
  abbrev all : List Entry
  all = entries ++ entry ∷ []

  column_old : (dim : ℕ) → dim < length entry → records (get_or old dim no_table) ≡ column dim entries
  column_old dim inside = by (same_width entries entry equal)
    where
      by : (entries ≡ []) ⊎ (length entry ≡ width entries) → records (get_or old dim no_table) ≡ column dim entries
      by (inl none) =
          let wide = columns_wide entries old are ∙ ap width none in
          ap records (get_or_past old dim no_table (omega (arith, wide))) ∙ sym (ap (column dim) none)
      by (inr same) = columns_at entries old dim are (let wide = columns_wide entries old are in omega (arith, wide, same, inside))

  -- the tables are those of all entries
  pub grown_columns : map records new ≡ columns all
  grown_columns = sym (all_places (λ dim. column dim all) [] (map records new) (width all) (sym (length-map new records ∙ adds.as_many ∙ width_more entries entry equal)) each)
    where
      each : (dim : ℕ) → dim < length (map records new) → column dim all ≡ get_or (map records new) dim []
      each dim within =
          let inside : dim < length new = subst (λ n. dim < n) (length-map new records) within in
          let below : dim < length entry = subst (λ n. dim < n) adds.as_many inside in
          map-append (λ e. get_or e dim []) entries (entry ∷ [])
          ∙ ap (λ l. l ++ get_or entry dim [] ∷ []) (sym (column_old dim below))
          ∙ sym (adds.each dim below).records_grow
          ∙ sym (get_or-map records new dim no_table [] inside)

  long_all : length all ≡ length entries + 1
  long_all = length-append entries (entry ∷ [])

  long_old : (n : ℕ) → n < length entries → length old ≡ length entry
  long_old n within = by (same_width entries entry equal)
    where
      by : (entries ≡ []) ⊎ (length entry ≡ width entries) → length old ≡ length entry
      by (inl none) = absurd (let e : length entries ≡ 0 = ap length none in omega (arith, e, within))
      by (inr same) = columns_wide entries old are ∙ sym same

  -- of tables of the same width whose entries stand where they stood
  at_places : (tables : List Table) (n : ℕ) → n < length entries → length tables ≡ length entry → ((dim : ℕ) → dim < length entry → get_or (get_or tables dim no_table).places n 0 ≡ get_or (get_or old dim no_table).places n 0)
      → places_at tables n ≡ places_at old n
  at_places tables n within size same =
      maps_agree (λ (table : Table). get_or table.places n 0) (λ table. get_or table.places n 0) tables old no_table (size ∙ sym (long_old n within)) (λ dim inside. same dim (subst (λ k. dim < k) size inside))

  places_stay : (n : ℕ) → n < length entries → places_at new n ≡ places_at old n
  places_stay n within = at_places new n within adds.as_many each
    where
      each : (dim : ℕ) → dim < length entry → get_or (get_or new dim no_table).places n 0 ≡ get_or (get_or old dim no_table).places n 0
      each dim inside =
          let a = adds.each dim inside in
          let size = long_places entries old dim are (let same = long_old n within in omega (arith, same, inside)) in
          ap (λ ps. get_or ps n 0) a.places_grow ∙ get_or-append (get_or old dim no_table).places (a.place ∷ []) 0 n (omega (arith, size, within))

  -- the entry's key is that of an entry before it where it equals it
  pub last_row : row new (length entries) ≡ entry
  last_row = row_back all new equal grown_columns (length entries) (let size = long_all in omega (arith, size)) ∙ get_or-append_seam entries entry [] []

  row_before : (n : ℕ) → n < length entries → row new n ≡ get_or entries n []
  row_before n within = row_back all new equal grown_columns n (let size = long_all in omega (arith, size, within)) ∙ get_or-append entries (entry ∷ []) [] n within

  reach_new : (n : ℕ) → n ≤ length entries → Reach new n
  reach_new n within = reach all new n grown_columns (let size = long_all in omega (arith, size, within))

  pub reaches_last : Reach new (length entries)
  reaches_last = reach_new (length entries) (omega arith)

  module _ (keys : List (List ℕ)) (text : List ℕ) (keyed : AreKeys old keys (length entries)) (is : text ≡ key new (length entries)) where
    pub stands : has_text keys text ≡ true → In entries entry
    stands found =
        let at = has_text-stands keys text found in
        let within : at.0 < length entries = (let size = keyed.as_many in let inside = at.1 in omega (arith, size, inside)) in
        let same : places_at new at.0 ≡ places_at new (length entries) = places_stay at.0 within
        ∙ numbers_alone (places_at old at.0) (places_at new (length entries)) (sym (keyed.each at.0 within) ∙ at.2 ∙ is) in
        let one = sym (row_before at.0 within) ∙ rows_told new at.0 (length entries) (reach_new at.0 (omega (arith, within))) reaches_last same ∙ last_row in
        subst (In entries) one (in_get entries at.0 [] within)

    pub fresh : ((dim : ℕ) → IsRight (get_or new dim no_table)) → has_text keys text ≡ false → In entries entry → ⊥
    fresh right absent h =
        let at = in_index entries entry [] h in
        let within = at.1.0 in
        let same : places_at new at.0 ≡ places_at new (length entries) = places_told new at.0 (length entries) (reach_new at.0 (omega (arith, within))) reaches_last right (row_before at.0 within ∙ at.1.1 ∙ sym last_row) in
        true≢false (sym (stands-has_text keys text at.0 (let size = keyed.as_many in omega (arith, size, within))
        (keyed.each at.0 within ∙ ap numbers (sym (places_stay at.0 within) ∙ same) ∙ sym is)) ∙ absent)

    -- ---- the entry is new

    pub keys_more : (grown : List (List ℕ)) → grown ≡ keys ++ text ∷ [] → AreKeys new grown (length entries + 1)
    keys_more grown more = subst (λ ks. AreKeys new ks (length entries + 1)) (sym more) (record {
      as_many = length-append keys (text ∷ []) ∙ ap (λ n. n + 1) keyed.as_many;
      each = λ n below. each_pushed (λ k t. t ≡ key new k) keys text []
          (λ k inside. let within = subst (λ size. k < size) keyed.as_many inside in keyed.each k within ∙ ap numbers (sym (places_stay k within)))
          (is ∙ ap (key new) (sym keyed.as_many)) n (subst (λ size. n < size) (sym (length-append keys (text ∷ []) ∙ ap (λ k. k + 1) keyed.as_many)) below);
    })

    -- ---- the entry is taken back

    module _ (known : In entries entry) (back : List Table) (right : (dim : ℕ) → IsRight (get_or new dim no_table)) (long : length back ≡ length new) (less : (dim : ℕ) → IsWithoutLast (get_or new dim no_table) (get_or back dim no_table)) where
      same_long : length old ≡ length entry
      same_long = long_old (in_index entries entry [] known).0 (in_index entries entry [] known).1.0

      long_back : length back ≡ length entry
      long_back = long ∙ adds.as_many

      places_back : (dim : ℕ) → dim < length entry → (get_or back dim no_table).places ≡ (get_or old dim no_table).places
      places_back dim inside = (less dim).2 (get_or old dim no_table).places (adds.each dim inside).place (adds.each dim inside).places_grow

      -- what the last of the records is, and those before it
      cut : (dim : ℕ) (inside : dim < length entry) → (shown (get_or new dim no_table).rows (get_or old dim no_table).places ≡ records (get_or old dim no_table)) × (get_or (get_or new dim no_table).rows (adds.each dim inside).place [] ≡ get_or entry dim [])
      cut dim inside =
          let table = get_or new dim no_table in
          let a = adds.each dim inside in
          cut_last (shown table.rows (get_or old dim no_table).places) (records (get_or old dim no_table)) (get_or table.rows a.place []) (get_or entry dim [])
          (sym (map-append (λ place. get_or table.rows place []) (get_or old dim no_table).places (a.place ∷ [])) ∙ sym (ap (shown table.rows) a.places_grow) ∙ a.records_grow)

      records_back : (dim : ℕ) → dim < length entry → records (get_or back dim no_table) ≡ records (get_or old dim no_table)
      records_back dim inside = ap₂ shown (less dim).0 (places_back dim inside) ∙ (cut dim inside).0

      pub back_columns : map records back ≡ columns entries
      back_columns = maps_agree records records back old no_table (long_back ∙ sym same_long) (λ dim within. records_back dim (subst (λ n. dim < n) long_back within)) ∙ are

      right_back : (dim : ℕ) → dim < length entry → IsRight (get_or back dim no_table)
      right_back dim inside =
          let table = get_or new dim no_table in
          let places = (get_or old dim no_table).places in
          let a = adds.each dim inside in
          let there : In (shown table.rows places) (get_or table.rows a.place []) = subst (In (shown table.rows places)) (sym (cut dim inside).1)
          (subst (λ l. In l (get_or entry dim [])) (sym ((cut dim inside).0 ∙ column_old dim inside)) (map_in (λ e. get_or e dim []) entries entry known)) in
          let whole = taken_back table.rows table.firsts places a.place (subst (IsTable table.rows table.firsts) a.places_grow (right dim)) there in
          subst (λ r. IsTable r (get_or back dim no_table).firsts (get_or back dim no_table).places) (sym (less dim).0)
          (subst (λ f. IsTable table.rows f (get_or back dim no_table).places) (sym (less dim).1)
          (subst (IsTable table.rows table.firsts) (sym (places_back dim inside)) whole))

      pub back_right : (dim : ℕ) → IsRight (get_or back dim no_table)
      back_right dim = elim (cases_lt dim (length entry)) [
        | inl inside ↦ right_back dim inside
        | inr past ↦ subst IsRight (sym (get_or_past back dim no_table (let size = long_back in omega (arith, size, past)))) empty_right
      ]

      pub back_keys : AreKeys back keys (length entries)
      back_keys = record {
        as_many = keyed.as_many;
        each = λ n within. keyed.each n within ∙ ap numbers (sym (at_places back n within long_back (λ dim inside. ap (λ ps. get_or ps n 0) (places_back dim inside))));
      }

      pub back_tables : (spellings : List (List (List ℕ))) → AreTables new spellings → AreTables back spellings
      back_tables spellings tables = record {
        as_many = tables.as_many ∙ sym long;
        right = back_right;
        spelled = λ dim. subst (λ r. AreSpelled r (get_or spellings dim [])) (sym (less dim).0) (tables.spelled dim);
      }

-- ---- the first entries of a list

pub first_more : (entries : List Entry) (i : ℕ) (item copy : Entry) → i < length entries → item ≡ get_or entries i item → copy ≡ item → take i entries ++ copy ∷ [] ≡ take (i + 1) entries
first_more entries i item copy within is same = ap (λ e. take i entries ++ e ∷ []) (same ∙ is) ∙ sym (take_more entries i item within)

pub first_long : (entries : List Entry) (i : ℕ) (item copy : Entry) → AreAsLong entries → i < length entries → item ≡ get_or entries i item → copy ≡ item → AreAsLong (take i entries ++ copy ∷ [])
first_long entries i item copy equal within is same =
    let next : i + 1 ≡ suc i = omega arith in
    subst AreAsLong (sym (first_more entries i item copy within is same ∙ ap (λ n. take n entries) next)) (by entries equal)
  where
    by : (es : List Entry) → AreAsLong es → AreAsLong (take (suc i) es)
    by [] h = h
    by (x ∷ xs) h = All-take (λ e. length e ≡ length x) (suc i) (x ∷ xs) h
