-- An entry is added to different entries, or stands there already.
use Rattle.std.proofs.Common.{◌≡◌, ℕ, ◌+◌, ◌-◌, ◌^◌, ◌<◌, ◌≤◌, Bool, true, false, not, if◌then◌else◌, List, [], ◌∷◌, ◌++◌, length, get_or, map, sym, ap, subst, ◌∙◌, arith}
use Rattle.std.proofs.lemmas.List.{length-append}
use Rattle.std.proofs.lemmas.List.FromFn.{length-map-range_with_len}
use Rattle.xdg_names.specs.Texts.{has_text}
use Rattle.xdg_packed.specs.Lexicon.{Entry, AreAsLong, columns, CountsRows}
use Rattle.xdg_packed.specs.Packing.{kept, AreKept}
use Rattle.xdg_packed.specs.Tables.{no_table, records, AreTables, AddsEntry, IsWithoutLast, key, AreKeys}
use Rattle.xdg_packed.specs.declared.entry_set.EntrySet.{EntrySet}
use Rattle.xdg_packed.specs.declared.table.Table.{Table}
use Rattle.xdg_packed.specs.declared.tables.Tables.{Tables}
use Rattle.xdg_packed.proofs.Adding.{within_entry, few_places, reaches_last, stands, fresh, keys_more, grown_columns, back_columns, back_tables, back_keys}
use Rattle.xdg_packed.proofs.Packs.{stands_already, goes_last}
use Rattle.xdg_packed.proofs.Unpacked.{unpacked_columns}
use Rattle.xdg_facts.specs.Membership.{In}

-- what is known of entries is known of those that are kept
pub as_kept : (entries : List Entry) (set : EntrySet) → set.count ≡ length entries → AreKept entries set → (kept set ≡ entries) × AreKept (kept set) set
as_kept entries set size right =
    let same = unpacked_columns entries set.tables.tables.items set.count right.equal right.tables_are size in
    (same, subst (λ es. AreKept es set) (sym same) right)

-- so many are kept
pub many : (set : EntrySet) → length (kept set) ≡ set.count
many set = length-map-range_with_len (λ n. map (λ table. get_or (records table) n []) set.tables.tables.items) 0 set.count

-- ---- an entry more

module _ (set : EntrySet) (entry : Entry) (right : AreKept (kept set) set) (equal : AreAsLong (kept set ++ entry ∷ [])) where
  abbrev old : List Table
  old = set.tables.tables.items

  pub room : length old ≤ length entry
  room = within_entry (kept set) entry old equal right.tables_are

  pub few : (bound : ℕ) → set.count < bound → (dim : ℕ) → length (get_or old dim no_table).places < bound
  few bound below = few_places (kept set) old bound right.tables_are (let size = many set in omega (arith, size, below))

  module _ (new : Tables) (adds : AddsEntry old new.tables.items entry) where
    pub reached : (dim : ℕ) → dim < length new.tables.items → set.count < length (get_or new.tables.items dim no_table).places
    reached dim inside =
        let last = reaches_last (kept set) entry old new.tables.items equal right.tables_are adds dim inside in
        let size = many set in
        omega (arith, last, size)

    -- its key was asked for
    module _ (spelled : AreTables new.tables.items new.spellings.items) (text : List ℕ) (is : text ≡ key new.tables.items set.count) (keys : List (List ℕ)) (added : Bool)
        (told : added ≡ not (has_text set.keys text)) (grown : keys ≡ (if added then set.keys ++ text ∷ [] else set.keys)) where
      key_is : text ≡ key new.tables.items (length (kept set))
      key_is = is ∙ ap (key new.tables.items) (sym (many set))

      -- it stood there, so the entry is taken back
      module _ (known : added ≡ false) (back : Tables) (long : length back.tables.items ≡ length new.tables.items)
          (less : (dim : ℕ) → IsWithoutLast (get_or new.tables.items dim no_table) (get_or back.tables.items dim no_table)) (same : back.spellings.items ≡ new.spellings.items) where
        abbrev set_back : EntrySet
        set_back = record { count = set.count; rows = set.rows; tables = back; keys = keys }

        there : In (kept set) entry
        there = stands (kept set) entry old new.tables.items equal right.tables_are adds set.keys text right.keyed key_is (stands_already set.keys keys text added told grown known).0

        columns_are : map records back.tables.items ≡ columns (kept set)
        columns_are = back_columns (kept set) entry old new.tables.items equal right.tables_are adds set.keys text right.keyed key_is there back.tables.items spelled.right long less

        pub back_kept : AreKept (kept set_back) set_back × (In (kept set) entry × (kept set_back ≡ kept set))
        back_kept =
            let whole = as_kept (kept set) set_back (sym (many set)) (record {
              equal = right.equal;
              few = right.few;
              tables_are = columns_are;
              spelled = subst (AreTables back.tables.items) (sym same)
                  (back_tables (kept set) entry old new.tables.items equal right.tables_are adds set.keys text right.keyed key_is there back.tables.items spelled.right long less new.spellings.items spelled);
              counted = subst (λ all. CountsRows all set.rows) (right.tables_are ∙ sym columns_are) right.counted;
              keyed = subst (λ ks. AreKeys back.tables.items ks (length (kept set))) (sym (stands_already set.keys keys text added told grown known).1)
                  (back_keys (kept set) entry old new.tables.items equal right.tables_are adds set.keys text right.keyed key_is there back.tables.items spelled.right long less);
            }) in
            (whole.1, (there, whole.0))

      -- it is new
      module _ (new_key : added ≡ true) (rows : ℕ) (counted : CountsRows (map records new.tables.items) rows) (below : set.count < 2 ^ 32 - 1) where
        abbrev set_more : EntrySet
        set_more = record { count = set.count + 1; rows = rows; tables = new; keys = keys }

        size : set.count + 1 ≡ length (kept set ++ entry ∷ [])
        size = ap (λ n. n + 1) (sym (many set)) ∙ sym (length-append (kept set) (entry ∷ []))

        absent : In (kept set) entry → ⊥
        absent = fresh (kept set) entry old new.tables.items equal right.tables_are adds set.keys text right.keyed key_is spelled.right (goes_last set.keys keys text added told grown new_key).0

        pub more_kept : AreKept (kept set_more) set_more × ((In (kept set) entry → ⊥) × (kept set_more ≡ kept set ++ entry ∷ []))
        more_kept =
            let more = as_kept (kept set ++ entry ∷ []) set_more size (record {
              equal = equal;
              few = let e = size in omega (arith, e, below);
              tables_are = grown_columns (kept set) entry old new.tables.items equal right.tables_are adds;
              spelled = spelled;
              counted = counted;
              keyed = subst (AreKeys new.tables.items keys) (sym (length-append (kept set) (entry ∷ [])))
                  (keys_more (kept set) entry old new.tables.items equal right.tables_are adds set.keys text right.keyed key_is keys (goes_last set.keys keys text added told grown new_key).1);
            }) in
            (more.1, (absent, more.0))
