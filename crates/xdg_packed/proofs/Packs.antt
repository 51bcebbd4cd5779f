-- The different records of a dimension, while further ones are added, and one that was added is taken back.
use Rattle.std.proofs.Common.{◌≡◌, ℕ, ◌+◌, ◌<◌, ◌≤◌, List, [], ◌∷◌, ◌++◌, ◌⊎◌, length, get_or, map, Bool, true, false, not, if◌then◌else◌, refl, sym, ap, ap₂, inl, inr, subst, ◌∙◌, arith, Some, None, All}
use Rattle.std.specs.Prelude.{◌↔◌}
use Rattle.std.proofs.lemmas.Bool.{not-false, not-true}
use Rattle.std.proofs.lemmas.List.{map-append, length-map, get_or-map}
use Rattle.std.proofs.lemmas.List.Elements.{All-push, All-tail, All-head, All-weaker}
use Rattle.std.proofs.Math.ListN.{get_or-append}
use Rattle.std.proofs.Math.Seq.{get_or-append_seam}
use Rattle.xdg_names.specs.Texts.{has_text, place_of}
use Rattle.xdg_names.proofs.Texts.{place_of-Some, place_of-None, differ_more}
use Rattle.xdg_packed.specs.Lexicon.{Record, KeepsEachOnce}
use Rattle.xdg_packed.specs.Rows.{shown, IsTable, AddsFirst, AreSpelled, IsKnownRow, IsNewRow}
use Rattle.xdg_packed.specs.Spelling.{spelling_of_fields}
use Rattle.xdg_packed.proofs.Firsts.{firsts_known, firsts_new, same_row as same_place, in_shown, long_shown}
use Rattle.xdg_packed.proofs.Prefixes.{fields_told}
use Rattle.xdg_facts.proofs.In.{in_append, in_left, in_right, in_get, in_index, map_in}
use Rattle.xdg_facts.proofs.Lists.{all_before, any_default, length_more}
use Rattle.xdg_facts.specs.Membership.{Differ, In}
use Rattle.xdg_facts.proofs.Counted.{no_more}

-- ---- different records

-- where the spellings differ, the records do
rows_differ : (rows : List Record) → Differ (map spelling_of_fields rows) → Differ rows
rows_differ [] differ = tt
rows_differ (first ∷ rows) differ =
    (λ h. differ.0 (map_in spelling_of_fields rows first h), rows_differ rows differ.1)

-- ---- one record

pub known_row : (rows : List Record) (spellings : List (List ℕ)) (fields : Record) (spelled : List ℕ) (place : ℕ) → AreSpelled rows spellings → spelled ≡ spelling_of_fields fields
    → place_of spellings spelled ≡ Some place → IsKnownRow rows spellings rows spellings fields place
known_row rows spellings fields spelled place are is found =
    let at = place_of-Some spellings spelled place found in
    let size : length spellings ≡ length rows = ap length (sym are.spelled) ∙ length-map rows spelling_of_fields in
    let within : place < length rows = omega (arith, at.0, size) in
    record {
      rows_stay = refl;
      spellings_stay = refl;
      within = within;
      stands = fields_told (get_or rows place []) fields
          (sym (get_or-map spelling_of_fields rows place [] [] within) ∙ ap (λ ts. get_or ts place []) are.spelled ∙ at.1 ∙ is);
    }

pub new_row : (rows more : List Record) (spellings more_spellings : List (List ℕ)) (fields : Record) (spelled : List ℕ) (place : ℕ) → spelled ≡ spelling_of_fields fields
    → place_of spellings spelled ≡ None → more ≡ rows ++ fields ∷ [] → more_spellings ≡ spellings ++ spelled ∷ [] → place ≡ length rows → IsNewRow rows spellings more more_spellings fields place
new_row rows more spellings more_spellings fields spelled place is none grown spelled_grown last = record {
  fresh = ap (has_text spellings) (sym is) ∙ place_of-None spellings spelled none;
  rows_grow = grown;
  spellings_grow = spelled_grown ∙ ap (λ t. spellings ++ t ∷ []) is;
  last = last;
}

-- the record is compared with the row at a place
pub compared : (rows : List Record) (place : ℕ) (own held given fields : Record) (same : Bool) → place < length rows → own ≡ get_or rows place held → given ≡ fields
    → ((same ≡ true) ↔ (own ≡ given)) → (same ≡ true) ↔ ((place < length rows) × (get_or rows place [] ≡ fields))
compared rows place own held given fields same within is lent told =
    let row : get_or rows place [] ≡ own = any_default rows place [] held within ∙ sym is in
    (λ h. (within, row ∙ told.0 h ∙ lent), λ h. told.1 (sym row ∙ h.1 ∙ sym lent))

-- it is the row at that place
pub same_row : (rows seen : List Record) (spellings : List (List ℕ)) (fields : Record) (place : ℕ) (same : Bool) → seen ≡ rows
    → ((same ≡ true) ↔ ((place < length seen) × (get_or seen place [] ≡ fields))) → same ≡ true → IsKnownRow rows spellings rows spellings fields place
same_row rows seen spellings fields place same is told holds =
    let stands = subst (λ r. (place < length r) × (get_or r place [] ≡ fields)) is (told.0 holds) in
    record { rows_stay = refl; spellings_stay = refl; within = stands.0; stands = stands.1 }

-- ---- one record more

-- no more rows than entries
pub rows_few : (rows : List Record) (firsts places : List ℕ) → IsTable rows firsts places → length rows ≤ length places
rows_few rows firsts places table =
    let few = no_more rows (shown rows places) table.kept.once table.kept.only in
    let size = long_shown rows places in
    omega (arith, few, size)

shown_more : (rows more : List Record) (places : List ℕ) → All (λ place. place < length rows) places → shown (rows ++ more) places ≡ shown rows places
shown_more rows more [] within = refl
shown_more rows more (place ∷ places) within =
    ap₂ (λ x xs. x ∷ xs) (get_or-append rows more [] place (All-head (λ k. k < length rows) place places within)) (shown_more rows more places (All-tail (λ k. k < length rows) place places within))

shown_stands : (rows : List Record) (places : List ℕ) → All (λ place. place < length rows) places → (x : Record) → In (shown rows places) x → In rows x
shown_stands rows [] within x h = absurd h
shown_stands rows (place ∷ places) within x (inl e) = subst (In rows) e (in_get rows place [] (All-head (λ k. k < length rows) place places within))
shown_stands rows (place ∷ places) within x (inr h) = shown_stands rows places (All-tail (λ k. k < length rows) place places within) x h

-- what is known of a table to which a record was added
pub record Added (done rows : List Record) (spellings : List (List ℕ)) (firsts places : List ℕ) : Type 0 where
  pub right : IsTable rows firsts places
  pub spelled : AreSpelled rows spellings
  pub shows : shown rows places ≡ done

-- the different records, of which each entry has one
stands_once : (rows : List Record) (done : List Record) (spellings : List (List ℕ)) (places : List ℕ) → AreSpelled rows spellings → All (λ place. place < length rows) places → shown rows places ≡ done → ((x : Record) → In rows x → In done x)
    → KeepsEachOnce (shown rows places) rows
stands_once rows done spellings places spelled within shows used = record {
  once = rows_differ rows (subst Differ (sym spelled.spelled) spelled.differ);
  each = shown_stands rows places within;
  only = λ x h. subst (λ xs. In xs x) (sym shows) (used x h);
}

added_known : (rows : List Record) (spellings : List (List ℕ)) (firsts places : List ℕ) (fields : Record) (place : ℕ) → IsTable rows firsts places → AreSpelled rows spellings → place < length rows → get_or rows place [] ≡ fields
    → Added (shown rows places ++ fields ∷ []) rows spellings firsts (places ++ place ∷ [])
added_known rows spellings firsts places fields place table spelled inside stands =
    let within = All-push (λ k. k < length rows) places place table.within inside in
    let shows : shown rows (places ++ place ∷ []) ≡ shown rows places ++ fields ∷ [] = map-append (λ k. get_or rows k []) places (place ∷ []) ∙ ap (λ x. shown rows places ++ x ∷ []) stands in
    record {
      right = record {
        within = within;
        kept = stands_once rows (shown rows places ++ fields ∷ []) spellings (places ++ place ∷ []) spelled within shows (λ x h. in_left (shown rows places) (fields ∷ []) x (table.kept.only x h));
        as_many = table.as_many;
        firsts_are = firsts_known firsts places place (subst (λ n. place < n) (sym table.as_many) inside) table.firsts_are;
      };
      spelled = spelled;
      shows = shows;
    }

added_new : (rows : List Record) (spellings : List (List ℕ)) (firsts places : List ℕ) (fields : Record) (place number : ℕ) → IsTable rows firsts places → AreSpelled rows spellings → has_text spellings (spelling_of_fields fields) ≡ false
    → place ≡ length rows → number ≡ length places → Added (shown rows places ++ fields ∷ []) (rows ++ fields ∷ []) (spellings ++ spelling_of_fields fields ∷ []) (firsts ++ number ∷ []) (places ++ place ∷ [])
added_new rows spellings firsts places fields place number table spelled fresh last next =
    let more = rows ++ fields ∷ [] in
    let size = length_more rows fields in
    let grown : AreSpelled more (spellings ++ spelling_of_fields fields ∷ []) = record {
      spelled = map-append spelling_of_fields rows (fields ∷ []) ∙ ap (λ ts. ts ++ spelling_of_fields fields ∷ []) spelled.spelled;
      differ = differ_more spellings (spelling_of_fields fields) spelled.differ fresh;
    } in
    let within = All-push (λ k. k < length more) places place
    (All-weaker (λ k. k < length rows) (λ k. k < length more) (λ k h. omega (arith, size, h)) places table.within)
    (omega (arith, size, last)) in
    let shows : shown more (places ++ place ∷ []) ≡ shown rows places ++ fields ∷ [] = map-append (λ k. get_or more k []) places (place ∷ [])
    ∙ ap₂ (λ xs x. xs ++ x ∷ []) (shown_more rows (fields ∷ []) places table.within) (ap (λ k. get_or more k []) last ∙ get_or-append_seam rows fields [] []) in
    record {
      right = record {
        within = within;
        kept = stands_once more (shown rows places ++ fields ∷ []) (spellings ++ spelling_of_fields fields ∷ []) (places ++ place ∷ []) grown within shows (λ x h. by x (in_append rows (fields ∷ []) x h));
        as_many = let added = length_more firsts number in let same = table.as_many in omega (arith, size, added, same);
        firsts_are = firsts_new firsts places place number (last ∙ sym table.as_many) next (subst (λ n. All (λ k. k < n) places) (sym table.as_many) table.within) table.firsts_are;
      };
      spelled = grown;
      shows = shows;
    }
  where
    by : (x : Record) → In rows x ⊎ In (fields ∷ []) x → In (shown rows places ++ fields ∷ []) x
    by x (inl h) = in_left (shown rows places) (fields ∷ []) x (table.kept.only x h)
    by x (inr h) = in_right (shown rows places) (fields ∷ []) x h

-- what the code pushes
pub pushed : (rows more : List Record) (spellings more_spellings : List (List ℕ)) (firsts more_firsts places grown : List ℕ) (fields : Record) (place number : ℕ) → IsTable rows firsts places → AreSpelled rows spellings
    → IsKnownRow rows spellings more more_spellings fields place ⊎ IsNewRow rows spellings more more_spellings fields place → AddsFirst firsts more_firsts place number → number ≡ length places → grown ≡ places ++ place ∷ []
    → Added (shown rows places ++ fields ∷ []) more more_spellings more_firsts grown
pushed rows more spellings more_spellings firsts more_firsts places grown fields place number table spelled (inl k) adds next is =
    let stay : more_firsts ≡ firsts = adds.known (subst (λ n. place < n) (sym table.as_many) k.within) in
    rw (k.rows_stay, k.spellings_stay, stay, is) (added_known rows spellings firsts places fields place table spelled k.within k.stands)
pushed rows more spellings more_spellings firsts more_firsts places grown fields place number table spelled (inr n) adds next is =
    let last = n.last in
    let same = table.as_many in
    let grow : more_firsts ≡ firsts ++ number ∷ [] = adds.fresh (omega (arith, last, same)) in
    rw (n.rows_grow, n.spellings_grow, grow, is) (added_new rows spellings firsts places fields place number table spelled n.fresh n.last next)

-- ---- one record less

-- a table without its last entry, whose record another entry has
pub taken_back : (rows : List Record) (firsts before : List ℕ) (place : ℕ) → IsTable rows firsts (before ++ place ∷ []) → In (shown rows before) (get_or rows place []) → IsTable rows firsts before
taken_back rows firsts before place table known = record {
  within = within;
  kept = record {
    once = table.kept.once;
    each = shown_stands rows before within;
    only = λ x h. still x (in_append (shown rows before) (get_or rows place [] ∷ []) x (subst (λ xs. In xs x) (map-append (λ k. get_or rows k []) before (place ∷ [])) (table.kept.only x h)));
  };
  as_many = table.as_many;
  firsts_are = record {
    have = λ row inside.
        let has = table.firsts_are.have row inside in
        let below = early row (subst (λ n. row < n) table.as_many inside) in
        (below, sym (get_or-append before (place ∷ []) 0 (get_or firsts row 0) below) ∙ has.1);
    least = λ entry inside. subst (λ p. get_or firsts p 0 ≤ entry) (get_or-append before (place ∷ []) 0 entry inside) (table.firsts_are.least entry (omega (arith, inside, length_more before place)));
  };
}
  where
    within : All (λ k. k < length rows) before
    within = all_before (λ k. k < length rows) before (place ∷ []) table.within

    still : (x : Record) → In (shown rows before) x ⊎ In (get_or rows place [] ∷ []) x → In (shown rows before) x
    still x (inl h) = h
    still x (inr (inl e)) = subst (In (shown rows before)) e known
    still x (inr (inr h)) = absurd h

    -- the first entry of a row is before the last
    early : (row : ℕ) → row < length rows → get_or firsts row 0 < length before
    early row inside =
        let x = get_or rows row [] in
        let found = in_index (shown rows before) x [] (still x (in_append (shown rows before) (get_or rows place [] ∷ []) x
        (subst (λ xs. In xs x) (map-append (λ k. get_or rows k []) before (place ∷ [])) (table.kept.only x (in_get rows row [] inside))))) in
        let at : found.0 < length before = (let size = long_shown rows before in let h = found.1.0 in omega (arith, size, h)) in
        let one : get_or before found.0 0 ≡ row = same_place rows table.kept.once (get_or before found.0 0) row (within found.0 0 at) inside (sym (in_shown rows before found.0 at) ∙ found.1.1) in
        let low = subst (λ p. get_or firsts p 0 ≤ found.0) (get_or-append before (place ∷ []) 0 found.0 at ∙ one) (table.firsts_are.least found.0 (omega (arith, at, length_more before place))) in
        omega (arith, low, at)

-- a text that is asked for stands there, or is added last
module _ (texts more : List (List ℕ)) (t : List ℕ) (added : Bool) (told : added ≡ not (has_text texts t)) (is : more ≡ (if added then texts ++ t ∷ [] else texts)) where
  pub stands_already : added ≡ false → (has_text texts t ≡ true) × (more ≡ texts)
  stands_already known = (not-false (has_text texts t) (sym told ∙ known), is ∙ ap (λ b. if b then texts ++ t ∷ [] else texts) known)

  pub goes_last : added ≡ true → (has_text texts t ≡ false) × (more ≡ texts ++ t ∷ [])
  goes_last new = (not-true (has_text texts t) (sym told ∙ new), is ∙ ap (λ b. if b then texts ++ t ∷ [] else texts) new)

-- a spelling that has no place is added
pub added_last : (spellings more : List (List ℕ)) (t : List ℕ) (added : Bool) → place_of spellings t ≡ None → added ≡ not (has_text spellings t) → more ≡ (if added then spellings ++ t ∷ [] else spellings) → more ≡ spellings ++ t ∷ []
added_last spellings more t added none is e = (goes_last spellings more t added is e (is ∙ ap not (place_of-None spellings t none))).1
