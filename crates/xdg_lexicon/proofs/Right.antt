-- What is whole is an entry of the grammar.
use Rattle.std.proofs.Common.{◌≡◌, ℕ, zero, suc, ◌+◌, ◌<◌, ◌≤◌, List, [], ◌∷◌, ◌++◌, length, get_or, Option, None, Some, refl, sym, ap, ◌∙◌, subst, drop}
use Rattle.std.specs.Prelude.{slice_get}
use Rattle.std.proofs.lemmas.Option.{slice_get_read}
use Rattle.std.proofs.lemmas.List.{at_drop_more, drop_all, append_assoc, append-nil}
use Rattle.xdg_domain.specs.declared.types.Ty.{Ty}
use Rattle.xdg_domain.specs.declared.values.Value.TheVariants as v
use Rattle.xdg_domain.specs.Defaults.{record_of_defaults}
use Rattle.xdg_domain.specs.Shapes.{fields, Fields, field_then, shape, fields_of, names_of, AreTypes}
use Rattle.xdg_domain.specs.Valencies.{KeysRise}
use Rattle.xdg_domain.specs.Values.{IsIn}
use Rattle.xdg_domain.specs.Joined.{behind, fields_in}
use Rattle.xdg_packed.specs.Filled as filled
use Rattle.xdg_packed.specs.Filled.{filled_fields, fields_said, AreSaid}
use Rattle.xdg_packed.proofs.Laws.{record_said, filled_right}
use Rattle.xdg_types.specs.declared.table.DimType.{DimType}
use Rattle.xdg_types.specs.Table.{Table, IsTable, KeepsDim, typed, firsts}
use Rattle.xdg_packed.specs.Lexicon.{Record, Entry}
use Rattle.xdg_lexicon.specs.Partial.{Partial, IsPartial, IsRecord, said_of}
use Rattle.xdg_packed.specs.Entries.{IsWhole, IsEntry, record_type}
use Rattle.xdg_lexicon.specs.Lexicon.{whole_record, record_then, records_of, whole}
use Rattle.xdg_facts.proofs.Lists.{any_default}
use Rattle.xdg_facts.specs.Membership.{Differ}
use Rattle.xdg_types.proofs.Kept.{keeps_found, place_below, types_of}
use Rattle.xdg_facts.proofs.Options.{one_value}

-- ---- types

-- both ways to see the features are one
pub same_features : (fs : List (List ℕ × Ty)) → fields_in fs ≡ fields_of (typed fs)
same_features [] = refl
same_features (f ∷ fs) = ap (field_then f.0 (shape f.1)) (same_features fs)

names_are : (fs : List (List ℕ × Ty)) → names_of (fields_of (typed fs)) ≡ firsts fs
names_are [] = refl
names_are (f ∷ fs) = ap (λ l. f.0 ∷ l) (names_are fs)

-- ---- records

-- what is said of a dimension is right for its features
pub said_right : (fs : Fields) (m : Record) → IsRecord fs m → KeysRise 0 m × AreSaid 0 fs m
said_right fs m right =
    subst (λ l. KeysRise 0 (filled.fields_in l) × AreSaid 0 fs (filled.fields_in l)) (v.outs-Rec m)
    (record_said fs (Some (v.Rec m)) (subst (IsIn (fields fs)) (sym (v.outs-Rec m)) right))

record_is_whole : (dim : DimType) (m all : Record) → KeepsDim dim → IsRecord (fields_of (typed dim.fields)) m → filled_fields 0 (fields_of (typed dim.fields)) m ≡ Some all → IsWhole dim all
record_is_whole dim m all keeps right made =
    let fs = fields_of (typed dim.fields) in
    let inside : fields_said (Some (v.Rec m)) ≡ m = ap filled.fields_in (v.outs-Rec m) in
    filled_right (record_type dim) (subst Differ (sym (names_are dim.fields)) keeps.fields, types_of (typed dim.fields) keeps.features) (Some (v.Rec m)) (subst (IsIn (fields fs)) (sym (v.outs-Rec m)) right) (v.Rec all)
    (ap record_of_defaults (ap (filled_fields 0 fs) inside ∙ made))

-- ---- entries

record Taken (o : Option Record) (r : Option Entry) (entry : Entry) : Type 0 where
  head : Record
  rest : Entry
  one : o ≡ Some head
  more : r ≡ Some rest
  parts : entry ≡ head ∷ rest

taken : (o : Option Record) (r : Option Entry) (entry : Entry) → record_then o r ≡ Some entry → Taken o r entry
taken (Some m) (Some rest) entry e = (let same : m ∷ rest ≡ entry = cc in record { head = m; rest = rest; one = refl; more = refl; parts = sym same })
taken o r entry e = absurd (cc)

some_record : (d : Option DimType) (m all : Record) → whole_record d m ≡ Some all → (dim : DimType) × ((d ≡ Some dim) × (filled_fields 0 (fields_of (typed dim.fields)) m ≡ Some all))
some_record None m all e = absurd (cc)
some_record (Some dim) m all e = (dim, (refl, e))

pub size_of : (dims : List DimType) (p : Partial) (ks : List ℕ) (entry : Entry) → records_of dims p ks ≡ Some entry → length entry ≡ length ks
size_of dims p [] entry e = (let same : [] ≡ entry = cc in ap length (sym same))
size_of dims p (k ∷ ks) entry e =
    let t = taken (whole_record (slice_get dims k) (said_of p k)) (records_of dims p ks) entry e in
    ap length t.parts ∙ ap suc (size_of dims p ks t.rest t.more)

record_at : (dims : List DimType) (p : Partial) (ks : List ℕ) (entry : Entry) (d k : ℕ) → records_of dims p ks ≡ Some entry → slice_get ks d ≡ Some k → whole_record (slice_get dims k) (said_of p k) ≡ Some (get_or entry d [])
record_at dims p [] entry d k e at = absurd (cc)
record_at dims p (j ∷ ks) entry zero k e at =
    let t = taken (whole_record (slice_get dims j) (said_of p j)) (records_of dims p ks) entry e in
    let same : j ≡ k = cc in
    ap (λ i. whole_record (slice_get dims i) (said_of p i)) (sym same) ∙ t.one ∙ ap (λ (l : Entry). Some (get_or l 0 [])) (sym t.parts)
record_at dims p (j ∷ ks) entry (suc d) k e at =
    let t = taken (whole_record (slice_get dims j) (said_of p j)) (records_of dims p ks) entry e in
    record_at dims p ks t.rest d k t.more at ∙ ap (λ (l : Entry). Some (get_or l (suc d) [])) (sym t.parts)

-- what a partial entry comes to is an entry
pub whole_right : (table : Table) (p : Partial) (entry : Entry) → IsTable table → IsPartial table.dims p → whole table p ≡ Some entry → IsEntry table entry
whole_right table p entry is partial made = record {
  count = size_of table.dims p table.used entry made;
  each = λ d dim used.
      let at = record_at table.dims p table.used entry d used.0 made used.1.0 in
      let found = some_record (slice_get table.dims used.0) (said_of p used.0) (get_or entry d []) at in
      let same : found.0 ≡ dim = one_value (slice_get table.dims used.0) found.0 dim found.1.0 used.1.1 in
      let right = subst (λ fs. IsRecord fs (said_of p used.0)) (same_features dim.fields) (partial.each used.0 dim used.1.1) in
      record_is_whole dim (said_of p used.0) (get_or entry d []) (keeps_found table.dims used.0 dim used.1.1 is.dims) right
      (subst (λ (x : DimType). filled_fields 0 (fields_of (typed x.fields)) (said_of p used.0) ≡ Some (get_or entry d [])) same found.1.1);
}

-- ---- one record after the other

after_more : (made : Entry) (m : Record) (rest : Option Entry) → behind (made ++ m ∷ []) rest ≡ behind made (record_then (Some m) rest)
after_more made m None = refl
after_more made m (Some rest) = ap Some (append_assoc made (m ∷ []) rest)

none_then : (rest : Option Entry) → record_then None rest ≡ None
none_then None = refl
none_then (Some rest) = refl

-- what was made, and what the rest comes to
abbrev pub RecordsSoFar : Table → Partial → ℕ → Entry → Type 0
RecordsSoFar table p i made = behind made (records_of table.dims p (drop i table.used)) ≡ whole table p

module _ (table : Table) (p : Partial) where
  opened : (i k : ℕ) (made : Entry) → i < length table.used → k ≡ get_or table.used i k → RecordsSoFar table p i made → behind made (record_then (whole_record (slice_get table.dims k) (said_of p k)) (records_of table.dims p (drop (i + 1) table.used))) ≡ whole table p
  opened i k made within is so_far =
      ap (λ j. behind made (record_then (whole_record (slice_get table.dims j) (said_of p j)) (records_of table.dims p (drop (i + 1) table.used)))) is
      ∙ sym (at_drop_more (λ ks. behind made (records_of table.dims p ks)) table.used i k within)
      ∙ so_far

  pub records_further : (i k : ℕ) (made next : Entry) (m : Record) → i < length table.used → k ≡ get_or table.used i k → whole_record (slice_get table.dims k) (said_of p k) ≡ Some m → next ≡ made ++ m ∷ [] → RecordsSoFar table p i made → RecordsSoFar table p (i + 1) next
  records_further i k made next m within is has grown so_far =
      let rest = records_of table.dims p (drop (i + 1) table.used) in
      ap (λ l. behind l rest) grown ∙ after_more made m rest ∙ ap (λ o. behind made (record_then o rest)) (sym has) ∙ opened i k made within is so_far

  pub records_lacking : (i k : ℕ) (made : Entry) → i < length table.used → k ≡ get_or table.used i k → whole_record (slice_get table.dims k) (said_of p k) ≡ None → RecordsSoFar table p i made → None ≡ whole table p
  records_lacking i k made within is none so_far =
      let rest = records_of table.dims p (drop (i + 1) table.used) in
      sym (ap (behind made) (none_then rest)) ∙ ap (λ o. behind made (record_then o rest)) (sym none) ∙ opened i k made within is so_far

  pub records_done : (i : ℕ) (made : Entry) → length table.used ≤ i → RecordsSoFar table p i made → Some made ≡ whole table p
  records_done i made past so_far =
      ap Some (sym (append-nil made)) ∙ sym (ap (λ ks. behind made (records_of table.dims p ks)) (drop_all i table.used past)) ∙ so_far

-- ---- what is looked at

-- of the dimension at a place of the used ones: its features, and what is said of them
pub record Here (table : Table) (p : Partial) (i k : ℕ) (fs : List (List ℕ × Ty)) (said : Record) : Type 0 where
  pub inside : i < length table.used
  pub own : k ≡ get_or table.used i k
  pub types : AreTypes (fields_of (typed fs))
  pub right : KeysRise 0 said × AreSaid 0 (fields_of (typed fs)) said
  pub whole_is : whole_record (slice_get table.dims k) (said_of p k) ≡ filled_fields 0 (fields_of (typed fs)) said

module _ (table : Table) (p : Partial) (dims : List DimType) (used : List ℕ) (i : ℕ) (d : DimType) (m said : Record) (fs : List (List ℕ × Ty)) (is : IsTable table) (partial : IsPartial table.dims p) (same_dims : dims ≡ table.dims) (same_used : used ≡ table.used) (within : i < length used)
    (d_is : d ≡ get_or dims (get_or used i 0) d) (m_is : m ≡ get_or p (get_or used i 0) m) (said_is : said ≡ m) (fs_is : fs ≡ d.fields) where
  abbrev k : ℕ
  k = get_or used i 0

  within_used : i < length table.used
  within_used = subst (λ l. i < length l) same_used within

  at_used : k ≡ get_or table.used i k
  at_used = ap (λ l. get_or l i 0) same_used ∙ any_default table.used i 0 k within_used

  k_within : k < length table.dims
  k_within = place_below (length table.dims) table.used i k is.used within_used at_used

  dim_here : slice_get table.dims k ≡ Some d
  dim_here = slice_get_read table.dims (length table.dims) k d refl k_within (d_is ∙ ap (λ l. get_or l k d) same_dims)

  said_here : said ≡ said_of p k
  said_here = said_is ∙ m_is ∙ any_default p k m [] (subst (λ n. k < n) (sym partial.count) k_within)

  pub here : Here table p i k fs said
  here = record {
    inside = within_used;
    own = at_used;
    types = subst (λ l. AreTypes (fields_of (typed l))) (sym fs_is) (types_of (typed d.fields) (keeps_found table.dims k d dim_here is.dims).features);
    right =
        let right = subst (λ l. IsRecord l (said_of p k)) (same_features d.fields) (partial.each k d dim_here) in
        said_right (fields_of (typed fs)) said (subst (λ l. IsRecord (fields_of (typed l)) said) (sym fs_is) (subst (IsRecord (fields_of (typed d.fields))) (sym said_here) right));
    whole_is =
        ap (λ o. whole_record o (said_of p k)) dim_here
        ∙ ap (filled_fields 0 (fields_of (typed d.fields))) (sym said_here)
        ∙ ap (λ l. filled_fields 0 (fields_of (typed l)) said) (sym fs_is);
  }
