-- The lines of the lexicon, put one after the other.
use Rattle.std.proofs.Common.{◌≡◌, ℕ, ◌<◌, ◌≤◌, ◌+◌, List, [], ◌∷◌, length, get_or, slice_get, drop, Option, Some, None, refl, sym, ap, ap₂, ◌∙◌, subst, arith}
use Rattle.std.specs.Prelude.{IfSome}
use Rattle.std.proofs.lemmas.List.{drop_all}
use Rattle.std.proofs.lemmas.Option.{slice_get_read, slice_get-get_or, slice_get_within}
use Rattle.xdg_domain.specs.Shapes.{fields, fields_of, AreTypes}
use Rattle.xdg_domain.specs.Values.{EachSaid, IsFieldOf, IsIn}
use Rattle.xdg_domain.specs.declared.values.Value.{out-Value}
use Rattle.xdg_domain.specs.declared.values.Value.TheVariants as v
use Rattle.xdg_types.specs.declared.table.DimType.{DimType}
use Rattle.xdg_types.specs.Table.{Table, typed, KeepDims, ArePlaces, IsTable}
use Rattle.xdg_packed.specs.Lexicon.{Record, Entry}
use Rattle.xdg_packed.specs.Entries.{IsEntry, TellsWordPlace}
use Rattle.xdg_print.specs.declared.printer.Printer.{Printer}
use Rattle.xdg_print.specs.Printed.{put_lines}
use Rattle.xdg_types.proofs.Kept.{keeps_at, place_below, types_of}
use Rattle.xdg_print.proofs.Put.{start, put_lines_append, text_of_lines}
use Rattle.xdg_print.specs.LexiconText.{dim_line, dim_line_at, dim_lines, entries_line, entry_lines, entries_lines, lexicon_lines, lexicon_text}
use Rattle.xdg_print.specs.WordPlaces.{place_of_word}
use Rattle.xdg_facts.proofs.Lists.{from_place, any_default}

-- ---- words

-- the place of the words stands in each entry
pub place_within : (table : Table) (place : Option (ℕ × ℕ)) → TellsWordPlace table place → IfSome place (λ at. at.0 < length table.used)
place_within table None h = tt
place_within table (Some at) h = slice_get_within table.used at.0 h.used.0 h.used.1.0

-- ---- dimensions

-- the place of a used dimension is one of a dimension
pub used_below : (table : Table) (dims : List DimType) (used : List ℕ) (i : ℕ) → IsTable table → dims ≡ table.dims → used ≡ table.used → i < length used → get_or used i 0 < length dims
used_below table dims used i h same lent within =
    let places = subst (λ n. ArePlaces n used) (ap length (sym same)) (subst (ArePlaces (length table.dims)) (sym lent) h.used) in
    place_below (length dims) used i (get_or used i 0) places within (any_default used i 0 (get_or used i 0) within)

-- the features of a used dimension have types
pub dim_types : (table : Table) (dims : List DimType) (k : ℕ) (dim : DimType) → IsTable table → dims ≡ table.dims → k < length dims → dim ≡ get_or dims k dim → AreTypes (fields_of (typed dim.fields))
dim_types table dims k dim h same within is = types_of (typed dim.fields) (keeps_at dims k dim (subst KeepDims (sym same) h.dims) within is).features

-- and the record of an entry says values of them
pub dim_said : (table : Table) (dims : List DimType) (used : List ℕ) (entry : Entry) (i : ℕ) (dim : DimType) (m : Record) → IsEntry table entry → dims ≡ table.dims → used ≡ table.used → i < length used → get_or used i 0 < length dims
    → dim ≡ get_or dims (get_or used i 0) dim → m ≡ get_or entry i [] → EachSaid (IsFieldOf (fields_of (typed dim.fields))) m
dim_said table dims used entry i dim m h same lent within below is at =
    let place : slice_get table.used i ≡ Some (get_or used i 0) = ap (λ us. slice_get us i) (sym lent) ∙ slice_get-get_or used i 0 within in
    let stands : slice_get table.dims (get_or used i 0) ≡ Some dim = ap (λ ds. slice_get ds (get_or used i 0)) (sym same) ∙ slice_get_read dims (length dims) (get_or used i 0) dim refl below is in
    (subst (IsIn (fields (fields_of (typed dim.fields)))) (ap (λ x. out-Value (v.Rec x)) (sym at) ∙ v.outs-Rec m) (h.each i dim (get_or used i 0, (place, stands))).0).1

pub as_many : (table : Table) (used : List ℕ) (entry : Entry) (i : ℕ) → IsEntry table entry → used ≡ table.used → i < length used → i < length entry
as_many table used entry i h lent within =
    let a = h.count in
    let b = ap length lent in omega (arith, a, b, within)

-- the line of the used dimension at a place was added
pub next_dim : (dims : List DimType) (used : List ℕ) (records : Entry) (i : ℕ) (dim : DimType) (m : Record) (p q end : Printer) → i < length used → get_or used i 0 < length dims → dim ≡ get_or dims (get_or used i 0) dim
    → i < length records → m ≡ get_or records i [] → q ≡ put_lines (dim_line dim m ∷ []) p → put_lines (dim_lines dims (drop i used) (drop i records)) p ≡ end → put_lines (dim_lines dims (drop (i + 1) used) (drop (i + 1) records)) q ≡ end
unfolding dim_lines
next_dim dims used records i dim m p q end within below is there at added before =
    let k = get_or used i 0 in
    let stands : slice_get dims k ≡ Some dim = slice_get_read dims (length dims) k dim refl below is in
    let later = dim_lines dims (drop (i + 1) used) (drop (i + 1) records) in
    ap (put_lines later) (added ∙ ap (λ o. put_lines (dim_line_at o m) p) (sym stands))
    ∙ sym (put_lines_append (dim_line_at (slice_get dims k) m) later p)
    ∙ ap₂ (λ us ms. put_lines (dim_lines dims us ms) p) (sym (from_place used i k within (any_default used i 0 k within))) (sym (from_place records i m there (at ∙ any_default records i [] m there)))
    ∙ before

pub all_dims : (dims : List DimType) (used : List ℕ) (records : List Record) (i : ℕ) (p end : Printer) → length used ≤ i → put_lines (dim_lines dims (drop i used) (drop i records)) p ≡ end → p ≡ end
unfolding dim_lines
all_dims dims used records i p end past before = ap (λ us. put_lines (dim_lines dims us (drop i records)) p) (sym (drop_all i used past)) ∙ before

-- ---- entries

-- the lines of the entry at a place were added
pub next_entry : {q end : Printer} (p : Printer) (table : Table) (place : Option (ℕ × ℕ)) (entries : List Entry) (i : ℕ) (entry : Entry) → i < length entries → entry ≡ get_or entries i []
    → put_lines (entries_lines table place (i + 1) (drop i entries)) p ≡ end → q ≡ put_lines (entry_lines table place (i + 1) entry) p → put_lines (entries_lines table place (i + 1 + 1) (drop (i + 1) entries)) q ≡ end
unfolding entries_lines
next_entry {q} {end} p table place entries i entry within is before added =
    ap (put_lines (entries_lines table place (i + 1 + 1) (drop (i + 1) entries))) added ∙ sym (put_lines_append (entry_lines table place (i + 1) entry) (entries_lines table place (i + 1 + 1) (drop (i + 1) entries)) p)
    ∙ ap (λ z. put_lines (entries_lines table place (i + 1) z) p) (sym (from_place entries i entry within (is ∙ any_default entries i [] entry within))) ∙ before

-- where no entry is left, all were added
pub all_entries : {end : Printer} (p : Printer) (table : Table) (place : Option (ℕ × ℕ)) (entries : List Entry) (i : ℕ) → length entries ≤ i → put_lines (entries_lines table place (i + 1) (drop i entries)) p ≡ end → p ≡ end
unfolding entries_lines
all_entries p table place entries i beyond before = ap (λ z. put_lines (entries_lines table place (i + 1) z) p) (sym (drop_all i entries beyond)) ∙ before

-- the lines of all entries and the last line are the text
pub all_listed : (table : Table) (entries : List Entry) (place : Option (ℕ × ℕ)) (count : ℕ) (p listed q : Printer) → place ≡ place_of_word table → count ≡ length entries → p ≡ start → listed ≡ put_lines (entries_lines table place 1 entries) p
    → q ≡ put_lines (entries_line count ∷ []) listed → q.text ≡ lexicon_text table entries
unfolding lexicon_text
all_listed table entries place count p listed q same counted none all last =
    let first = entries_lines table (place_of_word table) 1 entries in
    ap (λ z. z.text) (last ∙ ap₂ (λ n z. put_lines (entries_line n ∷ []) z) counted (all ∙ ap₂ (λ o z. put_lines (entries_lines table o 1 entries) z) same none)
    ∙ sym (put_lines_append first (entries_line (length entries) ∷ []) start))
    ∙ text_of_lines (lexicon_lines table entries) start
