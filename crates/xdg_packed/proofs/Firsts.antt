-- The first entry with each record of a dimension.
use Rattle.std.proofs.Common.{◌≡◌, ℕ, ◌<◌, ◌≤◌, List, [], ◌∷◌, ◌++◌, length, get_or, Some, sym, ap, subst, ◌∙◌, arith, All}
use Rattle.std.proofs.lemmas.List.{length-map, get_or-map}
use Rattle.std.proofs.lemmas.Option.{slice_get-get_or}
use Rattle.std.proofs.Math.ListN.{get_or-append}
use Rattle.std.proofs.Math.Seq.{get_or-append_seam}
use Rattle.xdg_packed.specs.Lexicon.{Record, Entry, Lexicon, column, IsFirstAlike}
use Rattle.xdg_packed.specs.Rows.{shown, AreFirsts, IsTable, IsFirst}
use Rattle.xdg_facts.proofs.In.{differ_once}
use Rattle.xdg_facts.proofs.Lists.{length_more, still}
use Rattle.xdg_facts.specs.Membership.{Differ}
use Rattle.xdg_facts.proofs.Each.{each_pushed}

-- ---- one entry more

pub firsts_known : (firsts places : List ℕ) (place : ℕ) → place < length firsts → AreFirsts firsts places → AreFirsts firsts (places ++ place ∷ [])
firsts_known firsts places place known are = record {
  have = λ row within. still places place row (get_or firsts row 0) (are.have row within);
  least = each_pushed (λ entry p. get_or firsts p 0 ≤ entry) places place 0 are.least (let at = are.have place known in let low = at.0 in omega (arith, low));
}

pub firsts_new : (firsts places : List ℕ) (place number : ℕ) → place ≡ length firsts → number ≡ length places → All (λ k. k < length firsts) places → AreFirsts firsts places → AreFirsts (firsts ++ number ∷ []) (places ++ place ∷ [])
firsts_new firsts places place number last next within are =
    let more = firsts ++ number ∷ [] in
    let grown = places ++ place ∷ [] in
    record {
      have = each_pushed (λ row first. (first < length grown) × (get_or grown first 0 ≡ row)) firsts number 0
          (λ row inside. still places place row (get_or firsts row 0) (are.have row inside))
          (let size = length_more places place in omega (arith, size, next), ap (λ k. get_or grown k 0) next ∙ get_or-append_seam places place [] 0 ∙ last);
      least = each_pushed (λ entry p. get_or more p 0 ≤ entry) places place 0
          (λ entry inside. subst (λ f. f ≤ entry) (sym (get_or-append firsts (number ∷ []) 0 (get_or places entry 0) (within entry 0 inside))) (are.least entry inside))
          (subst (λ f. f ≤ length places) (sym (ap (λ p. get_or more p 0) last ∙ get_or-append_seam firsts number [] 0 ∙ next)) (omega arith));
    }

-- ---- the whole

-- equal rows are one row
pub same_row : (rows : List Record) → Differ rows → (i j : ℕ) → i < length rows → j < length rows → get_or rows i [] ≡ get_or rows j [] → i ≡ j
same_row rows differ i j first second e = differ_once rows i j (get_or rows j []) differ (slice_get-get_or rows i [] first ∙ ap Some e) (slice_get-get_or rows j [] second)

pub in_shown : (rows : List Record) (places : List ℕ) (k : ℕ) → k < length places → get_or (shown rows places) k [] ≡ get_or rows (get_or places k 0) []
in_shown rows places k within = get_or-map (λ place. get_or rows place []) places k 0 [] within

pub long_shown : (rows : List Record) (places : List ℕ) → length (shown rows places) ≡ length places
long_shown rows places = length-map places (λ place. get_or rows place [])

-- a table has the first entry with a record
pub table_first : (rows : List Record) (firsts places : List ℕ) (at : ℕ) → IsTable rows firsts places → at < length places → IsFirst (shown rows places) at (get_or firsts (get_or places at 0) 0)
table_first rows firsts places at table within =
    let row = get_or places at 0 in
    let first = get_or firsts row 0 in
    let inside : row < length firsts = subst (λ n. row < n) (sym table.as_many) (table.within at 0 within) in
    let has = table.firsts_are.have row inside in
    let size = long_shown rows places in
    record {
      within = subst (λ n. first < n) (sym size) has.0;
      alike = in_shown rows places first has.0 ∙ ap (λ p. get_or rows p []) has.1 ∙ sym (in_shown rows places at within);
      least = λ other below same.
          let there : other < length places = subst (λ n. other < n) size below in
          let one : get_or places other 0 ≡ row = same_row rows table.kept.once (get_or places other 0) row (table.within other 0 there) (table.within at 0 within)
          (sym (in_shown rows places other there) ∙ same ∙ in_shown rows places at within) in
          subst (λ p. get_or firsts p 0 ≤ other) one (table.firsts_are.least other there);
    }

-- ---- a dimension of a lexicon

pub in_column : (entries : List Entry) (n dim : ℕ) → n < length entries → get_or (column dim entries) n [] ≡ get_or (get_or entries n []) dim []
in_column entries n dim within = get_or-map (λ e. get_or e dim []) entries n [] [] within

pub column_first : (lexicon : Lexicon) (dim number first : ℕ) → number < length lexicon.entries → IsFirst (column dim lexicon.entries) number first → (first < length lexicon.entries) × IsFirstAlike lexicon dim number first
column_first lexicon dim number first within is =
    let entries = lexicon.entries in
    let size : length (column dim entries) ≡ length entries = length-map entries (λ e. get_or e dim []) in
    let below : first < length entries = subst (λ n. first < n) size is.within in (
      below,
      record {
        alike = sym (in_column entries first dim below) ∙ is.alike ∙ in_column entries number dim within;
        least = λ other inside same. is.least other (subst (λ n. other < n) (sym size) inside) (in_column entries other dim inside ∙ same ∙ sym (in_column entries number dim within));
      },
    )
