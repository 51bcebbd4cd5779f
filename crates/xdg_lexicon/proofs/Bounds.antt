-- The limits of entries.
use Rattle.std.proofs.Common.{◌≡◌, ℕ, ◌-◌, ◌^◌, ◌<◌, ◌≤◌, List, [], length, get_or, map, Option, None, Some, Err, refl, sym, ap, ◌∙◌, subst, inr, arith}
use Rattle.std.proofs.lemmas.List.{length-map, get_or-map}
use Rattle.xdg_base.specs.declared.faults.Cause.TheVariants as causes
use Rattle.xdg_base.specs.declared.faults.Stop.{Stop}
use Rattle.xdg_base.specs.declared.faults.Stop.TheVariants as stops
use Rattle.xdg_names.specs.Texts.{place_of}
use Rattle.xdg_names.proofs.Texts.{place_of-Some, place_of-None}
use Rattle.xdg_types.specs.Table.{Table, IsTable}
use Rattle.xdg_packed.specs.Lexicon.{Lexicon, number, places_of, word_of}
use Rattle.xdg_packed.proofs.WordLists.{numbers_none}
use Rattle.xdg_packed.proofs.OfTable.{words_once}
use Rattle.xdg_facts.specs.Capped.{capped}
use Rattle.xdg_packed.specs.Entries.{IsWordPlace, count_of}
use Rattle.xdg_lexicon.specs.Growing.{IsFirstCrowded, count_at}
use Rattle.xdg_lexicon.specs.Lexicon.{AreFewEach, IsCrowded, reaching_most}
use Rattle.xdg_lexicon.specs.Steps.{KeepsLimits}

-- ---- entries of words

pub few_scanned : (lexicon : Lexicon) → ((n : ℕ) → n < length lexicon.entries → count_at lexicon n ≤ 1024) → (word : List ℕ) → count_of lexicon.dim lexicon.field lexicon.entries word ≤ 1024
few_scanned lexicon few word = by (place_of said word) refl
  where
    said : List (List ℕ)
    said = map (word_of lexicon.dim lexicon.field) lexicon.entries

    by : (found : Option ℕ) → place_of said word ≡ found → count_of lexicon.dim lexicon.field lexicon.entries word ≤ 1024
    by None e = (let none : length (places_of said word) ≡ 0 = sym (length-map (places_of said word) number) ∙ ap (λ l. length l) (numbers_none said word (place_of-None said word e)) in omega (arith, none))
    by (Some place) e =
        let at = place_of-Some said word place e in
        let within : place < length lexicon.entries = subst (λ n. place < n) (length-map lexicon.entries (word_of lexicon.dim lexicon.field)) at.0 in
        let is : word_of lexicon.dim lexicon.field (get_or lexicon.entries place []) ≡ word = sym (get_or-map (word_of lexicon.dim lexicon.field) lexicon.entries place [] [] within) ∙ at.1 in
        subst (λ w. count_of lexicon.dim lexicon.field lexicon.entries w ≤ 1024) is (few place within)

-- ---- the answer

pub few_each : (table : Table) (lexicon : Lexicon) → IsTable table → IsWordPlace table lexicon.dim lexicon.field → ((word : List ℕ) → count_of lexicon.dim lexicon.field lexicon.entries word ≤ 1024) → AreFewEach table lexicon.entries
few_each table lexicon is place few d f other word =
    let same = words_once table is lexicon.dim lexicon.field d f place other in
    subst (λ e. count_of e f lexicon.entries word ≤ 1024) same.0 (subst (λ g. count_of lexicon.dim g lexicon.entries word ≤ 1024) same.1 (few word))

pub crowded : (table : Table) (lexicon : Lexicon) (at reached : ℕ) (stop : Stop) → IsWordPlace table lexicon.dim lexicon.field → length lexicon.entries ≤ 65536 → IsFirstCrowded lexicon reached → reached < 2 ^ 64
    → stop ≡ stops.Fault (record { cause = causes.TooManyEntries; at = at; reached = reached }) → KeepsLimits table lexicon.entries at (Err stop)
crowded table lexicon at reached stop place few first fits is =
    let small : reached ≤ 2 ^ 64 - 1 = omega (arith, fits) in
    let whole : capped reached ≡ reached = omega (arith, small) in
    let same : record { cause = causes.TooManyEntries; at = at; reached = reached } ≡ reaching_most causes.TooManyEntries at reached = ap (λ n. record { cause = causes.TooManyEntries; at = at; reached = n }) (sym whole) in
    let here : IsCrowded table lexicon.entries reached = record { dim = lexicon.dim; field = lexicon.field; words = place; first = first.first; within = first.within; reached_is = first.reached_is; many = first.many; before = first.before } in
    subst (λ s. KeepsLimits table lexicon.entries at (Err s)) (sym is) (inr (few, (reached, (here, same))))
