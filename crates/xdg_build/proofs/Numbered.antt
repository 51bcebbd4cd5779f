-- The numbers of a word's entries.
use Rattle.std.proofs.Common.{◌≡◌, ℕ, ◌<◌, ◌≤◌, Bool, true, List, [], length, get_or, map, sym, ap, ◌∙◌, subst, arith, All}
use Rattle.std.specs.Prelude.{Contains, bytes_eq}
use Rattle.std.specs.List.{AllPairs, range_with_len}
use Rattle.std.proofs.lemmas.List.{get_or-map, length-map}
use Rattle.std.proofs.lemmas.List.Elements.{All-contains, All-filter, All-from_get_or, All-map, filter_passes}
use Rattle.std.proofs.lemmas.List.FromFn.{length-range_with_len, get_or-range_with_len}
use Rattle.std.proofs.lemmas.List.Kept.{AllPairs-from_increasing}
use Rattle.std.proofs.lemmas.Slice.Eq.{bytes_eq-Decides}
use Rattle.xdg_base.specs.declared.ids.EntryNo.{EntryNo}
use Rattle.xdg_packed.specs.Lexicon.{number, places_of, numbers_of}
use Rattle.xdg_problem.specs.Problems.{AreCandidates}
use Rattle.xdg_facts.specs.Rises.{numbers_below}
use Rattle.xdg_facts.proofs.Contained.{contains_map}
use Rattle.xdg_facts.proofs.Rising.{contains_of_has, has_between}
use Rattle.xdg_facts.proofs.Merging.{numbers_increase}

-- a number stands among numbers of entries
contains_numbers : (xs : List ℕ) (entry : EntryNo) → Contains (map number xs) entry → Contains xs entry.0
contains_numbers xs entry h =
    let within : h.0 < length xs = subst (λ n. h.0 < n) (length-map xs number) h.1 in
    (h.0, within, ap (λ (n : EntryNo). n.0) (sym (get_or-map number xs h.0 entry.0 entry within) ∙ h.2))

below_count : (count : ℕ) → All (λ n. n < count) (range_with_len 0 count)
below_count count = All-from_get_or (λ n. n < count) (range_with_len 0 count) 0 (λ i h.
    let inside : i < count = omega (arith, h, length-range_with_len 0 count) in
    omega (arith, get_or-range_with_len 0 count i 0 inside, inside))

pub rising_numbers : (xs : List ℕ) → AllPairs (λ (a b : ℕ). a < b) xs → AllPairs (λ (a b : EntryNo). a.0 < b.0) (map number xs)
rising_numbers xs rise i j d before within =
    let inside : j < length xs = subst (λ n. j < n) (length-map xs number) within in
    let here : get_or (map number xs) i d ≡ number (get_or xs i d.0) = get_or-map number xs i d.0 d (omega (arith, before, inside)) in
    let next : get_or (map number xs) j d ≡ number (get_or xs j d.0) = get_or-map number xs j d.0 d inside in
    let rises : get_or xs i d.0 < get_or xs j d.0 = rise i j d.0 before inside in
    omega (arith, ap (λ (n : EntryNo). n.0) here, ap (λ (n : EntryNo). n.0) next, rises)

module _ (words : List (List ℕ)) (word : List ℕ) where
  abbrev stands : ℕ → Bool
  stands place = bytes_eq (get_or words place []) word

  abbrev all : List ℕ
  all = range_with_len 0 (length words)

  pub each_below : All (λ (entry : EntryNo). entry.0 < length words) (numbers_of words word)
  each_below = All-map (λ (entry : EntryNo). entry.0 < length words) number (places_of words word) (All-filter stands (λ n. n < length words) all (below_count (length words)))

  -- the numbers of a word are those of the places where it stands
  pub number_stands : (entry : EntryNo) → Contains (numbers_of words word) entry → (entry.0 < length words) × (get_or words entry.0 [] ≡ word)
  number_stands entry h =
      let listed : Contains (places_of words word) entry.0 = contains_numbers (places_of words word) entry h in (
        All-contains (λ n. n < length words) (places_of words word) entry.0 (All-filter stands (λ n. n < length words) all (below_count (length words))) listed,
        (bytes_eq-Decides (get_or words entry.0 []) word).0 (All-contains (λ n. stands n ≡ true) (places_of words word) entry.0 (filter_passes stands all) listed),
      )

  pub stands_numbered : (entry : EntryNo) → entry.0 < length words → get_or words entry.0 [] ≡ word → Contains (numbers_of words word) entry
  stands_numbered entry within is =
      contains_map number (places_of words word) entry.0
      (contains_of_has (places_of words word) entry.0 (has_between stands 0 (length words) entry.0 (omega arith) (omega (arith, within)) ∙ (bytes_eq-Decides (get_or words entry.0 []) word).1 is))

  places_rise : AllPairs (λ (a b : ℕ). a < b) (places_of words word)
  unfolding numbers_below
  places_rise = AllPairs-from_increasing (places_of words word) (numbers_increase (length words) stands)

  pub are_candidates : length words ≤ 65536 → length (places_of words word) ≤ 1024 → 0 < length (numbers_of words word) → AreCandidates (numbers_of words word)
  are_candidates few fewer some = record {
    some = some;
    most = subst (λ n. n ≤ 1024) (sym (length-map (places_of words word) number)) fewer;
    rising = rising_numbers (places_of words word) places_rise;
    small = All-map (λ (entry : EntryNo). entry.0 < 4294967295) number (places_of words word) (All-filter stands (λ n. n < 4294967295) all (All-from_get_or (λ n. n < 4294967295) all 0 (λ i h.
        let inside : i < length words = omega (arith, h, length-range_with_len 0 (length words)) in
        omega (arith, get_or-range_with_len 0 (length words) i 0 inside, inside, few))));
  }
