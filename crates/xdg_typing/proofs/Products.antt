-- How many tuples a tuple type has, up to the greatest number of 64 bits.
use Rattle.std.proofs.Common.{◌≡◌, ℕ, suc, ◌<◌, ◌≤◌, ◌+◌, ◌*◌, List, [], ◌∷◌, length, drop, get_or, refl, sym, ap, ◌∙◌, arith}
use Rattle.std.specs.Prelude.{min}
use Rattle.std.proofs.Math.Nat.{min-eq_left}
use Rattle.std.proofs.lemmas.List.{at_drop_more, drop_all}
use Rattle.xdg_ast.specs.declared.names.Name.{Name}
use Rattle.xdg_domain.specs.Shapes.{Shape, constants, sizes, product}
use Rattle.xdg_types.specs.Written.{tree}
use Rattle.xdg_types.specs.Parts.{TypeTerm}
use Rattle.xdg_types.specs.Meaning.{meaning, domains_meaning, as_domain}
use Rattle.xdg_typing.specs.KindFaults.{trees}
use Rattle.xdg_ast.specs.Texts.{texts}
use Rattle.xdg_facts.proofs.Capped.{past, stop_then}

pub texts_length : (names : List Name) → length (texts names) ≡ length names
texts_length [] = refl
texts_length (name ∷ names) = ap suc (texts_length names)

module _ (names : List ℕ → Shape) where
  abbrev tuples : List TypeTerm → ℕ
  tuples types = product (sizes (domains_meaning names (trees types)))

  -- a turn of the loop that multiplies
  pub multiplied : (types : List TypeTerm) (i : ℕ) (type : TypeTerm) (found : List Name) (before now top total : ℕ) → i < length types → type ≡ get_or types i type
      → texts found ≡ constants (as_domain (meaning names (tree type.kind))) → now ≡ min (before * length found) top
      → min (before * tuples (drop i types)) top ≡ total → min (now * tuples (drop (i + 1) types)) top ≡ total
  unfolding product
  multiplied types i type found before now top total within is all step so_far =
      let rest = tuples (drop (i + 1) types) in
      let count : length found ≡ length (constants (as_domain (meaning names (tree type.kind)))) = sym (texts_length found) ∙ ap length all in
      let parts : tuples (drop i types) ≡ length (constants (as_domain (meaning names (tree type.kind)))) * rest =
      at_drop_more tuples types i type within ∙ ap (λ t. tuples (t ∷ drop (i + 1) types)) (sym is) in
      ap (λ m. min (m * rest) top) step ∙ stop_then before (length found) rest top
      ∙ ap (λ n. min (before * (n * rest)) top) count ∙ ap (λ m. min (before * m) top) (sym parts) ∙ so_far

  pub all_multiplied : (types : List TypeTerm) (i : ℕ) (found top total : ℕ) → length types ≤ i → found ≤ top → min (found * tuples (drop i types)) top ≡ total → found ≡ total
  unfolding product
  all_multiplied types i found top total past small so_far =
      let one : found * 1 ≡ found = omega arith in
      sym (min-eq_left small) ∙ ap (λ m. min m top) (sym one) ∙ ap (λ ts. min (found * tuples ts) top) (sym (drop_all i types past)) ∙ so_far
