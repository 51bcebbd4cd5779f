-- The weights of definitions.
use Rattle.std.proofs.Common.{◌≡◌, ℕ, ◌<◌, ◌+◌, List, [], map, length, get_or, set, slice_index_or, Some, None, Bor, refl, sym, ◌∙◌, ap, subst, arith}
use Rattle.std.proofs.lemmas.List.{get_or-map, length-map}
use Rattle.xdg_names.proofs.Texts.{place_of-Some}
use Rattle.xdg_domain.specs.Shapes.{Shape}
use Rattle.xdg_names.specs.Texts.{place_of}
use Rattle.xdg_types.specs.Written.{tree, uses}
use Rattle.xdg_types.specs.Parts.{TypeTerm}
use Rattle.xdg_types.specs.Meaning.{meaning}
use Rattle.xdg_typing.specs.Heads.{Agrees}
use Rattle.xdg_typing.specs.Weights.{weighed, named_weight, looked, weight_of, leaf, UsesFirst, WeighedBefore}
use Rattle.xdg_typing.proofs.WeightLaws.{weigh_right}
use Rattle.xdg_facts.specs.Membership.{In}
use Rattle.xdg_facts.proofs.Each.{set_next}

module _ (names : List ℕ → Shape) (known : List (List ℕ)) (bodies : List TypeTerm) (order : List ℕ) (agrees : Agrees names known bodies) (first : UsesFirst known bodies order)
    (within : (i : ℕ) → i < length order → slice_index_or order i 0 < length bodies) where
  -- what is weighed next uses names whose weights are right
  pub next_weight : (weights : List ℕ) (i : ℕ) (body : TypeTerm) → i < length order → WeighedBefore names known order i weights → body ≡ get_or bodies (slice_index_or order i 0) body
      → weighed (named_weight known weights) (tree body.kind) ≡ weight_of (names (get_or known (slice_index_or order i 0) []))
  next_weight weights i body inside before is =
      let a = slice_index_or order i 0 in
      weigh_right names (named_weight known weights) (tree body.kind) (λ n used.
      elim (place_of known n.text) as (λ o. place_of known n.text ≡ o → looked weights o ≡ weight_of (names n.text)) [
        | None ↦ λ e. sym (ap weight_of (agrees.undefined n.text e))
        | Some k ↦ λ e. (let j = first i inside body n k (subst (λ (t : TypeTerm). In (uses (tree t.kind)) n) is used) e in
            subst (λ text. get_or weights k leaf ≡ weight_of (names text)) (place_of-Some known n.text k e).1
            (subst (λ m. get_or weights m leaf ≡ weight_of (names (get_or known m []))) j.1.1 (before j.0 j.1.0)))
      ] refl)
      ∙ ap weight_of (sym (agrees.defined a (within i inside) body ∙ ap (λ (t : TypeTerm). meaning names (tree t.kind)) (sym is)))

abbrev at : Bor TypeTerm → TypeTerm
at h = h.now

-- a turn of the loop over the order
pub weights_step : (known : List (List ℕ)) (bodies : List (Bor TypeTerm)) (weights slice : List ℕ) (order : List ℕ) (i : ℕ) (body : Bor TypeTerm) (next : ℕ)
    → UsesFirst known (map at bodies) order → ((k : ℕ) → k < length order → slice_index_or order k 0 < length bodies) → i < length order → length weights ≡ length bodies
    → ((names : List ℕ → Shape) → Agrees names known (map at bodies) → WeighedBefore names known order i weights)
    → body ≡ get_or bodies (slice_index_or order i 0) body → slice ≡ weights → next ≡ weighed (named_weight known slice) (tree body.now.kind)
    → (names : List ℕ → Shape) → Agrees names known (map at bodies) → WeighedBefore names known order (i + 1) (set weights (slice_index_or order i 0) next)
weights_step known bodies weights slice order i body next first within inside len before is same gives names agrees =
    let a = slice_index_or order i 0 in
    let many : length (map at bodies) ≡ length bodies = length-map bodies at in
    let wide : (k : ℕ) → k < length order → slice_index_or order k 0 < length (map at bodies) = λ k h. subst (λ n. slice_index_or order k 0 < n) (sym many) (within k h) in
    let stands : body.now ≡ get_or (map at bodies) a body.now = sym (get_or-map at bodies a body body.now (within i inside) ∙ ap at (sym is)) in
    let right = gives ∙ ap (λ ws. weighed (named_weight known ws) (tree body.now.kind)) same ∙ next_weight names known (map at bodies) order agrees first wide weights i body.now inside (before names agrees) stands in
    let small : a < length weights = let s = within i inside in omega (arith, s, len) in
    set_next (λ m weight. weight ≡ weight_of (names (get_or known m []))) order weights i next leaf small (before names agrees) right
