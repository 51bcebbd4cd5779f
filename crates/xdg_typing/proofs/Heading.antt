-- The heads of definitions.
use Rattle.std.proofs.Common.{◌≡◌, ℕ, ◌<◌, ◌+◌, List, [], map, length, get_or, set, slice_index_or, Some, Bor, sym, ◌∙◌, ap, subst, arith}
use Rattle.std.proofs.lemmas.List.{get_or-map, length-map, map-set}
use Rattle.xdg_names.proofs.Texts.{place_of-Some}
use Rattle.xdg_ast.specs.declared.names.Name.{Name}
use Rattle.xdg_domain.specs.Shapes.{Shape}
use Rattle.xdg_names.specs.Texts.{place_of}
use Rattle.xdg_types.specs.Written.{tree, named}
use Rattle.xdg_types.specs.Parts.{TypeTerm}
use Rattle.xdg_types.specs.Meaning.{meaning}
use Rattle.xdg_typing.specs.Heads.{Agrees, IsDefined, IsRight, NamesFirst, RightBefore}
use Rattle.xdg_facts.proofs.Each.{set_next}

-- a type that is a name leads where the definition with that name leads
pub found_right : (names : List ℕ → Shape) (own : List ℕ) (known : List (List ℕ)) (heads : List (Bor TypeTerm)) (body : TypeTerm) (name : Name) (text : List ℕ) (k : ℕ) (head : Bor TypeTerm)
    → IsDefined names own known body (map (λ h. h.now) heads) → tree body.kind ≡ named name → text ≡ name.text → place_of known text ≡ Some k → head ≡ get_or heads k head → IsRight names own head.now
found_right names own known heads body name text k head defined is same place at =
    let here = defined.right name k is (subst (λ t. place_of known t ≡ Some k) same place) in
    let len : length (map (λ h. h.now) heads) ≡ length heads = length-map heads (λ h. h.now) in
    let got : get_or (map (λ h. h.now) heads) k head.now ≡ head.now = get_or-map (λ h. h.now) heads k head head.now (omega (arith, len, here.0)) ∙ ap (λ h. h.now) (sym at) in
    let told = subst (IsRight names name.text) got (here.1 head.now) in
    (told.0 ∙ sym (defined.means ∙ ap (meaning names) is), told.1)

module _ (names : List ℕ → Shape) (known : List (List ℕ)) (bodies : List TypeTerm) (order : List ℕ) (agrees : Agrees names known bodies) (first : NamesFirst known bodies order)
    (within : (i : ℕ) → i < length order → slice_index_or order i 0 < length bodies) where
  -- what is defined next has its name's head before it in the order
  pub is_defined : (heads : List TypeTerm) (i : ℕ) (body : TypeTerm) → i < length order → length heads ≡ length bodies → RightBefore names known order i heads → body ≡ get_or bodies (slice_index_or order i 0) body
      → IsDefined names (get_or known (slice_index_or order i 0) []) known body heads
  is_defined heads i body inside len before is =
      let a = slice_index_or order i 0 in
      record {
        means = agrees.defined a (within i inside) body ∙ ap (λ (t : TypeTerm). meaning names (tree t.kind)) (sym is);
        undefined = agrees.undefined;
        right = λ name k named_so place.
            let j = first i inside body name k (ap (λ (t : TypeTerm). tree t.kind) (sym is) ∙ named_so) place in
            let small : slice_index_or order j.0 0 < length bodies = within j.0 (omega (arith, inside, j.1.0)) in
            let same : slice_index_or order j.0 0 ≡ k = j.1.1 in (
              omega (arith, small, same, len),
              λ t. subst (λ n. IsRight names n (get_or heads k t)) (place_of-Some known name.text k place).1
                  (subst (λ m. IsRight names (get_or known m []) (get_or heads m t)) same (before j.0 j.1.0 t)),
            );
      }

abbrev at : Bor TypeTerm → TypeTerm
at h = h.now

-- a turn of the loop over the order
pub heads_step : (known : List (List ℕ)) (bodies heads slice : List (Bor TypeTerm)) (order : List ℕ) (i : ℕ) (body next : Bor TypeTerm)
    → NamesFirst known (map at bodies) order → ((k : ℕ) → k < length order → slice_index_or order k 0 < length bodies) → i < length order → length heads ≡ length bodies
    → ((names : List ℕ → Shape) → Agrees names known (map at bodies) → RightBefore names known order i (map at heads))
    → body ≡ get_or bodies (slice_index_or order i 0) body → slice ≡ heads
    → ((names : List ℕ → Shape) (own : List ℕ) → IsDefined names own known body.now (map at slice) → IsRight names own next.now)
    → (names : List ℕ → Shape) → Agrees names known (map at bodies) → RightBefore names known order (i + 1) (map at (set heads (slice_index_or order i 0) next))
heads_step known bodies heads slice order i body next first within inside len before is same gives names agrees =
    let a = slice_index_or order i 0 in
    let own = get_or known a [] in
    let many : length (map at bodies) ≡ length bodies = length-map bodies at in
    let sized : length (map at heads) ≡ length heads = length-map heads at in
    let wide : (k : ℕ) → k < length order → slice_index_or order k 0 < length (map at bodies) = λ k h. subst (λ n. slice_index_or order k 0 < n) (sym many) (within k h) in
    let stands : body.now ≡ get_or (map at bodies) a body.now = sym (get_or-map at bodies a body body.now (within i inside) ∙ ap at (sym is)) in
    let defined = is_defined names known (map at bodies) order agrees first wide (map at heads) i body.now inside (sized ∙ len ∙ sym many) (before names agrees) stands in
    let right = gives names own (subst (λ hs. IsDefined names own known body.now (map at hs)) (sym same) defined) in
    let small : a < length (map at heads) = let s = within i inside in omega (arith, s, sized, len) in
    subst (RightBefore names known order (i + 1)) (sym (map-set at heads a next))
    (λ j below t. set_next (λ m head. IsRight names (get_or known m []) head) order (map at heads) i next.now t small (λ k less. before names agrees k less t) right j below)
