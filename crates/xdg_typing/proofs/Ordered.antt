-- The definitions of a grammar as a graph: in range, in order, and ranked where no type leads back to itself.
use Rattle.std.proofs.Common.{◌≡◌, inl, ℕ, ◌<◌, List, [], length, map, get_or, slice_index_or, refl, sym, ap, ◌∙◌, subst, arith, Option, None, Some, true≢false}
use Rattle.std.proofs.lemmas.List.{get_or-map, length-map}
use Rattle.xdg_base.specs.declared.faults.Fault.{Fault}
use Rattle.xdg_ast.specs.declared.names.Name.{Name}
use Rattle.xdg_names.specs.declared.graph.Use.{Use}
use Rattle.xdg_names.specs.Leads.{uses_of, IsGraph, AreComponents, number}
use Rattle.xdg_names.specs.Closing.{IsClosing}
use Rattle.xdg_names.proofs.Laws.{falls, follows}
use Rattle.xdg_names.proofs.Numbered.{from_within}
use Rattle.xdg_domain.specs.Shapes.{Shape}
use Rattle.xdg_names.specs.Texts.{place_of}
use Rattle.xdg_names.proofs.Texts.{place_of-Some, place_of-None, place_of-at, place_of-has_text, among_has}
use Rattle.xdg_types.specs.Written.{tree, uses}
use Rattle.xdg_types.specs.Parts.{TypeTerm, Statement, Definition, definitions, defined_names}
use Rattle.xdg_types.specs.Graph.{use_at, use_of, uses_in, type_graph}
use Rattle.xdg_types.specs.Meaning.{Resolves, meaning, IsHead}
use Rattle.xdg_typing.specs.Heads.{Agrees, NamesFirst, Knows, RightBefore}
use Rattle.xdg_typing.specs.Answers.{IsRanked}
use Rattle.xdg_typing.specs.Weights.{Weighs, UsesFirst, WeighedBefore, looked, weight_of, leaf}
use Rattle.xdg_facts.specs.Membership.{In, Differ}
use Rattle.xdg_facts.proofs.Lists.{some_at, fused}
use Rattle.xdg_facts.proofs.In.{in_get, in_index, in_flat_map, flat_map_in}
use Rattle.xdg_ast.specs.Texts.{texts}
use Rattle.xdg_types.proofs.InUse.{in_use}

-- ---- the graph

module _ (statements : List Statement) where
  abbrev ds : List Definition
  ds = definitions statements

  abbrev known : List (List ℕ)
  known = texts (defined_names statements)

  abbrev g : List (List Use)
  g = type_graph statements

  known_are : known ≡ map (λ (d : Definition). d.name.text) ds
  known_are = fused (λ (n : Name). n.text) (λ (d : Definition). d.name) ds

  known_len : length known ≡ length ds
  known_len = ap length known_are ∙ length-map ds (λ (d : Definition). d.name.text)

  known_at : (a : ℕ) → a < length ds → (d : Definition) → get_or known a [] ≡ (get_or ds a d).name.text
  known_at a h d = ap (λ xs. get_or xs a []) known_are ∙ get_or-map (λ (x : Definition). x.name.text) ds a d [] h

  graph_len : length g ≡ length ds
  graph_len = length-map ds (λ d. uses_in known (tree d.body.kind))

  uses_at : (a : ℕ) → a < length ds → (d : Definition) → uses_of g a ≡ uses_in known (tree (get_or ds a d).body.kind)
  uses_at a h d = get_or-map (λ x. uses_in known (tree x.body.kind)) ds a d [] h

  -- what is used is defined
  pub is_graph : IsGraph g
  is_graph a u h =
      let inside : a < length g = from_within g a u h in
      let some = (some_at ds a (omega (arith, inside, graph_len))).0 in
      let k = in_flat_map (use_of known) (uses (tree (get_or ds a some).body.kind)) u (subst (λ us. In us u) (uses_at a (omega (arith, inside, graph_len)) some) h) in
      let at = (place_of-Some known k.0.text u.to (in_use k.0 (place_of known k.0.text) u k.1.1)).0 in
      omega (arith, at, known_len, graph_len)

  module _ (numbers order : List ℕ) (made : AreComponents g numbers order) (acyclic : (f : Fault) → IsClosing g f → ⊥) where
    pub in_order : (i : ℕ) → i < length order → slice_index_or order i 0 < length ds
    in_order i h = let w : number order i < length g = made.within i h in omega (arith, w, graph_len)

    -- what a type uses comes before it
    pub uses_first : UsesFirst known (map (λ d. d.body) ds) order
    uses_first i h t name k used place =
        let a = slice_index_or order i 0 in
        let inside : a < length ds = in_order i h in
        let some = (some_at ds a inside).0 in
        let stands : In (uses (tree (get_or ds a some).body.kind)) name = subst (λ (x : TypeTerm). In (uses (tree x.kind)) name) (get_or-map (λ d. d.body) ds a some t inside) used in
        let u : Use = record { to = k; at = name.span.start } in
        let here : In (use_of known name) u = subst (λ o. In (use_at name o) u) (sym place) (inl refl) in
        follows g numbers order made acyclic i h u
        (subst (λ us. In us u) (sym (uses_at a inside some)) (flat_map_in (use_of known) (uses (tree (get_or ds a some).body.kind)) name u stands here))

    -- a type that is a name comes after the type of that name
    pub names_first : NamesFirst known (map (λ d. d.body) ds) order
    names_first i h t name k is place = uses_first i h t name k (subst (λ u. In (uses u) name) (sym is) (inl refl)) place

    -- the rank of a name is the number of its definition's component
    abbrev pub rank_at : Option ℕ → ℕ
    rank_at None = 0
    rank_at (Some k) = number numbers k

    pub rank : List ℕ → ℕ
    rank name = rank_at (place_of known name)

    module _ (apart : Differ known) where
      place_at : (a : ℕ) → a < length ds → (d : Definition) → place_of known (get_or ds a d).name.text ≡ Some a
      place_at a h d = subst (λ t. place_of known t ≡ Some a) (known_at a h d) (place_of-at known a apart (omega (arith, h, known_len)))

      pub ranks : IsRanked statements rank
      unfolding rank
      ranks d name h used defined =
          let i = in_index ds d d h in
          let a = i.0 in
          let is : get_or ds a d ≡ d = i.1.1 in
          let k = place_of-has_text known name.text (among_has known name.text defined) in
          let u : Use = record { to = k.0; at = name.span.start } in
          let here : In (use_of known name) u = subst (λ o. In (use_at name o) u) (sym k.1) (inl refl) in
          let stands : In (uses_in known (tree d.body.kind)) u = flat_map_in (use_of known) (uses (tree d.body.kind)) name u used here in
          let less : number numbers k.0 < number numbers a = falls g numbers order made acyclic a u (subst (λ us. In us u) (sym (uses_at a i.1.0 d ∙ ap (λ (x : Definition). uses_in known (tree x.body.kind)) is)) stands) in
          let own : place_of known d.name.text ≡ Some a = subst (λ (x : Definition). place_of known x.name.text ≡ Some a) is (place_at a i.1.0 d) in
          let left : rank_at (place_of known name.text) ≡ number numbers k.0 = ap rank_at k.1 in
          let right : rank_at (place_of known d.name.text) ≡ number numbers a = ap rank_at own in
          omega (arith, less, left, right)

    -- every name has its place in the order
    pub knows : (names : List ℕ → Shape) (heads : List TypeTerm) → length heads ≡ length ds → Agrees names known (map (λ d. d.body) ds) → RightBefore names known order (length order) heads → Knows names known heads
    knows names heads len agrees right = record {
      found = λ name k place.
          let at = place_of-Some known name k place in
          let inside : k < length ds = omega (arith, at.0, known_len) in
          let j = in_index order k 0 (made.placed k (omega (arith, inside, graph_len))) in (
            omega (arith, inside, len),
            λ t. subst (λ n. (meaning names (tree (get_or heads k t).kind) ≡ names n) × IsHead names (tree (get_or heads k t).kind)) at.1
                (subst (λ m. (meaning names (tree (get_or heads m t).kind) ≡ names (get_or known m [])) × IsHead names (tree (get_or heads m t).kind)) j.1.1 (right j.0 j.1.0 t)),
          );
      missing = agrees.undefined;
    }

    -- every name has its weight
    pub weighs : (names : List ℕ → Shape) (weights : List ℕ) → Agrees names known (map (λ d. d.body) ds) → WeighedBefore names known order (length order) weights → Weighs names known weights
    weighs names weights agrees right name =
        elim (place_of known name) as (λ o. place_of known name ≡ o → looked weights o ≡ weight_of (names name)) [
          | None ↦ λ e. sym (ap weight_of (agrees.undefined name e))
          | Some k ↦ λ e. (let at = place_of-Some known name k e in
              let inside : k < length ds = omega (arith, at.0, known_len) in
              let j = in_index order k 0 (made.placed k (omega (arith, inside, graph_len))) in
              subst (λ n. get_or weights k leaf ≡ weight_of (names n)) at.1
              (subst (λ m. get_or weights m leaf ≡ weight_of (names (get_or known m []))) j.1.1 (right j.0 j.1.0)))
        ] refl

  -- names that mean what their definitions say agree with the types at their places
  pub agrees : (names : List ℕ → Shape) → Resolves statements names → Agrees names known (map (λ d. d.body) ds)
  agrees names resolves = record {
    defined = λ a h t.
        let inside : a < length ds = omega (arith, h, length-map ds (λ d. d.body)) in
        let some = (some_at ds a inside).0 in
        ap names (known_at a inside some) ∙ resolves.defined (get_or ds a some) (in_get ds a some inside) ∙ ap (λ (x : TypeTerm). meaning names (tree x.kind)) (sym (get_or-map (λ d. d.body) ds a some t inside));
    undefined = λ name none. resolves.undefined name (λ a. true≢false (sym (among_has known name a) ∙ place_of-None known name none));
  }
