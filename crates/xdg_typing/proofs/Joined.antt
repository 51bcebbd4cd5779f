-- The graph of the definitions, an order of it, and what the names mean, together.
use Rattle.xdg_typing.specs.Branches.{Naming}
use Rattle.std.proofs.Common.{◌≡◌, inl, inr, ℕ, ◌<◌, List, length, map, slice_index_or, refl, sym, ap, ◌∙◌, subst, arith, Bor}
use Rattle.std.proofs.lemmas.Simd.{map-map}
use Rattle.std.proofs.lemmas.List.{length-map}
use Rattle.xdg_names.specs.declared.graph.Use.{Use}
use Rattle.xdg_names.specs.Leads.{IsGraph, AreComponents}
use Rattle.xdg_names.specs.Closing.{IsClosing}
use Rattle.xdg_types.specs.Written.{tree}
use Rattle.xdg_types.specs.Parts.{TypeTerm, Statement, Definition, definitions, defined_names}
use Rattle.xdg_types.specs.Names.{NameOffends, once}
use Rattle.xdg_types.specs.Graph.{uses_in, type_graph}
use Rattle.xdg_typing.specs.Heads.{Agrees, Knows, NamesFirst, RightBefore}
use Rattle.xdg_types.specs.Answers.{None_of}
use Rattle.xdg_typing.specs.Answers.{IsResolved}
use Rattle.xdg_types.proofs.NamesAgain.{once_differ}
use Rattle.xdg_types.specs.Meaning.{Resolves}
use Rattle.xdg_typing.specs.Weights.{Weighs, UsesFirst, WeighedBefore}
use Rattle.xdg_typing.proofs.Ordered.{is_graph, in_order, names_first, uses_first, knows, weighs, agrees, rank, ranks}
use Rattle.xdg_typing.proofs.OneMeaning.{names, names_resolve, one_meaning}
use Rattle.xdg_facts.specs.Membership.{Differ}
use Rattle.xdg_ast.specs.Texts.{texts}

abbrev at : Bor TypeTerm → TypeTerm
at b = b.now

-- What is known of an order of the definitions in which each comes after those that it uses.
pub record InOrder (statements : List Statement) (told : List (List ℕ)) (bodies : List (Bor TypeTerm)) (order : List ℕ) : Type 0 where
  pub within : (i : ℕ) → i < length order → slice_index_or order i 0 < length bodies
  pub after_name : NamesFirst told (map at bodies) order
  pub after_uses : UsesFirst told (map at bodies) order
  pub right_weights : (weights : List ℕ) → ((ns : Naming) → Agrees ns told (map at bodies) → WeighedBefore ns told order (length order) weights) → (ns : Naming) → Resolves statements ns → Weighs ns told weights
  pub right_heads : (heads : List (Bor TypeTerm)) → length heads ≡ length bodies → ((ns : Naming) → Agrees ns told (map at bodies) → RightBefore ns told order (length order) (map at heads))
      → IsResolved statements told (map at heads)

module _ (statements : List Statement) (named : None_of (NameOffends statements)) where
  abbrev known : List (List ℕ)
  known = texts (defined_names statements)

  abbrev ds : List Definition
  ds = definitions statements

  -- no type is defined twice
  pub apart : Differ known
  apart = once_differ (once statements) (λ f h. named f (inr (inr (inl h)))) (defined_names statements) (inr (inr (inl refl)))

  module _ (told : List (List ℕ)) (same : Differ known → told ≡ known) (bodies : List (Bor TypeTerm)) (are : map at bodies ≡ map (λ d. d.body) ds)
      (graph : List (List Use)) (made : graph ≡ map (λ b. uses_in told (tree b.now.kind)) bodies) where
    pub graph_is : graph ≡ type_graph statements
    graph_is =
        made ∙ sym (map-map (λ (t : TypeTerm). uses_in told (tree t.kind)) at bodies) ∙ ap (map (λ (t : TypeTerm). uses_in told (tree t.kind))) are
        ∙ map-map (λ (t : TypeTerm). uses_in told (tree t.kind)) (λ (d : Definition). d.body) ds ∙ ap (λ k. map (λ (d : Definition). uses_in k (tree d.body.kind)) ds) (same apart)

    pub graph_right : IsGraph graph
    graph_right = subst IsGraph (sym graph_is) (is_graph statements)

    many : length bodies ≡ length ds
    many = sym (length-map bodies at) ∙ ap length are ∙ length-map ds (λ d. d.body)

    module _ (numbers order : List ℕ) (components : AreComponents graph numbers order) where
      parts : AreComponents (type_graph statements) numbers order
      parts = subst (λ g. AreComponents g numbers order) graph_is components

      module _ (none : None_of (IsClosing graph)) where
        acyclic : None_of (IsClosing (type_graph statements))
        acyclic = subst (λ g. None_of (IsClosing g)) graph_is none

        agreed : (ns : Naming) → Resolves statements ns → Agrees ns told (map at bodies)
        agreed ns resolves = subst (λ k. Agrees ns k (map at bodies)) (sym (same apart)) (subst (Agrees ns known) (sym are) (agrees statements ns resolves))

        pub in_order_of : InOrder statements told bodies order
        in_order_of = record {
          within = λ i h. let w : slice_index_or order i 0 < length ds = in_order statements numbers order parts acyclic i h in omega (arith, w, many);
          after_name = subst (λ k. NamesFirst k (map at bodies) order) (sym (same apart)) (subst (λ bs. NamesFirst known bs order) (sym are) (names_first statements numbers order parts acyclic));
          after_uses = subst (λ k. UsesFirst k (map at bodies) order) (sym (same apart)) (subst (λ bs. UsesFirst known bs order) (sym are) (uses_first statements numbers order parts acyclic));
          right_weights = λ weights right ns resolves.
              let before = subst (λ k. WeighedBefore ns k order (length order) weights) (same apart) (right ns (agreed ns resolves)) in
              subst (λ k. Weighs ns k weights) (sym (same apart)) (weighs statements numbers order parts acyclic ns weights (agrees statements ns resolves) before);
          right_heads = λ heads long right.
              let r = rank statements numbers order parts acyclic in
              let ranked = ranks statements numbers order parts acyclic apart in
              let ns = names statements r ranked in
              let resolves = names_resolve statements r ranked apart in
              let before = subst (λ k. RightBefore ns k order (length order) (map at heads)) (same apart) (right ns (agreed ns resolves)) in
              record {
                acyclic = acyclic;
                names = ns;
                resolves = resolves;
                only = λ others k name. one_meaning statements r ranked others ns k resolves name;
                rank = r;
                ranked = ranked;
                knows = subst (λ k. Knows ns k (map at heads)) (sym (same apart)) (knows statements numbers order parts acyclic ns (map at heads) (length-map heads at ∙ long ∙ many) (agrees statements ns resolves) before);
              };
        }

-- the same of the lists as they are lent
pub lent_order : (statements : List Statement) → None_of (NameOffends statements) → (told : List (List ℕ)) → (Differ (texts (defined_names statements)) → told ≡ texts (defined_names statements))
    → (bodies walked lent : List (Bor TypeTerm)) → map at bodies ≡ map (λ d. d.body) (definitions statements) → walked ≡ bodies → lent ≡ bodies
    → (graph ordered closed : List (List Use)) → graph ≡ map (λ b. uses_in told (tree b.now.kind)) walked → ordered ≡ graph → closed ≡ graph
    → (numbers order given : List ℕ) → AreComponents ordered numbers order → None_of (IsClosing closed) → given ≡ order → InOrder statements told lent given
lent_order statements named told same bodies walked lent are is_walked is_lent graph ordered closed made is_ordered is_closed numbers order given components none is_given =
    let whole = is_ordered ∙ made ∙ ap (map (λ (b : Bor TypeTerm). uses_in told (tree b.now.kind))) is_walked in
    let acyclic = subst (λ g. None_of (IsClosing g)) (is_closed ∙ sym is_ordered) none in
    subst (λ bs. InOrder statements told bs given) (sym is_lent) (subst (InOrder statements told bodies) (sym is_given) (in_order_of statements named told same bodies are ordered whole numbers order components acyclic))
