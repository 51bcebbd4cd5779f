-- In a box that agrees with a whole vector, what the box makes a claim is the truth that the vector's analysis has.
use Rattle.std.proofs.Common.{◌≡◌, ℕ, inl, inr, Bool, true, false, List, length, sym, subst, ap, ◌∙◌}
use Rattle.std.specs.Prelude.{Contains, slice_index, ◌==◌}
use Rattle.std.proofs.lemmas.Bool.{eqb-true}
use Rattle.xdg_problem.specs.declared.analysis.Edge.{Edge}
use Rattle.xdg_problem.specs.declared.parts.Parts.{Parts}
use Rattle.xdg_problem.specs.Arguments.{attr_place}
use Rattle.xdg_problem.specs.Boxes.{IsBox, Agrees}
use Rattle.xdg_problem.specs.Paths.{edges_on, IsDaughterBy, Above}
use Rattle.xdg_problem.specs.Places.{edge}
use Rattle.xdg_problem.specs.Problems.{IsProblem}
use Rattle.xdg_problem.specs.Vectors.{shape, entry_places, entries_at, edges_in, analysis_of}
use Rattle.xdg_facts.proofs.Filters.{filter_contained}
use Rattle.xdg_facts.proofs.Contained.{contained}
use Rattle.xdg_rules.proofs.Whole.{daughter_by, may_on, must_on, entry_has}
use Rattle.xdg_problem.specs.Claims.{Claim, negation, conjunction, disjunction, every, some, joined, above, left, same, valued, fitting, Claims, none, claim_then, IsOf, EachIsOf}
use Rattle.xdg_problem.specs.Truths.{bound, IsTrueIn, EachTrueOf, SomeTrueOf, HasTruth, AreNodes}
use Rattle.xdg_rules.specs.Worths.{Makes, MakesEach, MakesSome}
use Rattle.xdg_problem.proofs.Bindings.{bound_nodes}
use Rattle.xdg_rules.proofs.NodeValues.{attr_remains}

-- where an edge of a dimension joins nodes it is that edge
joining_edge : (edges : List Edge) (dim u l v : ℕ) → IsDaughterBy (edges_on dim edges) u l v → Contains (edges_on dim edges) (edge dim u l v)
joining_edge edges dim u l v by =
    let found = contained (λ e. (e.mother.0 ≡ u) × (e.label.0 ≡ l) × (e.daughter.0 ≡ v)) (edges_on dim edges) by in
    let e : Edge = found.0 in
    let on : e.dim.0 ≡ dim = eqb-true e.dim.0 dim (filter_contained (λ (f : Edge). f.dim.0 == dim) edges e found.1).1 in
    let is : e ≡ edge dim u l v =
    ap (λ d. edge d e.mother.0 e.label.0 e.daughter.0) on
    ∙ ap (λ m. edge dim m e.label.0 e.daughter.0) found.2.0
    ∙ ap (λ k. edge dim u k e.daughter.0) found.2.1
    ∙ ap (λ d. edge dim u l d) found.2.2 in
    subst (Contains (edges_on dim edges)) is found.1

module _ (parts : Parts) (box : List (List Bool)) (x : List ℕ) (problem : IsProblem parts) (is : IsBox (shape parts) box) (whole : length x ≡ length (shape parts)) (agrees : Agrees box x) where
  abbrev entries : List ℕ
  entries = entry_places parts.candidates (entries_at parts.candidates x)

  abbrev attrs : List ℕ
  attrs = (analysis_of parts x).attrs

  abbrev edges : List Edge
  edges = edges_in parts x

  abbrev EachTrue : Claims → (ℕ → ℕ) → Type 0
  EachTrue cs b = EachTrueOf parts entries attrs edges cs b

  abbrev SomeTrue : Claims → (ℕ → ℕ) → Type 0
  SomeTrue cs b = SomeTrueOf parts entries attrs edges cs b

  mutual
    pub sound : (c : Claim) (truth : Bool) (b : ℕ → ℕ) → IsOf parts c → AreNodes parts b → Makes parts box c truth b → HasTruth truth (IsTrueIn parts (analysis_of parts x) c b)
    sound (negation c) true b suits nodes_are makes = sound c false b suits nodes_are makes
    sound (negation c) false b suits nodes_are makes = λ false_is. false_is (sound c true b suits nodes_are makes)
    sound (conjunction cs) true b suits nodes_are makes = each_true cs b suits nodes_are makes
    sound (conjunction cs) false b suits nodes_are makes = some_false cs b suits nodes_are makes
    sound (disjunction cs) true b suits nodes_are makes = some_true cs b suits nodes_are makes
    sound (disjunction cs) false b suits nodes_are makes = each_false cs b suits nodes_are makes
    sound (every name c) true b suits nodes_are makes = λ node within. sound c true (bound b name node) suits (bound_nodes parts b name node nodes_are within) (makes node within)
    sound (every name c) false b suits nodes_are makes = λ all. sound c false (bound b name makes.0) suits (bound_nodes parts b name makes.0 nodes_are makes.1) makes.2 (all makes.0 makes.1)
    sound (some name c) true b suits nodes_are makes = (makes.0, makes.1, sound c true (bound b name makes.0) suits (bound_nodes parts b name makes.0 nodes_are makes.1) makes.2)
    sound (some name c) false b suits nodes_are makes = λ found. sound c false (bound b name found.0) suits (bound_nodes parts b name found.0 nodes_are found.1) (makes found.0 found.1) found.2
    sound (joined dim mother label daughter) true b suits nodes_are must = daughter_by (edges_on dim edges) (edge dim (b mother) label (b daughter))
        (subst (λ es. Contains es (edge dim (b mother) label (b daughter))) (must_on parts box x problem is whole agrees dim) must)
    sound (joined dim mother label daughter) false b suits nodes_are apart = λ by. apart (subst (λ es. Contains es (edge dim (b mother) label (b daughter))) (sym (may_on parts box x problem is whole agrees dim)) (joining_edge edges dim (b mother) label (b daughter) by))
    sound (above dim upper lower) true b suits nodes_are path = subst (λ es. Above es (b upper) (b lower)) (must_on parts box x problem is whole agrees dim) path
    sound (above dim upper lower) false b suits nodes_are apart = λ path. apart (subst (λ es. Above es (b upper) (b lower)) (sym (may_on parts box x problem is whole agrees dim)) path)
    sound (left first second) truth b suits nodes_are makes = makes
    sound (same first second) truth b suits nodes_are makes = makes
    sound (valued name dim attr value) truth b suits nodes_are makes =
        makes (slice_index attrs (attr_place parts dim (b name) attr)) (attr_remains parts dim (b name) attr suits.0 (nodes_are name) suits.1 box x whole agrees)
    sound (fitting name table) truth b suits nodes_are makes =
        makes (slice_index entries (b name)) (entry_has parts box x problem is whole agrees (b name) (nodes_are name))

    each_true : (cs : Claims) (b : ℕ → ℕ) → EachIsOf parts cs → AreNodes parts b → MakesEach parts box cs true b → EachTrue cs b
    each_true none b suits nodes_are makes = tt
    each_true (claim_then c cs) b suits nodes_are makes = (sound c true b suits.0 nodes_are makes.0, each_true cs b suits.1 nodes_are makes.1)

    some_true : (cs : Claims) (b : ℕ → ℕ) → EachIsOf parts cs → AreNodes parts b → MakesSome parts box cs true b → SomeTrue cs b
    some_true none b suits nodes_are makes = makes
    some_true (claim_then c cs) b suits nodes_are (inl here) = inl (sound c true b suits.0 nodes_are here)
    some_true (claim_then c cs) b suits nodes_are (inr later) = inr (some_true cs b suits.1 nodes_are later)

    each_false : (cs : Claims) (b : ℕ → ℕ) → EachIsOf parts cs → AreNodes parts b → MakesEach parts box cs false b → SomeTrue cs b → ⊥
    each_false none b suits nodes_are makes found = found
    each_false (claim_then c cs) b suits nodes_are makes (inl here) = sound c false b suits.0 nodes_are makes.0 here
    each_false (claim_then c cs) b suits nodes_are makes (inr later) = each_false cs b suits.1 nodes_are makes.1 later

    some_false : (cs : Claims) (b : ℕ → ℕ) → EachIsOf parts cs → AreNodes parts b → MakesSome parts box cs false b → EachTrue cs b → ⊥
    some_false none b suits nodes_are makes all = makes
    some_false (claim_then c cs) b suits nodes_are makes all = elim makes [
      | inl here ↦ sound c false b suits.0 nodes_are here all.0
      | inr later ↦ some_false cs b suits.1 nodes_are later all.1
    ]
