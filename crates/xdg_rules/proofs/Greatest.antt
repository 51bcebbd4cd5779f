-- In each box lies a greatest closed one, or none: it has each value of each closed box inside.
use Rattle.std.proofs.Common.{◌≡◌, ℕ, ◌+◌, ◌<◌, ◌⊎◌, inl, inr, zero, suc, Bool, true, false, List, [], ◌∷◌, length, map, refl, ap₂, ◌∙◌, subst, arith}
use Rattle.std.specs.Prelude.{Contains, slice_index}
use Rattle.std.specs.List.{Any}
use Rattle.std.proofs.lemmas.Bool.{false≢true}
use Rattle.std.proofs.lemmas.List.{length-map}
use Rattle.xdg_problem.specs.declared.parts.Parts.{Parts}
use Rattle.xdg_problem.specs.Places.{below}
use Rattle.xdg_problem.specs.Problems.{IsProblem}
use Rattle.xdg_problem.specs.Vectors.{shape}
use Rattle.xdg_facts.proofs.Decided.{Decided, decided_both, decided_any, triple_decided}
use Rattle.xdg_facts.proofs.Contained.{contained, any_of}
use Rattle.xdg_problem.proofs.Ordered.{numbers_length}
use Rattle.xdg_problem.specs.Boxes.{Has, IsBox, LiesIn}
use Rattle.xdg_rules.specs.Rules.{IsClosed}
use Rattle.xdg_rules.specs.Boxed.{IsGreatestClosed, HasNoClosed}
use Rattle.xdg_rules.proofs.Sizes.{within_sizes}
use Rattle.xdg_rules.proofs.Single.{flag_from, from_flag}
use Rattle.xdg_rules.proofs.Monotone.{monotone}
use Rattle.xdg_rules.proofs.DecidingBoxes.{decided_has}
use Rattle.xdg_rules.proofs.DecidingClosed.{decided_everywhere, decided_closed, decided_box, all_boxes, box_contained}

-- a test for what can be decided

flag : {P : Type 0} → Decided P → Bool
flag (inl p) = true
flag (inr n) = false

flag_holds : {P : Type 0} (decided : Decided P) → flag decided ≡ true → P
unfolding flag
flag_holds (inl p) e = p
flag_holds (inr n) e = absurd (false≢true e)

holds_flag : {P : Type 0} (decided : Decided P) → P → flag decided ≡ true
unfolding flag
holds_flag (inl p) q = refl
holds_flag (inr n) q = absurd (n q)

-- the box of the values that pass a test

passing : (ℕ → ℕ → Bool) → ℕ → List ℕ → List (List Bool)
passing test first [] = []
passing test first (size ∷ sizes) = map (test first) (below size) ∷ passing test (suc first) sizes

passing_has : (test : ℕ → ℕ → Bool) (first : ℕ) (sizes : List ℕ) (d v : ℕ) → Has (passing test first sizes) d v → test (first + d) v ≡ true
unfolding passing
passing_has test first [] d v has = absurd (false≢true has)
passing_has test first (size ∷ sizes) zero v has = subst (λ n. test n v ≡ true) (omega arith) (subst (λ n. test first n ≡ true) (omega arith) (flag_from (test first) 0 size v has))
passing_has test first (size ∷ sizes) (suc d) v has = subst (λ n. test n v ≡ true) (omega arith) (passing_has test (suc first) sizes d v has)

has_passing : (test : ℕ → ℕ → Bool) (first : ℕ) (sizes : List ℕ) (d v : ℕ) → v < slice_index sizes d → test (first + d) v ≡ true → Has (passing test first sizes) d v
unfolding passing
has_passing test first [] d v l passes = absurd (omega (arith, l))
has_passing test first (size ∷ sizes) zero v l passes = from_flag (test first) 0 size v l (subst (λ n. test first n ≡ true) (omega arith) (subst (λ n. test n v ≡ true) (omega arith) passes))
has_passing test first (size ∷ sizes) (suc d) v l passes = has_passing test (suc first) sizes d v l (subst (λ n. test n v ≡ true) (omega arith) passes)

passing_sizes : (test : ℕ → ℕ → Bool) (first : ℕ) (sizes : List ℕ) → map length (passing test first sizes) ≡ sizes
unfolding passing
passing_sizes test first [] = refl
passing_sizes test first (size ∷ sizes) = ap₂ (λ n ns. n ∷ ns) (length-map (below size) (test first) ∙ numbers_length 0 size) (passing_sizes test (suc first) sizes)

module _ (parts : Parts) (problem : IsProblem parts) (box : List (List Bool)) where
  -- a closed box that lies in the box
  abbrev Inside : List (List Bool) → Type 0
  Inside small = IsBox (shape parts) small × IsClosed parts small × LiesIn small box

  decided_inside : (small : List (List Bool)) → Decided (Inside small)
  decided_inside small = elim (decided_box (shape parts) small) [
    | inl is ↦ triple_decided _ _ _ (inl is) (decided_closed parts small problem is) (decided_everywhere small (λ d v. Has box d v) (λ d v. decided_has box d v))
    | inr not_is ↦ inr (λ inside. not_is inside.0)
  ]

  -- one of them has the value
  abbrev Held : ℕ → ℕ → Type 0
  Held d v = Any (λ small. Inside small × Has small d v) (all_boxes (shape parts))

  decided_held : (d v : ℕ) → Decided (Held d v)
  decided_held d v = decided_any (λ small. Inside small × Has small d v) (all_boxes (shape parts)) (λ small. decided_both _ _ (decided_inside small) (decided_has small d v))

  held_by : (d v : ℕ) → Held d v → (small : List (List Bool)) × Inside small × Has small d v
  held_by d v held = (let found = contained (λ small. Inside small × Has small d v) (all_boxes (shape parts)) held in (found.0, found.2.0, found.2.1))

  by_held : (small : List (List Bool)) (d v : ℕ) → Inside small → Has small d v → Held d v
  by_held small d v inside has = any_of (λ s. Inside s × Has s d v) (all_boxes (shape parts)) small (subst (λ sizes. Contains (all_boxes sizes) small) inside.0.sizes (box_contained small)) (inside, has)

  test : ℕ → ℕ → Bool
  test d v = flag (decided_held d v)

  most : List (List Bool)
  most = passing test 0 (shape parts)

  most_held : (d v : ℕ) → Has most d v → Held d v
  unfolding most test
  most_held d v has = flag_holds (decided_held d v) (subst (λ n. test n v ≡ true) (omega arith) (passing_has test 0 (shape parts) d v has))

  inside_lies : (small : List (List Bool)) → Inside small → LiesIn small most
  unfolding most test
  inside_lies small inside d v has = has_passing test 0 (shape parts) d v
      (subst (λ sizes. v < slice_index sizes d) inside.0.sizes (within_sizes small d v has))
      (subst (λ n. test n v ≡ true) (omega arith) (holds_flag (decided_held d v) (by_held small d v inside has)))

  most_closed : IsClosed parts most
  most_closed k g l d v has takes =
      let held = held_by d v (most_held d v has) in
      monotone parts _ held.0 most problem (problem.groups k g l) held.1.0 (inside_lies held.0 held.1) (held.1.1 k g l) d v takes held.2

  -- where one closed box lies in the box, the values of all of them make the greatest
  most_greatest : (small : List (List Bool)) → Inside small → IsGreatestClosed parts box most
  unfolding most
  most_greatest small inside = record {
    is = record {
      sizes = passing_sizes test 0 (shape parts);
      filled = λ d l. (let some = inside.0.filled d l in (some.0, inside_lies small inside d some.0 some.1));
    };
    closed = most_closed;
    lies = λ d v has. (let held = held_by d v (most_held d v has) in held.1.2 d v held.2);
    most = λ other is closed lies. inside_lies other (is, closed, lies);
  }

  pub greatest_closed : ((inside : List (List Bool)) × IsGreatestClosed parts box inside) ⊎ HasNoClosed parts box
  greatest_closed = elim (decided_any Inside (all_boxes (shape parts)) decided_inside) [
    | inl some ↦ (let found = contained Inside (all_boxes (shape parts)) some in inl (most, most_greatest found.0 found.2))
    | inr none ↦ inr (λ small is closed lies. none (any_of Inside (all_boxes (shape parts)) small (subst (λ sizes. Contains (all_boxes sizes) small) is.sizes (box_contained small)) (is, closed, lies)))
  ]
