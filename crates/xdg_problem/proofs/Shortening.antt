-- A test whose decisions all stand in a prefix reads the same in whatever continues it.
use Rattle.std.proofs.Common.{◌≡◌, ℕ, ◌+◌, ◌-◌, ◌↔◌, Bool, true, false, cond, List, [], ◌∷◌, ◌++◌, length, drop, map, refl, sym, ap, ◌∙◌, subst, arith, Option, Some, None, length-append, length-drop}
use Rattle.std.specs.Prelude.{filter, All, ◌==◌}
use Rattle.std.proofs.lemmas.List.{drop-drop, get_or_append_left}
use Rattle.std.proofs.lemmas.List.Elements.{All-head, All-tail, All-drop, All-weaker}
use Rattle.xdg_facts.specs.Closed.{Closed}
use Rattle.xdg_problem.specs.declared.analysis.Edge.{Edge}
use Rattle.xdg_problem.specs.declared.parts.Group.{Group}
use Rattle.xdg_problem.specs.declared.parts.Parts.{Parts}
use Rattle.xdg_problem.specs.Places.{nodes, places}
use Rattle.xdg_problem.specs.Vectors.{first_place, edges_in, chosen}
use Rattle.xdg_problem.specs.Tests.{Test, looks_at, entry_node, test_attrs, Passes}
use Rattle.xdg_problem.specs.Live.{open_places, EntryStands, entry_in, AttrStands, attr_in, Stands, Holds, IsLiveFor, Live}
use Rattle.xdg_problem.specs.Relations.{IsKeptWhole}
use Rattle.xdg_facts.proofs.Each.{map_alike}
use Rattle.xdg_problem.proofs.Continued.{analysis_same}
use Rattle.xdg_facts.proofs.Fronts.{drop_joined}

filter_put : (test : Edge → Bool) (chooses : Bool) (e : Edge) (xs ys : List Edge) → filter test xs ≡ filter test ys → filter test (cond chooses (e ∷ xs) xs) ≡ filter test (cond chooses (e ∷ ys) ys)
filter_put test true e xs ys same = ap (λ z. cond (test e) (e ∷ z) z) same
filter_put test false e xs ys same = same

filter_left : (test : Edge → Bool) (chooses : Bool) (e : Edge) (xs : List Edge) → test e ≡ false → filter test xs ≡ [] → filter test (cond chooses (e ∷ xs) xs) ≡ []
filter_left test true e xs fails none = rw fails none
filter_left test false e xs fails none = none

-- of edges at which the test fails none is kept, whichever are chosen
none_kept : (test : Edge → Bool) (edges : List Edge) (numbers : List ℕ) → All (λ e. test e ≡ false) edges → filter test (chosen edges numbers) ≡ []
none_kept test [] numbers fails = refl
none_kept test (e ∷ edges) [] fails = refl
none_kept test (e ∷ edges) (number ∷ numbers) fails = filter_left test (number == 0) e (chosen edges numbers) (All-head (λ x. test x ≡ false) e edges fails) (none_kept test edges numbers (All-tail (λ x. test x ≡ false) e edges fails))

chosen_same : (test : Edge → Bool) (edges : List Edge) (numbers more : List ℕ) → All (λ e. test e ≡ false) (drop (length numbers) edges) → filter test (chosen edges (numbers ++ more)) ≡ filter test (chosen edges numbers)
chosen_same test [] numbers more fails = refl
chosen_same test (e ∷ edges) [] more fails = none_kept test (e ∷ edges) more fails
chosen_same test (e ∷ edges) (number ∷ numbers) more fails = filter_put test (number == 0) e (chosen edges (numbers ++ more)) (chosen edges numbers) (chosen_same test edges numbers more fails)

-- the edges at a test's places are the same, if the prefix leaves none of these open
pub edges_same : (parts : Parts) (test : Edge → Bool) (p t : List ℕ) → All (λ place. test place ≡ false) (open_places parts p) → filter test (edges_in parts (p ++ t)) ≡ filter test (edges_in parts p)
edges_same parts test p t closed =
    let first = first_place parts in
    let front : All (λ place. test place ≡ false) (drop (length (drop first p)) (places parts)) = subst (λ n. All (λ place. test place ≡ false) (drop n (places parts))) (sym (length-drop first p)) closed in
    ap (λ numbers. filter test (chosen (places parts) numbers)) (drop_joined first p t) ∙ chosen_same test (places parts) (drop first p) (drop (first - length p) t) front

-- what a prefix leaves open no more is not open in whatever continues it
pub open_less : (parts : Parts) (P : Edge → Type 0) (p t : List ℕ) → All P (open_places parts p) → All P (open_places parts (p ++ t))
open_less parts P p t all =
    let short = length p - first_place parts in
    let long = length (p ++ t) - first_place parts in
    let e : short + (long - short) ≡ long = omega (arith, length-append p t) in
    subst (λ n. All P (drop n (places parts))) e (subst (All P) (drop-drop (long - short) short (places parts)) (All-drop P (long - short) (open_places parts p) all))

pub entry_stands : (node : Option ℕ) (p t : List ℕ) → EntryStands node p → EntryStands node (p ++ t)
entry_stands None p t stands = tt
entry_stands (Some node) p t stands = omega (arith, length-append p t)

pub entry_same : (node : Option ℕ) (p t : List ℕ) → EntryStands node p → entry_in node (p ++ t) ≡ entry_in node p
entry_same None p t stands = refl
entry_same (Some node) p t stands = get_or_append_left p t 0 node stands

attrs_stand : (parts : Parts) (p t places : List ℕ) → All (AttrStands parts p) places → All (AttrStands parts (p ++ t)) places
attrs_stand parts p t places stand = All-weaker (AttrStands parts p) (AttrStands parts (p ++ t)) (λ place stands. omega (arith, stands, length-append p t)) places stand

-- the values at places that stand in a prefix are the same in whatever continues it
pub attrs_same : (parts : Parts) (p t places : List ℕ) → All (AttrStands parts p) places → map (attr_in parts (p ++ t)) places ≡ map (attr_in parts p) places
attrs_same parts p t places stand = map_alike (attr_in parts (p ++ t)) (attr_in parts p) places
    (All-weaker (AttrStands parts p) (λ place. attr_in parts (p ++ t) place ≡ attr_in parts p place) (λ place stands. get_or_append_left p t 0 (length parts.candidates + place) stands) places stand)

pub stands_longer : (parts : Parts) (group : Group) (test : Test) (p t : List ℕ) → Stands parts group test p → Stands parts group test (p ++ t)
stands_longer parts group test p t stands = record {
  entry = entry_stands (entry_node test) p t stands.entry;
  attrs = attrs_stand parts p t (test_attrs parts group test) stands.attrs;
  edges = open_less parts (λ place. looks_at group test place ≡ false) p t stands.edges;
}

-- a test says the same of what is equal
pub passes_like : (n : ℕ) (group : Group) (test : Test) (c d : ℕ) (vs ws : List ℕ) (es fs : List Edge) → c ≡ d → vs ≡ ws → es ≡ fs → Passes n group test c vs es → Passes n group test d ws fs
passes_like n group test c d vs ws es fs entry values edges passes = subst (λ x. Passes n group test x ws fs) entry (subst (λ x. Passes n group test c x fs) values (subst (Passes n group test c vs) edges passes))

pub reads_same : (parts : Parts) (group : Group) (test : Test) (p t : List ℕ) → Stands parts group test p → Holds parts group test p ↔ Holds parts group test (p ++ t)
reads_same parts group test p t stands =
    let entry = entry_same (entry_node test) p t stands.entry in
    let values = attrs_same parts p t (test_attrs parts group test) stands.attrs in
    let edges = edges_same parts (looks_at group test) p t stands.edges in (
      passes_like (nodes parts) group test _ _ _ _ _ _ (sym entry) (sym values) (sym edges),
      passes_like (nodes parts) group test _ _ _ _ _ _ entry values edges,
    )

-- each front of a live prefix is live

use_closed : (parts : Parts) (group : Group) (p t : List ℕ) → IsLiveFor parts group (p ++ t) → IsLiveFor parts group p
use_closed parts group p t live = record {
  tests = λ test is stands. (reads_same parts group test p t stands).1 (live.tests test is (stands_longer parts group test p t stands));
  whole = λ long. subst (IsKeptWhole parts group) (analysis_same parts p t long) (live.whole (omega (arith, long, length-append p t)));
}

pub live_closed : (parts : Parts) → Closed (Live parts)
live_closed parts p t some live = λ k d within. use_closed parts _ p t (live k d within)
