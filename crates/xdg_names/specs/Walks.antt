-- A walk over a graph, which numbers its strong components. A mark of 0: not met. From 1 to the number of definitions:
-- finished, with that number. Above: on the stack, and the greater, the higher.
use Rattle.std.specs.Prelude.{◌≡◌, ◌⊎◌, ℕ, zero, suc, ◌+◌, ◌*◌, ◌<◌, ◌≤◌, List, [], ◌∷◌, ◌++◌, length}
use Rattle.std.specs.List.{sum_by}
use Rattle.xdg_names.specs.declared.graph.Use.{Use}
use Rattle.xdg_names.specs.declared.walk.Walk.{Walk}
use Rattle.xdg_names.specs.Leads.{uses_of, Leads, number}
use Rattle.xdg_names.specs.Closing.{the_use}
use Rattle.xdg_facts.specs.Membership.{In}

-- each has a greater mark than those before it
abbrev pub Climbs : List ℕ → List ℕ → Type 0
Climbs marks [] = Unit {0}
Climbs marks (a ∷ rest) = ((b : ℕ) → In rest b → number marks a < number marks b) × Climbs marks rest

-- 1 at a definition that is not met
abbrev pub fresh_at : ℕ → ℕ
fresh_at zero = 1
fresh_at (suc n) = 0

abbrev pub unmet : List ℕ → ℕ
unmet marks = sum_by fresh_at marks

abbrev pub itself : ℕ → ℕ
itself n = n

-- The marks of those on the stack and in the order, of a graph of n definitions. Numbers given are from 1 to below
-- next.
pub record AreMarks (n : ℕ) (marks stack order : List ℕ) (next : ℕ) : Type 0 where
  pub len : length marks ≡ n
  pub on : (p : ℕ) → p < length stack → number marks (number stack p) ≡ n + 1 + p
  pub off : (a : ℕ) → n < number marks a → number marks a < n + 1 + length stack
  pub one : (a b : ℕ) → n < number marks a → number marks a ≡ number marks b → a ≡ b
  pub given : (i : ℕ) → i < length order → (1 ≤ number marks (number order i)) × (number marks (number order i) < next)
  pub rises : (i j : ℕ) → i < j → j < length order → number marks (number order i) ≤ number marks (number order j)
  pub placed : (a : ℕ) → 1 ≤ number marks a → number marks a ≤ n → In order a
  pub room : length order + length stack + unmet marks ≡ n

-- the groups that begin at or below a begin at or below b
abbrev pub NotBelow : List ℕ → List ℕ → ℕ → ℕ → Type 0
NotBelow marks starts a b = (s : ℕ) → In starts s → number marks s ≤ number marks a → number marks s ≤ number marks b

-- A use that stands in a and leads to b is looked at.
abbrev pub IsLooked : ℕ → List ℕ → List ℕ → ℕ → ℕ → Type 0
IsLooked n marks starts a b = (1 ≤ number marks b) × (n < number marks b → NotBelow marks starts a b)

-- A walk that is under way. The uses of a definition are looked at from the last to the first, and `left` tells how
-- many are not yet. The path holds those with uses left, the starts the first of each group: a part of the stack in
-- which each leads to each.
pub record IsWalking (g : List (List Use)) (marks left stack starts path order : List ℕ) (next : ℕ) : Type 0 where
  pub marks_are : AreMarks (length g) marks stack order next
  pub leads : (a b : ℕ) → length g < number marks a → length g < number marks b
      → NotBelow marks starts a b → Leads g a b
  pub looked : (a k : ℕ) → length g < number marks a → number left a ≤ k → k < length (uses_of g a)
      → IsLooked (length g) marks starts a (the_use (uses_of g a) k).to
  pub down : (a : ℕ) (u : Use) → 1 ≤ number marks a → number marks a ≤ length g → In (uses_of g a) u
      → (1 ≤ number marks u.to) × (number marks u.to ≤ number marks a)
  pub same : (a b : ℕ) → 1 ≤ number marks a → number marks a ≤ length g → number marks a ≡ number marks b → Leads g a b
  pub begun : (a : ℕ) → length g < number marks a → (s : ℕ) × (In starts s × (number marks s ≤ number marks a))
  pub starts_on : (s : ℕ) → In starts s → In path s
  pub starts_climb : Climbs marks starts
  pub path_on : (a : ℕ) → In path a → length g < number marks a
  pub path_climbs : Climbs marks path
  pub through : (a : ℕ) → length g < number marks a → In path a ⊎ (number left a ≡ 0)
  pub lefts : length left ≡ length g
  pub fits : (a : ℕ) → number left a ≤ length (uses_of g a)
  pub fresh : (a : ℕ) → number marks a ≡ 0 → number left a ≡ length (uses_of g a)
  pub few : next ≤ length order + 1
  pub least : 1 ≤ next

abbrev pub Walks : List (List Use) → Walk → Type 0
Walks g w = IsWalking g w.marks.items w.left.items w.stack.items w.starts.items w.path.items w.order.items w.next

-- the same but for a definition that was taken from the path
abbrev pub WalksAt : List (List Use) → Walk → List ℕ → Type 0
WalksAt g w path = IsWalking g w.marks.items w.left.items w.stack.items w.starts.items path w.order.items w.next

-- how many turns a walk may still take
abbrev pub turns : List ℕ → List ℕ → ℕ
turns left path = 2 * sum_by itself left + length path

-- The walk goes on: what was met stays met.
pub record GoesOn (g : List (List Use)) (old new : Walk) : Type 0 where
  pub walks : Walks g new
  pub stays : (a : ℕ) → 1 ≤ number old.marks.items a → 1 ≤ number new.marks.items a

-- A definition y that was not met is on the stack now, on top.
pub record Enters (g : List (List Use)) (old new : Walk) (y : ℕ) : Type 0 where
  pub goes : GoesOn g old new
  pub left : new.left.items ≡ old.left.items
  pub path : new.path.items ≡ old.path.items ++ y ∷ []
  pub on : (a : ℕ) → length g < number old.marks.items a
      → (length g < number new.marks.items a) × IsLooked (length g) new.marks.items new.starts.items a y
  pub met : 1 ≤ number new.marks.items y

-- The use that stands in x and leads to y is looked at now.
pub record Looks (g : List (List Use)) (old new : Walk) (x y : ℕ) : Type 0 where
  pub goes : GoesOn g old new
  pub left : new.left.items ≡ old.left.items
  pub path : length new.path.items ≤ length old.path.items + 1
  pub held : In new.path.items x
  pub looked : IsLooked (length g) new.marks.items new.starts.items x y

-- The groups that begin above a mark are part of the one that doesn't.
pub record Merges (marks : List ℕ) (top : ℕ) (starts starts' : List ℕ) : Type 0 where
  pub kept : (s : ℕ) → In starts' s → In starts s × (number marks s ≤ top)
  pub all : (s : ℕ) → In starts s → number marks s ≤ top → In starts' s
  pub climb : Climbs marks starts'

-- The definitions of the last group, which begins with first, have this number now.
pub record Closes (n first given : ℕ) (marks order marks' stack' order' : List ℕ) : Type 0 where
  pub are : AreMarks n marks' stack' order' (given + 1)
  pub high : (a : ℕ) → number marks first ≤ number marks a → number marks' a ≡ given
  pub low : (a : ℕ) → number marks a < number marks first → number marks' a ≡ number marks a
  pub more : length order < length order'

-- The same on the way: those at or above a mark have the number.
pub record IsClosingGroup (n first given : ℕ) (marks order marks' stack' order' : List ℕ) : Type 0 where
  pub are : AreMarks n marks' stack' order' (given + 1)
  pub high : (a : ℕ) → n + 1 + length stack' ≤ number marks a → number marks' a ≡ given
  pub low : (a : ℕ) → number marks a < n + 1 + length stack' → number marks' a ≡ number marks a
  pub holds : number marks first < n + 1 + length stack'
  pub more : length order ≤ length order'
