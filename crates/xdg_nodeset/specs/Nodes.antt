-- Sets of nodes as what they are: rising lists of numbers below 128.
use Rattle.std.specs.Prelude.{◌≡◌, ℕ, ◌≤◌, Bool, not, ◌&&◌, ◌||◌, ◌==◌, List, length, nat_lt}
use Prim.Native.Nat.{min, max}
use Rattle.xdg_facts.specs.Rises.{has, numbers_below, Rises}

-- the rising list of the nodes that pass the test: a node is a number below 128
abbrev pub nodes : (ℕ → Bool) → List ℕ
nodes test = numbers_below 128 test

-- the list is a set of nodes: it rises, it is the list of the nodes that stand in it, and so it has at most 128 items
pub record IsNodes (s : List ℕ) : Type 0 where
  pub rises : Rises 0 128 s
  pub whole : s ≡ nodes (has s)
  pub few : length s ≤ 128

-- the nodes of s, and n
abbrev pub with_node : List ℕ → ℕ → List ℕ
with_node s n = nodes (λ m. (m == n) || has s m)

-- the nodes of s but n
abbrev pub without : List ℕ → ℕ → List ℕ
without s n = nodes (λ m. not (m == n) && has s m)

-- the nodes that stand in s or in t
abbrev pub union : List ℕ → List ℕ → List ℕ
union s t = nodes (λ n. has s n || has t n)

-- the nodes that stand in s and in t
abbrev pub meet : List ℕ → List ℕ → List ℕ
meet s t = nodes (λ n. has s n && has t n)

-- the nodes that stand in s and not in t
abbrev pub minus : List ℕ → List ℕ → List ℕ
minus s t = nodes (λ n. has s n && not (has t n))

-- the nodes strictly between a and b, whichever is the lesser
abbrev pub between : ℕ → ℕ → List ℕ
between a b = nodes (λ n. nat_lt (min a b) n && nat_lt n (max a b))
