-- Characters and their bytes.
use Rattle.std.proofs.Common.{◌≡◌, ℕ, Bool, true, List, [], ◌∷◌, refl}
use Rattle.std.specs.List.{list_all}
use Rattle.std.proofs.lemmas.Bool.{and_parts, and_from}
use Rattle.xdg_ast.specs.Tokenizes.{EachPasses}

-- ---- parts

-- ---- texts

-- ---- ASCII

-- ---- tests of each character

pub each_passes : (test : ℕ → Bool) (cs : List ℕ) → list_all test cs ≡ true → EachPasses test cs
each_passes test [] a = tt
each_passes test (c ∷ cs) a = let parts = and_parts (test c) (list_all test cs) a in (parts.0, each_passes test cs parts.1)

pub all_pass : (test : ℕ → Bool) (cs : List ℕ) → EachPasses test cs → list_all test cs ≡ true
all_pass test [] a = refl
all_pass test (c ∷ cs) a = and_from (test c) (list_all test cs) a.0 (all_pass test cs a.1)
