-- How many answers are wanted, and the list of them.
use Rattle.std.proofs.Common.{◌≡◌, ℕ, ◌+◌, List, [], ◌∷◌, ◌++◌, length}
use Rattle.std.specs.Prelude.{Vec}
use Rattle.std.specs.Global.{Global}
use Rattle.std.proofs.lemmas.List.{length-map, map-append}
use Rattle.xdg_stream.specs.Vectors.{vectors}

pub vectors_length : (vs : List (Vec ℕ Global)) → length (vectors vs) ≡ length vs
vectors_length vs = length-map vs (λ v. v.items)

pub vectors_push : (vs : List (Vec ℕ Global)) (v : Vec ℕ Global) → vectors (vs ++ v ∷ []) ≡ vectors vs ++ v.items ∷ []
vectors_push vs v = map-append (λ v. v.items) vs (v ∷ [])
