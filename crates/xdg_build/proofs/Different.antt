-- Texts that differ, and the constants of the tuples of a type.
use Rattle.std.proofs.Common.{◌≡◌, ℕ, ◌<◌, length, refl, sym, ap, ◌∙◌, arith}
use Rattle.xdg_domain.specs.Shapes.{Shapes, no_shape, shape_then, sizes, product, IsTuple}
use Rattle.xdg_domain.specs.Tuples.{index, places}
use Rattle.xdg_domain.proofs.TupleNumbers.{index_of_places, places_in_range}
use Rattle.xdg_terms.specs.Means.{tuple_texts}
use Rattle.xdg_terms.proofs.Meant.{same_chosen}

-- ---- tuples

-- tuples of a type with the same constants have the same number
pub same_tuple : (ss : Shapes) (m n : ℕ) → IsTuple ss → m < product (sizes ss) → n < product (sizes ss) → tuple_texts ss m ≡ tuple_texts ss n → m ≡ n
same_tuple ss m n type within inside e =
    let same : places (sizes ss) m ≡ places (sizes ss) n = same_chosen ss (places (sizes ss) m) (places (sizes ss) n) type.domains (places_in_range (sizes ss) m within) (places_in_range (sizes ss) n inside) e in
    sym (index_of_places (sizes ss) m within) ∙ ap (index (sizes ss)) same ∙ index_of_places (sizes ss) n inside

-- a tuple has a constant
pub some_text : (ss : Shapes) (n : ℕ) → IsTuple ss → 0 < length (tuple_texts ss n)
unfolding places
some_text no_shape n type = absurd (type.some refl)
some_text (shape_then s ss) n type = omega arith
