-- Which bit of the words says whether a value of a decision remains.
use Rattle.std.specs.Prelude.{ℕ, suc, ◌+◌, ◌*◌, ◌/◌, ◌%◌, Bool, List, [], ◌∷◌, ◌++◌, length, map, nat_eq, slice_index}
use Rattle.std.specs.Int.{bit_at}
use Rattle.std.specs.List.{flat_map}
use Rattle.xdg_base.specs.declared.ids.EntryNo.{EntryNo}
use Rattle.xdg_problem.specs.declared.analysis.Edge.{Edge}
use Rattle.xdg_problem.specs.declared.parts.AttrPlan.{AttrPlan}
use Rattle.xdg_problem.specs.declared.parts.DimPlan.{DimPlan}
use Rattle.xdg_problem.specs.declared.parts.Parts.{Parts}
use Rattle.xdg_problem.specs.Places.{numbers_from, below, nodes, places}

-- A node's candidates have a row of 1,024 bits, as many as there can be.
abbrev pub entry_row : ℕ → ℕ
entry_row node = node * 1024

-- Behind these, each dimension and node have a block of 16,384 bits. Of its first half, each attribute of the node has a
-- row of 1,024 bits.
abbrev pub block : ℕ → ℕ → ℕ → ℕ
block n dim node = n * 1024 + (dim * n + node) * 16384

abbrev pub attr_row : ℕ → ℕ → ℕ → ℕ → ℕ
attr_row n dim node attr = block n dim node + attr * 1024

-- Of its second half, each label has two rows of 128 bits for the edges out of the node, a bit for each daughter: the
-- first row says which edges may be present, the second which may be absent.
abbrev pub edge_row : ℕ → ℕ → ℕ → ℕ → ℕ
edge_row n dim mother label = block n dim mother + (8192 + label * 256)

abbrev pub edge_bit : ℕ → Edge → ℕ
edge_bit n e = edge_row n e.dim.0 e.mother.0 e.label.0 + e.daughter.0

-- how many bits all of them take
abbrev pub bit_count : Parts → ℕ
bit_count parts = nodes parts * 1024 + (length parts.dims * nodes parts) * 16384

-- the bits of the values of each candidate list, from that of the node with the first number on
abbrev pub entry_bits : ℕ → List (List EntryNo) → List (List ℕ)
entry_bits first [] = []
entry_bits first (candidates ∷ more) = numbers_from (entry_row first) (length candidates) ∷ entry_bits (suc first) more

-- the bits of the values of each attribute of a node, where the first attribute's row starts there
abbrev pub row_bits : ℕ → List AttrPlan → List (List ℕ)
row_bits start [] = []
row_bits start (attr ∷ more) = numbers_from start (length attr.values) ∷ row_bits (start + 1024) more

-- the bits of the values of each attribute, from the dimension numbered dim on
abbrev pub attr_bits : ℕ → ℕ → List DimPlan → List (List ℕ)
attr_bits n dim [] = []
attr_bits n dim (plan ∷ plans) = flat_map (λ node. row_bits (block n dim node) plan.attrs) (below n) ++ attr_bits n (suc dim) plans

-- the bits of the two values of an edge place
abbrev pub pair_bits : ℕ → Edge → List ℕ
pair_bits n e = edge_bit n e ∷ (edge_bit n e + 128) ∷ []

-- for each decision the bits of its values, in order
abbrev pub bits_of : Parts → List (List ℕ)
bits_of parts = entry_bits 0 parts.candidates ++ (attr_bits (nodes parts) 0 parts.dims ++ map (pair_bits (nodes parts)) (places parts))

-- a bit of the words is set
abbrev pub is_set : List ℕ → ℕ → Bool
is_set words bit = nat_eq (bit_at (slice_index words (bit / 64)) (bit % 64)) 1

-- the box that the words say
unfoldable pub box_in : List (List ℕ) → List ℕ → List (List Bool)
box_in bits words = map (λ row. map (is_set words) row) bits
