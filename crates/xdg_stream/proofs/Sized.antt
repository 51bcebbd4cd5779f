-- Decisions in range.
use Rattle.std.proofs.Common.{ℕ, ◌<◌, ◌^◌, List, [], ◌∷◌, ◌++◌, length, arith, length-append}
use Rattle.std.specs.Prelude.{slice_index}
use Rattle.xdg_facts.specs.Fits.{Fits}
use Rattle.xdg_facts.proofs.Fitting.{fits_last as value_in, fits_length}
use Rattle.xdg_problem.specs.declared.parts.Parts.{Parts}
use Rattle.xdg_problem.specs.Problems.{IsProblem}
use Rattle.xdg_problem.specs.Vectors.{shape}
use Rattle.xdg_facts.proofs.Each.{each_at}
use Rattle.xdg_store.proofs.Boxed.{IsSize, sizes_fit}

pub size_small : (parts : Parts) (at : ℕ) → IsProblem parts → at < length (shape parts) → slice_index (shape parts) at < 2 ^ 16
size_small parts at is l = (let s = (each_at IsSize (shape parts) at 0 l (sizes_fit parts is)).1 in omega (arith, s))

-- a number more fits: there is a decision for it, and it is one of its values
pub fits_last : (sizes p : List ℕ) (v : ℕ) → Fits sizes (p ++ v ∷ []) → (length p < length sizes) × (v < slice_index sizes (length p))
fits_last sizes p v fits = (let most = fits_length sizes (p ++ v ∷ []) fits in let long = length-append p (v ∷ []) in omega (arith, most, long), value_in sizes p v fits)
