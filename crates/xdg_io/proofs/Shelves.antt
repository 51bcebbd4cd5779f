-- The walk along the files of a shelf in memory.
use Rattle.std.proofs.Common.{◌≡◌, ◌<◌, ◌+◌, ℕ, suc, List, Some, true, false, cond, length, drop, get_or, sym, ap, ◌∙◌, arith}
use Rattle.std.proofs.Math.Seq.{drop-cons}
use Rattle.std.specs.Str.{bytes_eq}
use Rattle.xdg_io.specs.Memory.{file_of}

-- the file at a place, or one behind it
file_at : (files : List (List ℕ × List ℕ)) (k : ℕ) (d : List ℕ × List ℕ) (name : List ℕ) → k < length files →
    file_of (drop k files) name ≡ cond (bytes_eq (get_or files k d).0 name) (Some (get_or files k d).1) (file_of (drop (k + 1) files) name)
file_at files k d name lt =
    let next : k + 1 ≡ suc k = omega arith in
    rw next (ap (λ z. file_of z name) (drop-cons files k d lt))

-- the first file of the name is at this place
pub file_found : (files : List (List ℕ × List ℕ)) (k : ℕ) (d : List ℕ × List ℕ) (name : List ℕ) → k < length files → file_of (drop k files) name ≡ file_of files name → bytes_eq (get_or files k d).0 name ≡ true →
    Some (get_or files k d).1 ≡ file_of files name
file_found files k d name lt so_far same =
    sym (file_at files k d name lt ∙ ap (λ b. cond b (Some (get_or files k d).1) (file_of (drop (k + 1) files) name)) same) ∙ so_far

-- the first file of the name is behind this place
pub file_behind : (files : List (List ℕ × List ℕ)) (k : ℕ) (d : List ℕ × List ℕ) (name : List ℕ) → k < length files → file_of (drop k files) name ≡ file_of files name → bytes_eq (get_or files k d).0 name ≡ false →
    file_of (drop (k + 1) files) name ≡ file_of files name
file_behind files k d name lt so_far differs =
    sym (file_at files k d name lt ∙ ap (λ b. cond b (Some (get_or files k d).1) (file_of (drop (k + 1) files) name)) differs) ∙ so_far
