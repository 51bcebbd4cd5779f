-- Lists of nodes, of which the first has one member alone.
use Rattle.std.proofs.Common.{◌≡◌, ℕ, ◌<◌, List, [], ◌∷◌, length, get_or, zero, suc, refl, arith}
use Rattle.std.specs.Prelude.{All}
use Rattle.std.proofs.lemmas.List.Elements.{All-nil, All-cons, All-tail}
use Rattle.xdg_problem.specs.Branches.{first_alone}

pub length_alone : {A : Type 0} (none : A) (place : ℕ) (lists : List (List A)) → length (first_alone none place lists) ≡ length lists
length_alone none place [] = refl
length_alone none place (members ∷ more) = refl

-- what holds of each list holds of each when the first one has a member alone
pub each_alone : {A : Type 0} (P : List A → Type 0) (none : A) (place : ℕ) (lists : List (List A)) → P (get_or (get_or lists 0 []) place none ∷ []) → All P lists → All P (first_alone none place lists)
each_alone P none place [] here each = All-nil P
each_alone P none place (members ∷ more) here each = All-cons P (get_or members place none ∷ []) more here (All-tail P members more each)

-- two lists of lists whose members have the same lengths have them still
pub same_lengths : {A B : Type 0} (none : A) (other : B) (place : ℕ) (lists : List (List A)) (others : List (List B)) (v : ℕ) → length lists ≡ length others → length (get_or lists v []) ≡ length (get_or others v []) → length (get_or (first_alone none place lists) v []) ≡ length (get_or (first_alone other place others) v [])
same_lengths none other place [] [] v long same = refl
same_lengths none other place (xs ∷ lists) (ys ∷ others) zero long same = refl
same_lengths none other place (xs ∷ lists) (ys ∷ others) (suc v) long same = same
same_lengths none other place lists others v long same = absurd (omega (arith, long))

-- the members of each node, of which the first has one alone
pub members_alone : {A : Type 0} (P : List A → Type 0) (lists : List (List (List A))) (place n v : ℕ) → 0 < n → place < length (get_or lists 0 []) → ((w : ℕ) → w < n → All P (get_or lists w [])) → v < n → All P (get_or (first_alone [] place lists) v [])
members_alone P [] place n v some within each l = All-nil P
members_alone P (xs ∷ lists) place n zero some within each l = All-cons P (get_or xs place []) [] (each 0 some place [] within) (All-nil P)
members_alone P (xs ∷ lists) place n (suc v) some within each l = each (suc v) l
