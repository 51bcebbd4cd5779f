-- The constants of a tuple, and what a generator asks of them.
use Rattle.std.proofs.Common.{◌≡◌, ℕ, List, [], ◌∷◌, map, refl, ap, sym, ◌∙◌}
use Rattle.std.specs.Prelude.{Bool, Result, Ok, Err, IfOk}
use Rattle.std.specs.declared.alloc.AllocError.{AllocError}
use Rattle.std.specs.List.Sorted.{IsStrictlyIncreasing}
use Rattle.std.specs.List.{list_any, list_all}
use Rattle.xdg_ast.specs.declared.names.Spanned.{Spanned}
use Rattle.xdg_ast.specs.declared.terms.GenKind.{GenKind}
use Rattle.xdg_ast.specs.declared.terms.GenKind.TheVariants as g
use Rattle.xdg_ast.specs.declared.terms.GenKind.TheOpen.{GenKind-F}
use Rattle.xdg_ast.specs.declared.terms.GenKind.TheFolds.{fold-roll-GenKind}
use Rattle.xdg_domain.specs.Shapes.{Shape, count}
use Rattle.xdg_terms.specs.Forms.{Gen}
use Rattle.xdg_terms.specs.Built.{texts_at, generated}
use Rattle.xdg_terms.specs.Means.{fulfils, fulfils_step}
use Rattle.xdg_facts.specs.Rises.{has, numbers_below}
use Rattle.xdg_facts.proofs.Merging.{increasing_same, numbers_increase}

-- ---- generators, a form at a time

abbrev with_kind : {A B : Type 0} → (A → B) → Spanned A → Spanned B
with_kind f part = record { kind = f part.kind; span = part.span }

all_mapped : {A : Type 0} (f : A → Bool) (xs : List (Spanned A)) → list_all (λ part. part.kind) (map (with_kind f) xs) ≡ list_all (λ part. f part.kind) xs
all_mapped f [] = refl
all_mapped f (x ∷ xs) = rw (all_mapped f xs) refl

any_mapped : {A : Type 0} (f : A → Bool) (xs : List (Spanned A)) → list_any (λ part. part.kind) (map (with_kind f) xs) ≡ list_any (λ part. f part.kind) xs
any_mapped f [] = refl
any_mapped f (x ∷ xs) = rw (any_mapped f xs) refl

pub fulfils-And : (cs : List (List ℕ)) (members : List (Spanned GenKind)) → fulfils cs (g.And members) ≡ list_all (λ member. fulfils cs member.kind) members
fulfils-And cs members = ap (fulfils cs) (sym (g.rolls-And members)) ∙ (fold-roll-GenKind Bool (fulfils_step cs) (GenKind-F.And members) ∙ all_mapped (fulfils cs) members)

pub fulfils-Or : (cs : List (List ℕ)) (members : List (Spanned GenKind)) → fulfils cs (g.Or members) ≡ list_any (λ member. fulfils cs member.kind) members
fulfils-Or cs members = ap (fulfils cs) (sym (g.rolls-Or members)) ∙ (fold-roll-GenKind Bool (fulfils_step cs) (GenKind-F.Or members) ∙ any_mapped (fulfils cs) members)

-- ---- one field of a tuple more

-- the set of what was found
pub told_set : (s : Shape) (gen : Gen) (found : List ℕ) (bound : ℕ) (r : Result (List ℕ) AllocError) → bound ≡ count s → found ≡ numbers_below bound (λ n. fulfils (texts_at s n) gen.kind)
    → IfOk r (λ made. (n : ℕ) → has made n ≡ has found n) → IfOk r IsStrictlyIncreasing → IfOk r (λ made. made ≡ generated s gen)
unfolding generated
told_set s gen found bound (Ok made) full is same rises =
    let whole : found ≡ generated s gen = is ∙ ap (λ b. numbers_below b (λ n. fulfils (texts_at s n) gen.kind)) full in
    increasing_same made (generated s gen) rises (numbers_increase (count s) (λ n. fulfils (texts_at s n) gen.kind)) (λ n. same n ∙ ap (λ l. has l n) whole)
told_set s gen found bound (Err e) full is same rises = tt
