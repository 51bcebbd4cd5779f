-- Records that are compiled already, principle use by principle use.
use Rattle.std.proofs.Common.{◌≡◌, ℕ, ◌+◌, ◌<◌, List, [], ◌∷◌, ◌++◌, length, get_or, take, sym, ap₂, ◌∙◌, subst}
use Rattle.std.specs.Prelude.{flat_map}
use Rattle.std.specs.List.{AllZip}
use Rattle.std.proofs.lemmas.Option.{get_or_from_slice_get}
use Rattle.xdg_problem.specs.declared.parts.Feat.{Feat}
use Rattle.xdg_principles.specs.declared.building.PrincipleUse.{PrincipleUse}
use Rattle.xdg_build.specs.Grammars.{Grammar, place_of_used}
use Rattle.xdg_build.specs.Groups.{features_in}
use Rattle.xdg_build.specs.Known.{features_dim, IsKnownFor}
use Rattle.xdg_build.specs.Rows.{AreKept}
use Rattle.xdg_facts.proofs.Lists.{some_at}
use Rattle.xdg_problem.specs.Principles.{feature_dim}
use Rattle.xdg_facts.proofs.Zips.{zip_turn as zip_next}

-- ---- two lists, place by place

pub zip_turn : {A B : Type 0} (R : A → B → Type 0) (xs : List A) (ys more : List B) (k : ℕ) (y : B) → ((x : A) → R x y) → k < length xs → AllZip R (take k xs) ys → more ≡ ys ++ y ∷ [] → AllZip R (take (k + 1) xs) more
zip_turn R xs ys more k y one within zip grown =
    let at = some_at xs k within in
    zip_next R xs ys more k at.0 y within (sym (get_or_from_slice_get xs k at.0 at.0 at.1)) zip (one at.0) grown

-- ---- one principle use

pub dim_is : (g : Grammar) (u : PrincipleUse) (used dims : List ℕ) (dim : ℕ) → used ≡ g.table.used → dims ≡ u.dims → dim ≡ place_of_used used (get_or dims (feature_dim u.principle) 0) → dim ≡ features_dim g u
dim_is g u used dims dim same_used same_dims is = is ∙ ap₂ (λ us ds. place_of_used us (get_or ds (feature_dim u.principle) 0)) same_used same_dims

pub known_of : (g : Grammar) (u : PrincipleUse) (dim : ℕ) (places : List ℕ) (kept : List (ℕ × List Feat)) → dim ≡ features_dim g u → places ≡ flat_map features_in u.args → IsKnownFor g u kept → AreKept g.lexicon.entries dim places kept
known_of g u dim places kept d p known =
    subst (λ n. AreKept g.lexicon.entries n places kept) (sym d) (subst (λ ps. AreKept g.lexicon.entries (features_dim g u) ps kept) (sym p) known)

pub known_for : (g : Grammar) (u : PrincipleUse) (dim : ℕ) (places : List ℕ) (kept : List (ℕ × List Feat)) → dim ≡ features_dim g u → places ≡ flat_map features_in u.args → AreKept g.lexicon.entries dim places kept → IsKnownFor g u kept
known_for g u dim places kept d p are =
    subst (λ ps. AreKept g.lexicon.entries (features_dim g u) ps kept) p (subst (λ n. AreKept g.lexicon.entries n places kept) d are)
