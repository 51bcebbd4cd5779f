-- The names of the dimensions that are made, by number.
use Rattle.std.proofs.Common.{◌≡◌, inl, inr, ℕ, zero, suc, ◌+◌, ◌<◌, Bool, true, false, ◌||◌, List, [], ◌∷◌, ◌++◌, length, take, get_or, map, add-one, ap, ap₂, sym, ◌∙◌, refl, subst, arith}
use Rattle.std.specs.Prelude.{not, if◌then◌else◌}
use Rattle.std.specs.Str.{bytes_eq}
use Rattle.std.proofs.Math.Seq.{take-suc}
use Rattle.std.proofs.lemmas.Bool.{cases_Bool}
use Rattle.std.proofs.lemmas.List.{map-append}
use Rattle.std.proofs.lemmas.Slice.Eq.{bytes_eq-Decides}
use Rattle.xdg_domain.specs.Shapes.{Shape}
use Rattle.xdg_names.specs.Texts.{has_text}
use Rattle.xdg_types.specs.declared.table.DimType.{DimType}
use Rattle.xdg_types.specs.Parts.{Dimension}
use Rattle.xdg_types.specs.Table.{AreDims}
use Rattle.xdg_facts.specs.Membership.{In, Differ}
use Rattle.xdg_facts.proofs.In.{in_get, map_in}
use Rattle.xdg_ast.specs.Texts.{texts}

-- ---- names by number

abbrev pub names_in : List DimType → List (List ℕ)
names_in dims = map (λ dim. dim.name) dims

module _ {A : Type 0} (name : A → List ℕ) where
  fresh : (xs : List A) (k : ℕ) (d : A) → Differ (map name xs) → k < length xs → has_text (map name (take k xs)) (name (get_or xs k d)) ≡ false
  fresh [] k d differ h = absurd (omega arith)
  fresh (x ∷ xs) zero d differ h = refl
  fresh (x ∷ xs) (suc k) d differ h =
      let less : k < length xs = omega arith in
      let t = name (get_or xs k d) in
      let other : bytes_eq (name x) t ≡ false = elim (cases_Bool (bytes_eq (name x) t)) [
        | inl e ↦ absurd (differ.0 (subst (In (map name xs)) (sym ((bytes_eq-Decides (name x) t).0 e)) (map_in name xs (get_or xs k d) (in_get xs k d less))))
        | inr e ↦ e
      ] in
      ap (λ b. b || has_text (map name (take k xs)) t) other ∙ fresh xs k d differ.1 less

  pub name_added : (xs : List A) (k : ℕ) (x : A) (all next : List (List ℕ)) (text : List ℕ) (added : Bool) → Differ (map name xs) → k < length xs → x ≡ get_or xs k x → text ≡ name x
      → added ≡ not (has_text all text) → next ≡ (if added then all ++ text ∷ [] else all) → all ≡ map name (take k xs) → next ≡ map name (take (k + 1) xs)
  name_added xs k x all next text added differ within at named new grown before =
      let front : take (k + 1) xs ≡ take k xs ++ x ∷ [] = rw add-one (take-suc xs k x within ∙ ap (λ z. take k xs ++ z ∷ []) (sym at)) in
      let alone : has_text all text ≡ false = ap (λ ts. has_text ts text) before ∙ ap (has_text (map name (take k xs))) (named ∙ ap name at) ∙ fresh xs k x differ within in
      let is : added ≡ true = new ∙ ap not alone in
      grown ∙ ap (λ b. if b then all ++ text ∷ [] else all) is ∙ ap (λ ts. ts ++ text ∷ []) before ∙ ap (λ t. map name (take k xs) ++ t ∷ []) named
      ∙ sym (map-append name (take k xs) (x ∷ [])) ∙ sym (ap (map name) front)

-- the names are those of the text
pub names_made : (names : List ℕ → Shape) (ds : List Dimension) (made : List DimType) → AreDims names ds made → names_in made ≡ texts (map (λ d. d.0) ds)
names_made names [] [] are = refl
names_made names [] (one ∷ made) are = absurd are
names_made names (d ∷ ds) [] are = absurd are
names_made names (d ∷ ds) (one ∷ made) are = ap₂ (λ t ts. t ∷ ts) are.0.name (names_made names ds made are.1)
