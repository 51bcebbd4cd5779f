-- What names lead to.
use Rattle.std.proofs.Common.{◌≡◌, ℕ, List, map, length, get_or, Some, Bor, sym, ◌∙◌, ap, subst, arith}
use Rattle.std.proofs.lemmas.List.{get_or-map, length-map}
use Rattle.xdg_ast.specs.declared.names.Name.{Name}
use Rattle.xdg_ast.specs.declared.types.TypeKind.{TypeKind}
use Rattle.xdg_domain.specs.Shapes.{Shape}
use Rattle.xdg_names.specs.Texts.{place_of}
use Rattle.xdg_types.specs.Written.{tree, named}
use Rattle.xdg_types.specs.Parts.{TypeTerm}
use Rattle.xdg_types.specs.Meaning.{meaning, IsHead}
use Rattle.xdg_typing.specs.Heads.{Knows, IsHeadOf}

-- a name that is found leads to the type at its place
pub found_head : (names : List ℕ → Shape) (known : List (List ℕ)) (heads : List (Bor TypeTerm)) (name : Name) (text : List ℕ) (k : ℕ) (kind : TypeKind) (head : Bor TypeTerm)
    → Knows names known (map (λ h. h.now) heads) → tree kind ≡ named name → text ≡ name.text → place_of known text ≡ Some k → head ≡ get_or heads k head → IsHeadOf names kind head.now.kind
found_head names known heads name text k kind head knows is same place at =
    let here = knows.found text k place in
    let len : length (map (λ h. h.now) heads) ≡ length heads = length-map heads (λ h. h.now) in
    let got : get_or (map (λ h. h.now) heads) k head.now ≡ head.now = get_or-map (λ h. h.now) heads k head head.now (omega (arith, len, here.0)) ∙ ap (λ h. h.now) (sym at) in
    let told = subst (λ (t : TypeTerm). (meaning names (tree t.kind) ≡ names text) × IsHead names (tree t.kind)) got (here.1 head.now) in
    (told.0 ∙ ap names same ∙ sym (ap (meaning names) is), told.1)
