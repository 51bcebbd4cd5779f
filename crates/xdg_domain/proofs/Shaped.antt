-- The tree of a type, variant by variant.
use Rattle.std.proofs.Common.{◌≡◌, ℕ, List, ap, ◌∙◌}
use Rattle.xdg_domain.specs.declared.types.Ty.{Ty, out-Ty, map-Ty, fold_out-Ty}
use Rattle.xdg_domain.specs.declared.types.Ty.TheOpen.{Ty-F}
use Rattle.xdg_domain.specs.declared.types.Ty.TheVariants as t
use Rattle.xdg_domain.specs.Shapes.{Shape, fields, layer, shape}
use Rattle.xdg_domain.proofs.Made.{seen}

pub by_layer : (ty : Ty) (l : Ty-F Ty) → out-Ty ty ≡ l → shape ty ≡ layer (map-Ty Ty Shape shape l)
by_layer ty l is = fold_out-Ty Shape layer ty ∙ ap (λ m. layer (map-Ty Ty Shape shape m)) is

pub shape_rec : (all : List (List ℕ × Ty)) → shape (t.Rec all) ≡ fields (seen all)
shape_rec all = by_layer (t.Rec all) (Ty-F.Rec all) (t.outs-Rec all)
