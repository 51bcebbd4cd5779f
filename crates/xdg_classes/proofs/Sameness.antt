-- Lists that are the same one by one.
use Rattle.std.proofs.Common.{◌≡◌, ℕ, List, sym, ap, ◌∙◌}
use Rattle.xdg_domain.specs.declared.types.Ty.{Ty}
use Rattle.xdg_domain.specs.declared.types.Ty.TheVariants as y
use Rattle.xdg_domain.specs.Shapes.{fields, shape}
use Rattle.xdg_terms.specs.Faults.{fields_in}
use Rattle.xdg_domain.proofs.Shaped.{shape_rec as record_shape}

-- record types whose fields have the same shapes
pub same_records : (one other : Ty) (xs ys ps qs : List (List ℕ × Ty)) → one ≡ y.Rec xs → other ≡ y.Rec ys → ps ≡ xs → qs ≡ ys → fields_in ps ≡ fields_in qs → shape one ≡ shape other
same_records one other xs ys ps qs is at p q same =
    ap shape is ∙ record_shape xs ∙ ap (λ zs. fields (fields_in zs)) (sym p) ∙ ap fields same ∙ ap (λ zs. fields (fields_in zs)) q ∙ sym (ap shape at ∙ record_shape ys)
