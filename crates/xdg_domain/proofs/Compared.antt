-- Values and lists that are the same, and such as differ.
use Rattle.std.proofs.Common.{◌≡◌, true, ap, sym, ◌∙◌}
use Rattle.std.specs.Prelude.{◌↔◌, Bool}
use Rattle.xdg_domain.specs.declared.values.Value.{Value, out-Value}
use Rattle.xdg_domain.specs.declared.values.Value.TheOpen.{Value-F}

-- values of one layer are the same where what they are made of is
pub made : {A : Type 0} (f : A → Value) (layer : A → Value-F Value) → ((x : A) → out-Value (f x) ≡ layer x) → ((x y : A) → layer x ≡ layer y → x ≡ y)
    → (same : Bool) (one other : Value) (x y s t : A) → one ≡ f x → other ≡ f y → s ≡ x → t ≡ y → ((same ≡ true) ↔ (s ≡ t)) → (same ≡ true) ↔ (one ≡ other)
made f layer outs apart same one other x y s t is_one is_other is_s is_t told = (
  λ h. is_one ∙ ap f (sym is_s ∙ told.0 h ∙ is_t) ∙ sym is_other,
  λ h. told.1 (is_s ∙ apart x y (sym (outs x) ∙ ap out-Value (sym is_one ∙ h ∙ is_other) ∙ outs y) ∙ sym is_t),
)
