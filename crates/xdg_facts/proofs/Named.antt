-- Things whose names differ.
use Rattle.std.proofs.Common.{Some, List, map, sym, slice_get, ℕ, ap, ◌≡◌, ◌∙◌}
use Rattle.xdg_facts.proofs.In.{differ_once, at_once}
use Rattle.xdg_facts.proofs.Options.{some_same}
use Rattle.xdg_facts.specs.Membership.{Differ, In}
use Rattle.xdg_facts.proofs.Lists.{map_at}

-- of things whose names differ one has each name
module _ {A : Type 0} (name : A → List ℕ) where
  pub one_named : (xs : List A) (x y : A) → Differ (map name xs) → In xs x → In xs y → name x ≡ name y → x ≡ y
  one_named xs x y differ h k e =
      let i = at_once xs x h in
      let j = at_once xs y k in
      let same = differ_once (map name xs) i.0 j.0 (name x) differ (map_at name xs i.0 x i.1) (map_at name xs j.0 y j.1 ∙ ap Some (sym e)) in
      some_same x y (sym i.1 ∙ ap (slice_get xs) same ∙ j.1)
