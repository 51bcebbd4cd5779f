-- The test of a default is exact.
use Rattle.std.proofs.Common.{◌≡◌, ℕ, ◌+◌, List, [], ◌∷◌, Bool, true, Some, length, map, refl, sym, ap, ap₂, ◌∙◌, inl, inr, true≢false}
use Rattle.std.specs.Prelude.{◌==◌, ◌&&◌}
use Rattle.std.specs.Bool.{Decides}
use Rattle.std.specs.List.{range_with_len}
use Rattle.std.specs.Str.{bytes_eq}
use Rattle.std.proofs.lemmas.Bool.Decides.{Decides-and, Decides-eqb, Decides-like}
use Rattle.std.proofs.lemmas.List.{length-map}
use Rattle.std.proofs.lemmas.List.FromFn.{length-range_with_len}
use Rattle.std.proofs.lemmas.Slice.Eq.{bytes_eq-Decides}
use Rattle.xdg_domain.specs.Cards.{cards}
use Rattle.xdg_domain.specs.Defaults.{default, for_each_key, map_of_default}
use Rattle.xdg_domain.specs.Shapes.{Shape, set, iset, card, valency, mapping, count, IsMapped, IsType}
use Rattle.xdg_domain.specs.declared.values.Value.{Value, out-Value}
use Rattle.xdg_domain.specs.declared.values.Value.TheOpen.{Value-F}
use Rattle.xdg_domain.specs.declared.values.Value.TheVariants as v
use Rattle.xdg_domain.proofs.DefaultLaws.{decided, mapped_plain}
use Rattle.xdg_print.specs.Defaulted.{counts_up, is_default}
use Rattle.xdg_domain.proofs.JoinLaws.{same_out}
use Rattle.xdg_facts.proofs.Options.{some_same}

-- ---- keys that count up

up_law : {V : Type 0} (test : V → Bool) (d : V) → ((w : V) → Decides (test w) (w ≡ d)) → (key : ℕ) (m : List (ℕ × V)) → Decides (counts_up test key m) (m ≡ map (λ n. (n, d)) (range_with_len key (length m)))
up_law test d law key [] = (λ _. refl, λ _. refl)
up_law {V} test d law key (entry ∷ m) =
    let later : List (ℕ × V) = map (λ n. (n, d)) (range_with_len (key + 1) (length m)) in
    Decides-like ((entry.0 == key) && test entry.1 && counts_up test (key + 1) m)
    (λ h. ap₂ (λ x xs. x ∷ xs) (ap₂ (λ n w. (n, w)) h.0.0 h.0.1) h.1)
    (λ h. let first : entry ≡ (key, d) = cc in let rest : m ≡ later = cc in ((ap (λ x. x.0) first, ap (λ x. x.1) first), rest))
    (Decides-and ((entry.0 == key) && test entry.1) (counts_up test (key + 1) m) (Decides-and (entry.0 == key) (test entry.1) (Decides-eqb entry.0 key) (law entry.1)) (up_law test d law (key + 1) m))

each_law : {V : Type 0} (test : V → Bool) (d : V) → ((w : V) → Decides (test w) (w ≡ d)) → (n : ℕ) (m : List (ℕ × V)) → Decides ((length m == n) && counts_up test 0 m) (m ≡ for_each_key n d)
each_law {V} test d law n m =
    let said : ℕ → ℕ × V = λ key. (key, d) in
    Decides-like ((length m == n) && counts_up test 0 m)
    (λ h. h.1 ∙ ap (λ k. map said (range_with_len 0 k)) h.0)
    (λ h. let long : length m ≡ n = ap length h ∙ length-map (range_with_len 0 n) said ∙ length-range_with_len 0 n in (long, h ∙ ap (λ k. map said (range_with_len 0 k)) (sym long)))
    (Decides-and (length m == n) (counts_up test 0 m) (Decides-eqb (length m) n) (up_law test d law 0 m))

-- ---- layers

set_law : (s : Shape) (l : Value-F Value) → Decides (is_default (set s) l) (Value-F.Set [] ≡ l)
set_law s (Value-F.Set ns) = Decides-like (bytes_eq ns []) (λ e. ap Value-F.Set (sym e)) (λ e. cc) (bytes_eq-Decides ns [])
set_law s l = (λ e. absurd (true≢false (sym e)), λ e. absurd (cc))

iset_law : (s : Shape) (l : Value-F Value) → Decides (is_default (iset s) l) (Value-F.Set (range_with_len 0 (count s)) ≡ l)
iset_law s (Value-F.Set ns) = Decides-like (bytes_eq ns (range_with_len 0 (count s))) (λ e. ap Value-F.Set (sym e)) (λ e. cc) (bytes_eq-Decides ns (range_with_len 0 (count s)))
iset_law s l = (λ e. absurd (true≢false (sym e)), λ e. absurd (cc))

card_law : (l : Value-F Value) → Decides (is_default card l) (Value-F.Card (cards (λ _. true)) ≡ l)
card_law (Value-F.Card ns) = Decides-like (bytes_eq ns (cards (λ _. true))) (λ e. ap Value-F.Card (sym e)) (λ e. cc) (bytes_eq-Decides ns (cards (λ _. true)))
card_law l = (λ e. absurd (true≢false (sym e)), λ e. absurd (cc))

valency_law : (k : Shape) (l : Value-F Value) → Decides (is_default (valency k) l) (Value-F.Valency (for_each_key (count k) (0 ∷ [])) ≡ l)
valency_law k (Value-F.Valency m) =
    Decides-like ((length m == count k) && counts_up (λ ns. bytes_eq ns (0 ∷ [])) 0 m) (λ e. ap Value-F.Valency (sym e)) (λ e. cc) (each_law (λ ns. bytes_eq ns (0 ∷ [])) (0 ∷ []) (λ ns. bytes_eq-Decides ns (0 ∷ [])) (count k) m)
valency_law k l = (λ e. absurd (true≢false (sym e)), λ e. absurd (cc))

map_law : (k u : Shape) (d : Value) → ((w : Value) → Decides (is_default u (out-Value w)) (w ≡ d)) → (l : Value-F Value) → Decides (is_default (mapping k u) l) (Value-F.Map (for_each_key (count k) d) ≡ l)
map_law k u d law (Value-F.Map m) =
    Decides-like ((length m == count k) && counts_up (λ w. is_default u (out-Value w)) 0 m) (λ e. ap Value-F.Map (sym e)) (λ e. cc) (each_law (λ w. is_default u (out-Value w)) d law (count k) m)
map_law k u d law l = (λ e. absurd (true≢false (sym e)), λ e. absurd (cc))

-- ---- values

-- a test that is exact on layers is exact on values
lifted : (b : Bool) (d x : Value) (l : Value-F Value) → out-Value d ≡ l → Decides b (l ≡ out-Value x) → Decides b (Some d ≡ Some x)
lifted b d x l is law = Decides-like b (λ e. ap Some (same_out d x (is ∙ e))) (λ e. sym is ∙ ap out-Value (some_same d x e)) law

pub default_law : (s : Shape) → IsMapped s → IsType s → (x : Value) → Decides (is_default s (out-Value x)) (default s ≡ Some x)
default_law (set s) mapped right x = lifted _ (v.Set []) x (Value-F.Set []) (v.outs-Set []) (set_law s (out-Value x))
default_law (iset s) mapped right x = lifted _ (v.Set (range_with_len 0 (count s))) x (Value-F.Set (range_with_len 0 (count s))) (v.outs-Set (range_with_len 0 (count s))) (iset_law s (out-Value x))
default_law card mapped right x = lifted _ (v.Card (cards (λ _. true))) x (Value-F.Card (cards (λ _. true))) (v.outs-Card (cards (λ _. true))) (card_law (out-Value x))
default_law (valency k) mapped right x =
    lifted _ (v.Valency (for_each_key (count k) (0 ∷ []))) x (Value-F.Valency (for_each_key (count k) (0 ∷ []))) (v.outs-Valency (for_each_key (count k) (0 ∷ []))) (valency_law k (out-Value x))
default_law (mapping k u) mapped right x = elim (decided u right.1.1) [
  | inl none ↦ absurd (mapped_plain u right.1.0 none.1)
  | inr some ↦
      let d : Value = some.1.0 in
      let all : List (ℕ × Value) = for_each_key (count k) d in
      let law : (w : Value) → Decides (is_default u (out-Value w)) (w ≡ d) = λ w.
      Decides-like (is_default u (out-Value w)) (λ e. some_same w d (sym e ∙ some.1.1)) (λ e. some.1.1 ∙ ap Some (sym e)) (default_law u right.1.0 right.1.1 w) in
      let is : default (mapping k u) ≡ Some (v.Map all) = ap (map_of_default (count k)) some.1.1 in
      Decides-like (is_default (mapping k u) (out-Value x)) (λ e. is ∙ e) (λ e. sym is ∙ e) (lifted _ (v.Map all) x (Value-F.Map all) (v.outs-Map all) (map_law k u d law (out-Value x)))
]
default_law _ mapped right x = absurd mapped

-- ---- full sets
