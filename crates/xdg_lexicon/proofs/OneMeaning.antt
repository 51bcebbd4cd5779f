-- A term means one value at most where a type is wanted, and a record says one thing of each dimension.
use Rattle.std.proofs.Common.{◌≡◌, inl, inr, ℕ, ◌<◌, zero, suc, List, [], length, Option, Some, None, refl, sym, ap, ◌∙◌, subst, arith, codes}
use Rattle.std.specs.Prelude.{Bool, true, false, bytes_eq}
use Rattle.std.proofs.lemmas.Bool.{cases_Bool, true≢false}
use Rattle.std.proofs.lemmas.List.{ext_get_or}
use Rattle.xdg_ast.specs.declared.names.Name.{Name}
use Rattle.xdg_domain.specs.Shapes.{Shape, domain, tuple, truth, integer, text, set, iset, card, valency, mapping, fields, Fields, no_field, field_then, sizes, constants, constants_of, IsType, AreTypes}
use Rattle.xdg_domain.specs.Tuples.{index, places}
use Rattle.xdg_domain.specs.Valencies.{said_at}
use Rattle.xdg_domain.specs.declared.values.Value.{Value, out-Value}
use Rattle.xdg_domain.specs.declared.values.Value.TheOpen.{Value-F}
use Rattle.xdg_domain.proofs.Keyed.{said_same}
use Rattle.xdg_domain.proofs.Numbers.{allows_unique}
use Rattle.xdg_domain.proofs.TupleNumbers.{index_of_places, places_in_range}
use Rattle.xdg_terms.specs.Forms.{Term, Card, Bindings, bound, counts_of, pairs_of}
use Rattle.xdg_terms.specs.Offences.{all_told}
use Rattle.xdg_terms.specs.Means.{chosen, truth_text, AllowedBy, written_for, written_at, Said, MeansIn, MeansField}
use Rattle.xdg_types.specs.Table.{KeepDims}
use Rattle.xdg_types.specs.declared.table.DimType.{DimType}
use Rattle.xdg_classes.specs.Bodies.{Pairs}
use Rattle.xdg_lexicon.specs.Partial.{Record, Partial, features, SaysFields, SaysRecord, written}
use Rattle.xdg_types.proofs.Kept.{keeps_found}
use Rattle.xdg_lexicon.proofs.Dims.{types_of}
use Rattle.xdg_facts.proofs.Lists.{some_at}
use Rattle.xdg_facts.proofs.Truths.{same_flag, and_self}
use Rattle.xdg_facts.proofs.Texts.{same_text, is_same}
use Rattle.xdg_facts.specs.Rises.{has}
use Rattle.xdg_terms.proofs.Meant.{same_chosen}
use Rattle.xdg_domain.proofs.JoinLaws.{same_out}
use Rattle.xdg_ast.specs.Texts.{texts as texts_of}
use Rattle.xdg_facts.proofs.In.{one_place}
use Rattle.xdg_facts.proofs.Merging.{increasing_same}
use Rattle.xdg_facts.proofs.Options.{one_value as one_there}

-- ---- places of constants

one_truth : (a b : Bool) → truth_text a ≡ truth_text b → a ≡ b
one_truth true true e = refl
one_truth false false e = refl
one_truth true false e = absurd (true≢false (sym (is_same (codes "true") (codes "false") e)))
one_truth false true e = absurd (true≢false (sym (is_same (codes "false") (codes "true") e)))

one_allowed : (written : Card) (a b : List ℕ) → AllowedBy written a → AllowedBy written b → a ≡ b
one_allowed written a b h k = allows_unique a a a b (h.0, λ n. sym (and_self (has a n))) (k.0, λ n. k.1 n ∙ sym (h.1 n) ∙ sym (and_self (has a n)))

said_once : {A V : Type 0} (P : A → V → Type 0) → ((a : A) (x y : V) → P a x → P a y → x ≡ y) → (o : Option A) (s t : Option V) → Said P o s → Said P o t → s ≡ t
said_once P once None None None h k = refl
said_once P once (Some a) (Some x) (Some y) h k = ap (λ z. Some z) (once a x y h k)
said_once P once o s t h k = absurd (assumption (h, k))

-- ---- values

mutual
  one_value : (bs : Bindings) (s : Shape) (t : Term) (x y : Value-F Value) → IsType s → MeansIn bs s t x → MeansIn bs s t y → x ≡ y
  one_value bs (domain cs) t (Value-F.Const a) (Value-F.Const b) type h k =
      ap Value-F.Const (one_place cs a b type.1 h.1.1.0 k.1.1.0 (h.1.1.1 ∙ ap (λ (z : Name). z.text) (one_there _ h.0 k.0 h.1.0 k.1.0) ∙ sym k.1.1.1))
  one_value bs (tuple ss) t (Value-F.Tuple a) (Value-F.Tuple b) type h k =
      let texts : chosen (constants_of ss) (places (sizes ss) a) ≡ chosen (constants_of ss) (places (sizes ss) b) = h.1.1.1 ∙ ap texts_of (one_there _ h.1.0 k.1.0 h.1.1.0 k.1.1.0) ∙ sym k.1.1.1 in
      let alike = same_chosen ss (places (sizes ss) a) (places (sizes ss) b) type.domains (places_in_range (sizes ss) a h.0) (places_in_range (sizes ss) b k.0) texts in
      ap Value-F.Tuple (sym (index_of_places (sizes ss) a h.0) ∙ ap (index (sizes ss)) alike ∙ index_of_places (sizes ss) b k.0)
  one_value bs truth t (Value-F.Bool a) (Value-F.Bool b) type h k =
      ap Value-F.Bool (one_truth a b (sym h.1.1 ∙ ap (λ (z : Name). z.text) (one_there _ h.0 k.0 h.1.0 k.1.0) ∙ k.1.1))
  one_value bs integer t (Value-F.Int a) (Value-F.Int b) type h k = ap Value-F.Int (one_there _ a b h k)
  one_value bs text t (Value-F.Str a) (Value-F.Str b) type h k = ap Value-F.Str (sym h.1.1 ∙ ap (λ (z : Name). z.text) (one_there _ h.0 k.0 h.1.0 k.1.0) ∙ k.1.1)
  one_value bs (set s) t (Value-F.Set a) (Value-F.Set b) type h k =
      ap Value-F.Set (increasing_same a b h.0 k.0 (λ n. same_flag (has a n) (has b n) (λ e. (k.1 n).1 ((h.1 n).0 e)) (λ e. (h.1 n).1 ((k.1 n).0 e))))
  one_value bs (iset s) t (Value-F.Set a) (Value-F.Set b) type h k =
      ap Value-F.Set (increasing_same a b h.0 k.0 (λ n. same_flag (has a n) (has b n) (λ e. (k.1 n).1 ((h.1 n).0 e)) (λ e. (h.1 n).1 ((k.1 n).0 e))))
  one_value bs card t (Value-F.Card a) (Value-F.Card b) type h k =
      ap Value-F.Card (one_allowed h.0 a b h.1.1 (subst (λ (w : Card). AllowedBy w b) (one_there _ k.0 h.0 k.1.0 h.1.0) k.1.1))
  one_value bs (valency key) t (Value-F.Valency a) (Value-F.Valency b) type h k =
      ap Value-F.Valency (said_same 0 a b h.0 k.0 (λ n. said_once AllowedBy one_allowed (written_at (all_told (counts_of t)) (constants key) n) (said_at a n) (said_at b n) (h.1 n) (k.1 n)))
  one_value bs (mapping key u) t (Value-F.Map a) (Value-F.Map b) type h k =
      ap Value-F.Map (said_same 0 a b h.0 k.0 (λ n. said_once (λ r v. MeansIn bs u (bound bs r) (out-Value v)) (λ r x y i j. same_out x y (one_value bs u (bound bs r) (out-Value x) (out-Value y) type.1.1 i j)) (written_at (all_told (pairs_of t)) (constants key) n) (said_at a n) (said_at b n) (h.1 n) (k.1 n)))
  one_value bs (fields fs) t (Value-F.Rec a) (Value-F.Rec b) type h k =
      ap Value-F.Rec (said_same 0 a b h.0 k.0 (λ n. one_field bs fs (all_told (pairs_of t)) n (said_at a n) (said_at b n) type.1 (h.1 n) (k.1 n)))
  one_value bs _ t _ _ type h k = absurd (assumption (h, k))

  one_field : (bs : Bindings) (fs : Fields) (pairs : List (Name × Term)) (key : ℕ) (x y : Option Value) → AreTypes fs → MeansField bs fs pairs key x → MeansField bs fs pairs key y → x ≡ y
  one_field bs no_field pairs key x y types h k = h ∙ sym k
  one_field bs (field_then name u fs) pairs zero x y types h k =
      said_once (λ r v. MeansIn bs u (bound bs r) (out-Value v)) (λ r v w i j. same_out v w (one_value bs u (bound bs r) (out-Value v) (out-Value w) types.0 i j)) (written_for pairs name) x y h k
  one_field bs (field_then name u fs) pairs (suc key) x y types h k = one_field bs fs pairs key x y types.1 h k

-- ---- records

one_said : (bs : Bindings) (fs : Fields) (pairs : Pairs) (m n : Record) → AreTypes fs → SaysFields bs fs pairs m → SaysFields bs fs pairs n → m ≡ n
one_said bs fs pairs m n types h k = said_same 0 m n h.0 k.0 (λ key. one_field bs fs (written pairs) key (said_at m key) (said_at n key) types (h.1 key) (k.1 key))

-- one partial entry says what is written of a dimension
pub one_record : (dims : List DimType) (bs : Bindings) (name : List ℕ) (pairs : Pairs) (p q : Partial) → KeepDims dims → SaysRecord dims bs name pairs p → SaysRecord dims bs name pairs q → p ≡ q
one_record dims bs name pairs p q keeps h k = ext_get_or [] p q (h.count ∙ sym k.count) (λ i within.
    let inside : i < length dims = (let long = h.count in omega (arith, within, long)) in
    let at = some_at dims i inside in
    let dim : DimType = at.0 in
    elim (cases_Bool (bytes_eq dim.name name)) [
      | inl t ↦ let is = same_text dim.name name t in one_said bs (features dim) pairs _ _ (types_of dim.fields (keeps_found dims i dim at.1 keeps).features) (h.said i dim at.1 is) (k.said i dim at.1 is)
      | inr f ↦ let other : dim.name ≡ name → ⊥ = λ is. true≢false (sym (is_same dim.name name is) ∙ f) in h.unsaid i dim at.1 other ∙ sym (k.unsaid i dim at.1 other)
    ])
