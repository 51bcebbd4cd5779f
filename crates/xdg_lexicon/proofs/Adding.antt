-- Entries added one by one, without those that stand there already.
use Rattle.std.proofs.Common.{◌≡◌, inl, inr, ℕ, ◌+◌, ◌<◌, ◌≤◌, length, get_or, drop, List, [], ◌∷◌, ◌++◌, None, Some, refl, sym, ap, ap₂, ◌∙◌, subst}
use Rattle.std.proofs.lemmas.List.{drop_all}
use Rattle.xdg_types.specs.Table.{Table}
use Rattle.xdg_packed.specs.Lexicon.{Entry}
use Rattle.xdg_packed.specs.Packing.{Puts}
use Rattle.xdg_lexicon.specs.Partial.{Partial}
use Rattle.xdg_lexicon.specs.Lexicon.{whole, AreWhole, Adds, nothing_more, known_before, new}
use Rattle.xdg_facts.proofs.Lists.{from_place}
use Rattle.xdg_facts.specs.Membership.{In}
use Rattle.xdg_facts.proofs.Options.{one_value}

-- ---- what is added is told

pub same_added : (known more all others : List Entry) → Adds known more all → Adds known more others → all ≡ others
same_added _ _ _ _ (nothing_more known) (nothing_more _) = refl
same_added known _ all others (known_before _ more _ e s a) (known_before _ _ _ _ t b) = same_added known more all others a b
same_added known _ all others (known_before _ more _ e s a) (new _ _ _ _ n b) = absurd (n s)
same_added known _ all others (new _ more _ e n a) (known_before _ _ _ _ s b) = absurd (n s)
same_added known _ all others (new _ more _ e n a) (new _ _ _ _ m b) = same_added (known ++ e ∷ []) more all others a b

-- ---- whole entries

pub same_whole : (table : Table) (ps : List Partial) (es ds : List Entry) → AreWhole table ps es → AreWhole table ps ds → es ≡ ds
same_whole table [] [] [] a b = refl
same_whole table (p ∷ ps) (e ∷ es) (d ∷ ds) a b = ap₂ (λ x xs. x ∷ xs) (one_value (whole table p) e d a.0 b.0) (same_whole table ps es ds a.1 b.1)
same_whole table _ _ _ a b = absurd (assumption (a, b))

-- where each is whole, none lacks a feature
pub none_lacks : (table : Table) (ps : List Partial) (es : List Entry) (p : Partial) → AreWhole table ps es → In ps p → whole table p ≡ None → ⊥
none_lacks table [] es p a stands none = stands
none_lacks table (q ∷ ps) [] p a stands none = a
none_lacks table (q ∷ ps) (e ∷ es) p a stands none = elim stands [
  | inl is ↦ (let some = a.0 in let lacks = ap (whole table) is ∙ none in cc)
  | inr later ↦ none_lacks table ps es p a.1 later none
]

-- ---- one after the other

-- What adding the rest behind those so far comes to is what adding all comes to.
abbrev pub AddsSoFar : Table → List Entry → List Partial → ℕ → List Entry → Type 0
AddsSoFar table known ps i now =
    (rest all : List Entry) → AreWhole table (drop i ps) rest → Adds now rest all → (made : List Entry) × (AreWhole table ps made × Adds known made all)

module _ (table : Table) (known : List Entry) (ps : List Partial) where
  pub adds_begun : (now : List Entry) → now ≡ known → AddsSoFar table known ps 0 now
  adds_begun now is rest all w a = (rest, (w, subst (λ k. Adds k rest all) is a))

  put_first : (now next rest all : List Entry) (e : Entry) → Puts now e next → Adds next rest all → Adds now (e ∷ rest) all
  put_first now next rest all e (inl p) a = known_before now rest all e p.0 (subst (λ k. Adds k rest all) p.1 a)
  put_first now next rest all e (inr p) a = new now rest all e p.0 (subst (λ k. Adds k rest all) p.1 a)

  pub adds_further : (i : ℕ) (now next : List Entry) (p : Partial) (e : Entry) → i < length ps → p ≡ get_or ps i p → whole table p ≡ Some e → Puts now e next → AddsSoFar table known ps i now → AddsSoFar table known ps (i + 1) next
  adds_further i now next p e within is made puts so_far rest all w a =
      so_far (e ∷ rest) all (subst (λ l. AreWhole table l (e ∷ rest)) (sym (from_place ps i p within is)) (made, w)) (put_first now next rest all e puts a)

  pub adds_done : (i : ℕ) (now : List Entry) → length ps ≤ i → AddsSoFar table known ps i now → (made : List Entry) × (AreWhole table ps made × Adds known made now)
  adds_done i now past so_far = so_far [] now (subst (λ l. AreWhole table l []) (sym (drop_all i ps past)) tt) (nothing_more now)
