-- Different values have different spellings, and none is the front of another's.
use Rattle.std.proofs.Common.{◌≡◌, ℕ, Bool, true, false, List, [], ◌∷◌, ◌++◌, length, map, refl, sym, ap, ap₂, subst, ◌∙◌, arith}
use Rattle.std.proofs.lemmas.List.{append_assoc}
use Rattle.std.specs.Prelude.{codes}
use Rattle.xdg_domain.specs.declared.values.Value.{Value, out-Value, roll-Value, out-roll-Value, map-Value, fold_out-Value}
use Rattle.xdg_domain.specs.declared.values.Value.TheOpen.{Value-F}
use Rattle.xdg_domain.specs.declared.values.Value.TheFolds.{ind-Value}
use Rattle.xdg_packed.specs.Spelling.{number, each, numbers, keyed, text, layer, truth, spelling, spelling_of_fields}
use Rattle.xdg_packed.proofs.Digits.{apart, number_told}
use Rattle.xdg_facts.proofs.Lists.{head_of, tail_of}
use Rattle.xdg_facts.proofs.Fronts.{fronts_same}
use Rattle.xdg_domain.proofs.JoinLaws.{same_out}

-- what stands at the front of a text with this spelling is this element, and the rest is told
abbrev Told : {A : Type 0} → (A → List ℕ) → A → Type 0
Told {A} code x = (y : A) (r s : List ℕ) → code x ++ r ≡ code y ++ s → (x ≡ y) × (r ≡ s)

-- ---- lists, pairs and texts

abbrev EachTold : {A : Type 0} → (A → List ℕ) → List A → Type 0
EachTold code [] = Unit {0}
EachTold code (x ∷ xs) = Told code x × EachTold code xs

-- of each, where it holds of all
each_of_all : {A : Type 0} (code : A → List ℕ) → ((x : A) → Told code x) → (xs : List A) → EachTold code xs
each_of_all code all [] = tt
each_of_all code all (x ∷ xs) = (all x, each_of_all code all xs)

list_told : {A : Type 0} (code : A → List ℕ) (xs : List A) → EachTold code xs → Told (each code) xs
list_told code [] told [] r s e = (refl, tail_of 59 59 r s e)
list_told code [] told (y ∷ ys) r s e = absurd (omega (arith, head_of 59 44 r (code y ++ each code ys ++ s) e))
list_told code (x ∷ xs) told [] r s e = absurd (omega (arith, head_of 44 59 (code x ++ each code xs ++ r) s e))
list_told code (x ∷ xs) told (y ∷ ys) r s e =
    let first = told.0 y (each code xs ++ r) (each code ys ++ s)
    (sym (append_assoc (code x) (each code xs) r) ∙ tail_of 44 44 (code x ++ each code xs ++ r) (code y ++ each code ys ++ s) e ∙ append_assoc (code y) (each code ys) s) in
    let rest = list_told code xs told.1 ys r s first.1 in
    (ap₂ (λ z zs. z ∷ zs) first.0 rest.0, rest.1)

pair_told : {A : Type 0} (code : A → List ℕ) (k : ℕ) (x : A) → Told code x → Told {A = ℕ × A} (λ entry. number entry.0 ++ code entry.1) (k, x)
pair_told code k x told y r s e =
    let key = number_told k y.0 (code x ++ r) (code y.1 ++ s) (sym (append_assoc (number k) (code x) r) ∙ e ∙ append_assoc (number y.0) (code y.1) s) in
    let value = told y.1 r s key.1 in
    (ap₂ (λ a b. (a, b)) key.0 value.0, value.1)

text_told : (t : List ℕ) → Told text t
text_told t u r s e =
    let size = number_told (length t) (length u) (t ++ r) (u ++ s) (sym (append_assoc (number (length t)) t r) ∙ e ∙ append_assoc (number (length u)) u s) in
    fronts_same t u r s size.0 size.1

numbers_told : (ns : List ℕ) → Told numbers ns
numbers_told ns = list_told number ns (each_of_all number (λ n m r s e. number_told n m r s e) ns)

-- the spelling of numbers tells them
pub numbers_alone : (ns ms : List ℕ) → numbers ns ≡ numbers ms → ns ≡ ms
numbers_alone ns ms e = (numbers_told ns ms [] [] (ap (λ l. l ++ []) e)).0

cards_told : (entries : List (ℕ × List ℕ)) → EachTold (λ entry. number entry.0 ++ numbers entry.1) entries
cards_told [] = tt
cards_told (entry ∷ entries) = (pair_told numbers entry.0 entry.1 (numbers_told entry.1), cards_told entries)

valency_told : (entries : List (ℕ × List ℕ)) → Told (keyed numbers) entries
valency_told entries = list_told (λ entry. number entry.0 ++ numbers entry.1) entries (cards_told entries)

-- ---- values

-- one layer, what it holds being values
abbrev pub inner : Value-F Value → List ℕ
inner (Value-F.Const n) = codes "c" ++ number n
inner (Value-F.Tuple n) = codes "t" ++ number n
inner (Value-F.Set ns) = codes "s" ++ numbers ns
inner (Value-F.Card ns) = codes "n" ++ numbers ns
inner (Value-F.Valency entries) = codes "v" ++ keyed numbers entries
inner (Value-F.Map entries) = codes "m" ++ keyed spelling entries
inner (Value-F.Bool b) = codes "b" ++ truth b
inner (Value-F.Int n) = codes "i" ++ number n
inner (Value-F.Str bytes) = codes "q" ++ text bytes
inner (Value-F.Rec entries) = codes "r" ++ keyed spelling entries

keyed_spelled : (entries : List (ℕ × Value)) → keyed (λ spelled. spelled) (map (λ entry. (entry.0, spelling entry.1)) entries) ≡ keyed spelling entries
keyed_spelled [] = refl
keyed_spelled (entry ∷ entries) = ap (λ rest. codes "," ++ (number entry.0 ++ spelling entry.1) ++ rest) (keyed_spelled entries)

layer_is : (l : Value-F Value) → layer (map-Value Value (List ℕ) spelling l) ≡ inner l
layer_is (Value-F.Map entries) = ap (λ rest. codes "m" ++ rest) (keyed_spelled entries)
layer_is (Value-F.Rec entries) = ap (λ rest. codes "r" ++ rest) (keyed_spelled entries)
layer_is l = refl

pub spelling_is : (v : Value) → spelling v ≡ inner (out-Value v)
unfolding spelling
spelling_is v = fold_out-Value (List ℕ) layer v ∙ layer_is (out-Value v)

truth_told : (b : Bool) → Told truth b
truth_told true true r s e = (refl, tail_of 49 49 r s e)
truth_told true false r s e = absurd (apart 49 48 r s refl e)
truth_told false true r s e = absurd (apart 48 49 r s refl e)
truth_told false false r s e = (refl, tail_of 48 48 r s e)

-- a value that is told
abbrev Known : Type 0
Known = (v : Value) × Told spelling v

abbrev forget : Value-F Known → Value-F Value
forget z = map-Value Known Value (λ v. v.0) z

abbrev forget_each : List (ℕ × Known) → List (ℕ × Value)
forget_each entries = map (λ entry. (entry.0, entry.1.0)) entries

known_entries : (entries : List (ℕ × Known)) → EachTold {A = ℕ × Value} (λ entry. number entry.0 ++ spelling entry.1) (forget_each entries)
known_entries [] = tt
known_entries (entry ∷ entries) = (pair_told spelling entry.0 entry.1.0 entry.1.1, known_entries entries)

entries_told : (entries : List (ℕ × Known)) → Told (keyed spelling) (forget_each entries)
entries_told entries = list_told (λ entry. number entry.0 ++ spelling entry.1) (forget_each entries) (known_entries entries)

-- a mark and what follows it tell one variant
mark_told : {A : Type 0} (make : A → Value-F Value) (mark : ℕ) (spell : A → List ℕ) (x y : A) (r s : List ℕ) → Told spell x → mark ∷ (spell x ++ r) ≡ mark ∷ (spell y ++ s) → (make x ≡ make y) × (r ≡ s)
mark_told make mark spell x y r s told e = let rest = told y r s (tail_of mark mark (spell x ++ r) (spell y ++ s) e) in (ap make rest.0, rest.1)

-- what the layer holds is told, so the layer is
layer_told : (z : Value-F Known) (l : Value-F Value) (r s : List ℕ) → inner (forget z) ++ r ≡ inner l ++ s → (forget z ≡ l) × (r ≡ s)
layer_told (Value-F.Const n) (Value-F.Const m) r s e = mark_told Value-F.Const 99 number n m r s (number_told n) e
layer_told (Value-F.Tuple n) (Value-F.Tuple m) r s e = mark_told Value-F.Tuple 116 number n m r s (number_told n) e
layer_told (Value-F.Set ns) (Value-F.Set ms) r s e = mark_told Value-F.Set 115 numbers ns ms r s (numbers_told ns) e
layer_told (Value-F.Card ns) (Value-F.Card ms) r s e = mark_told Value-F.Card 110 numbers ns ms r s (numbers_told ns) e
layer_told (Value-F.Valency entries) (Value-F.Valency others) r s e = mark_told Value-F.Valency 118 (keyed numbers) entries others r s (valency_told entries) e
layer_told (Value-F.Map entries) (Value-F.Map others) r s e = mark_told Value-F.Map 109 (keyed spelling) (forget_each entries) others r s (entries_told entries) e
layer_told (Value-F.Bool b) (Value-F.Bool d) r s e = mark_told Value-F.Bool 98 truth b d r s (truth_told b) e
layer_told (Value-F.Int n) (Value-F.Int m) r s e = mark_told Value-F.Int 105 number n m r s (number_told n) e
layer_told (Value-F.Str bytes) (Value-F.Str others) r s e = mark_told Value-F.Str 113 text bytes others r s (text_told bytes) e
layer_told (Value-F.Rec entries) (Value-F.Rec others) r s e = mark_told Value-F.Rec 114 (keyed spelling) (forget_each entries) others r s (entries_told entries) e
layer_told z l r s e = absurd (apart _ _ _ _ refl e)

rolled_told : (z : Value-F Known) → Told spelling (roll-Value (forget z))
rolled_told z y r s e =
    let own : spelling (roll-Value (forget z)) ≡ inner (forget z) = spelling_is (roll-Value (forget z)) ∙ ap inner (out-roll-Value (forget z)) in
    let parts = layer_told z (out-Value y) r s (sym (ap (λ l. l ++ r) own) ∙ e ∙ ap (λ l. l ++ s) (spelling_is y)) in
    (same_out (roll-Value (forget z)) y (out-roll-Value (forget z) ∙ parts.0), parts.1)

-- each value is told by its spelling
pub value_told : (v : Value) → Told spelling v
value_told = ind-Value (λ v. Told spelling v) (λ x z is. subst (λ l. Told spelling (roll-Value l)) is (rolled_told z))

-- and each record
record_told : (xs : List (ℕ × Value)) → Told spelling_of_fields xs
record_told xs =
    list_told (λ entry. number entry.0 ++ spelling entry.1) xs (each_of_all (λ entry. number entry.0 ++ spelling entry.1) (λ entry. pair_told spelling entry.0 entry.1 (value_told entry.1)) xs)

pub fields_told : (xs ys : List (ℕ × Value)) → spelling_of_fields xs ≡ spelling_of_fields ys → xs ≡ ys
fields_told xs ys e = (record_told xs ys [] [] (ap (λ l. l ++ []) e)).0
