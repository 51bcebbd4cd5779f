-- What a packed lexicon asks of the entries of a grammar: each has a word, and as many records as the others.
use Rattle.std.proofs.Common.{◌≡◌, ℕ, zero, suc, ◌+◌, List, [], ◌∷◌, length, get_or, All, codes, refl, sym, ◌∙◌, subst, arith}
use Rattle.std.specs.Prelude.{Option, None, Some, MatchOption, slice_get}
use Rattle.std.proofs.lemmas.List.Elements.{All-nil, All-cons}
use Rattle.xdg_domain.specs.Defaults.{IsFilledIn, AreFilled}
use Rattle.xdg_domain.specs.Shapes.{Shape, text, fields_of}
use Rattle.xdg_domain.specs.Valencies.{said_at}
use Rattle.xdg_domain.specs.Values.{IsIn, IsFieldOf, EachSaid}
use Rattle.xdg_domain.specs.declared.values.Value.{Value, out-Value}
use Rattle.xdg_domain.specs.declared.values.Value.TheOpen.{Value-F}
use Rattle.xdg_domain.specs.declared.values.Value.TheVariants as v
use Rattle.xdg_domain.proofs.Keyed.{said_right}
use Rattle.xdg_types.specs.declared.table.DimType.{DimType}
use Rattle.xdg_types.specs.Table.{Table, Typed, typed}
use Rattle.xdg_packed.specs.Lexicon.{Record, Entry, IsText, IsTextIn, HasWord, AreAsLong}
use Rattle.xdg_packed.specs.Entries.{IsWhole, IsEntry, AreEntries, IsWordPlace, record_type}
use Rattle.xdg_facts.proofs.Options.{some_same}

-- ---- a record

told : (o : Option Value) (P : Value → Type 0) → MatchOption o ⊥ P → (x : Value) × (o ≡ Some x)
told None P h = absurd h
told (Some x) P h = (x, refl)

filled_at : (all : Typed) (place at k : ℕ) (f : List ℕ × Shape) (m : Record) → at ≡ place + k → slice_get all k ≡ Some f → AreFilled place (fields_of all) m → (x : Value) × (said_at m at ≡ Some x)
filled_at [] place at k f m same h filled = absurd cc
filled_at (one ∷ all) place at zero f m same h filled =
    let here : place ≡ at = omega (arith, same) in
    told (said_at m at) (λ x. IsFilledIn one.1 (out-Value x)) (subst (λ n. MatchOption (said_at m n) ⊥ (λ x. IsFilledIn one.1 (out-Value x))) here filled.0)
filled_at (one ∷ all) place at (suc k) f m same h filled = filled_at all (place + 1) at k f m (omega (arith, same)) h filled.1

field_in : (all : Typed) (k : ℕ) (f : List ℕ × Shape) (x : Value) → slice_get all k ≡ Some f → IsFieldOf (fields_of all) k x → IsIn f.1 (out-Value x)
field_in [] k f x h is = absurd is
field_in (one ∷ all) zero f x h is = subst (λ (g : List ℕ × Shape). IsIn g.1 (out-Value x)) (some_same one f h) is
field_in (one ∷ all) (suc k) f x h is = field_in all k f x h is

text_said : (l : Value-F Value) → IsIn text l → IsTextIn l
text_said (Value-F.Str t) is = tt
text_said _ is = absurd is

word_said : (dim : DimType) (m : Record) (field : ℕ) → slice_get (typed dim.fields) field ≡ Some (codes "word", text) → IsWhole dim m → IsText (said_at m field)
word_said dim m field word whole =
    let filled : AreFilled 0 (fields_of (typed dim.fields)) m = subst (λ x. IsFilledIn (record_type dim) x) (v.outs-Rec m) whole.1 in
    let each : EachSaid (IsFieldOf (fields_of (typed dim.fields))) m = (subst (λ x. IsIn (record_type dim) x) (v.outs-Rec m) whole.0).1 in
    let said : (x : Value) × (said_at m field ≡ Some x) = filled_at (typed dim.fields) 0 field field (codes "word", text) m (omega arith) word filled in
    let right : IsFieldOf (fields_of (typed dim.fields)) field said.0 = said_right (IsFieldOf (fields_of (typed dim.fields))) m field said.0 each said.1 in
    subst IsText (sym said.1) (text_said (out-Value said.0) (field_in (typed dim.fields) field (codes "word", text) said.0 word right))

-- ---- entries

pub has_word : (table : Table) (dim field : ℕ) → IsWordPlace table dim field → (entry : Entry) → IsEntry table entry → HasWord dim field entry
has_word table dim field place entry is = word_said place.lex (get_or entry dim []) field place.word (is.each dim place.lex place.used)

each_entry : (table : Table) (P : Entry → Type 0) → ((entry : Entry) → IsEntry table entry → P entry) → (entries : List Entry) → AreEntries table entries → All P entries
each_entry table P holds [] are = All-nil P
each_entry table P holds (entry ∷ entries) are = All-cons P entry entries (holds entry are.0) (each_entry table P holds entries are.1)

pub have_words : (table : Table) (dim field : ℕ) (entries : List Entry) → IsWordPlace table dim field → AreEntries table entries → All (HasWord dim field) entries
have_words table dim field entries place are = each_entry table (HasWord dim field) (has_word table dim field place) entries are

pub as_long : (table : Table) (entries : List Entry) → AreEntries table entries → AreAsLong entries
as_long table [] are = All-nil (λ (entry : Entry). length entry ≡ 0)
as_long table (first ∷ entries) are = each_entry table (λ entry. length entry ≡ length first) (λ entry is. is.count ∙ sym are.0.count) (first ∷ entries) are
