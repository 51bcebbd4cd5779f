-- The words of a lexicon to which an entry is added, or in which it stands already.
use Rattle.std.proofs.Common.{◌≡◌, ℕ, ◌+◌, ◌^◌, ◌<◌, List, [], ◌∷◌, ◌++◌, length, get_or, map, inl, inr, sym, ap, ap₂, subst, ◌∙◌, arith, All}
use Rattle.std.proofs.lemmas.Bool.{cases_lt}
use Rattle.std.proofs.lemmas.List.{map-append, length-map, length-append, get_or_past}
use Rattle.std.proofs.lemmas.List.Elements.{All-push}
use Rattle.std.proofs.Math.Seq.{get_or-append_seam}
use Rattle.xdg_base.specs.declared.ids.EntryNo.{EntryNo}
use Rattle.xdg_packed.specs.Entries.{count_of}
use Rattle.xdg_packed.specs.Lexicon.{Entry, Lexicon, HasWord, IsSaid, word_of, number, numbers_of, places_of}
use Rattle.xdg_packed.specs.Packing.{kept, AreKept, IsPacking}
use Rattle.xdg_packed.specs.Words.{IsWordIndex}
use Rattle.xdg_packed.specs.declared.entry_set.EntrySet.{EntrySet}
use Rattle.xdg_packed.specs.declared.words.WordIndex.{WordIndex}
use Rattle.xdg_packed.proofs.Kept.{many}
use Rattle.xdg_packed.proofs.Unpacked.{Holds}
use Rattle.xdg_packed.proofs.WordLists.{own_count}
use Rattle.xdg_facts.specs.Membership.{In}

-- an entry with a word has that dimension
pub has_dim : (dim field : ℕ) (entry : Entry) → HasWord dim field entry → dim < length entry
has_dim dim field entry h = elim (cases_lt dim (length entry)) [
  | inl inside ↦ inside
  | inr past ↦ absurd (subst (λ r. IsSaid r field) (get_or_past entry dim [] past) h)
]

-- the lexicon of the entries that are kept
abbrev pub lexicon_of : ℕ → ℕ → EntrySet → Lexicon
lexicon_of dim field set = record { entries = kept set; dim = dim; field = field }

-- what their tables hold
pub holds_kept : (set : EntrySet) → AreKept (kept set) set → Holds (kept set) set.tables.tables.items
holds_kept set right = record { equal = right.equal; right = right.spelled.right; are = right.tables_are }

module _ {dim field : ℕ} {set after : EntrySet} {index : WordIndex} {now : Lexicon} (view : lexicon_of dim field set ≡ now) (packing : IsPacking (lexicon_of dim field set) set index)
    (entry : Entry) (word_now : HasWord now.dim now.field entry) (right : AreKept (kept after) after) where
  word : HasWord dim field entry
  word = subst (λ (l : Lexicon). HasWord l.dim l.field entry) (sym view) word_now

  -- ---- it stands there already

  module _ (known : In (kept set) entry × (kept after ≡ kept set)) where
    pub known_packing : IsPacking (lexicon_of dim field after) after index
    known_packing = record {
      entries = right;
      words = subst (All (HasWord dim field)) (sym known.1) packing.words;
      indexed = subst (λ es. IsWordIndex (map (word_of dim field) es) index.words index.numbers.items) (sym known.1) packing.indexed;
    }

  -- ---- it is new

  module _ (new : (In (kept set) entry → ⊥) × (kept after ≡ kept set ++ entry ∷ [])) where
    last : get_or (kept after) set.count [] ≡ entry
    last = ap₂ (λ es n. get_or es n []) new.1 (sym (many set)) ∙ get_or-append_seam (kept set) entry [] []

    pub last_within : set.count < length (kept after)
    last_within = let size = ap length new.1 ∙ length-append (kept set) (entry ∷ []) in let old = many set in omega (arith, size, old)

    pub number_fits : set.count < 2 ^ 32
    number_fits = let within = last_within in let few = right.few in omega (arith, within, few)

    pub last_dim : dim < length (get_or (kept after) set.count [])
    last_dim = subst (λ e. dim < length e) (sym last) (has_dim dim field entry word)

    pub new_packing : (said : List ℕ) (grown : WordIndex) → said ≡ word_of dim field (get_or (kept after) set.count [])
        → ((before : List (List ℕ)) → set.count ≡ length before → IsWordIndex before index.words index.numbers.items → IsWordIndex (before ++ said ∷ []) grown.words grown.numbers.items)
        → IsPacking (lexicon_of dim field after) after grown
    new_packing said grown is step = record {
      entries = right;
      words = subst (All (HasWord dim field)) (sym new.1) (All-push (HasWord dim field) (kept set) entry packing.words word);
      indexed = subst (λ all. IsWordIndex all grown.words grown.numbers.items)
          (ap (λ w. map (word_of dim field) (kept set) ++ w ∷ []) (is ∙ ap (word_of dim field) last) ∙ sym (ap (map (word_of dim field)) new.1 ∙ map-append (word_of dim field) (kept set) (entry ∷ [])))
          (step (map (word_of dim field) (kept set)) (sym (length-map (kept set) (word_of dim field) ∙ many set)) packing.indexed);
    }

    -- its word has one more
    pub new_count : (list : List EntryNo) (said : List ℕ) → said ≡ word_of dim field entry → list ≡ numbers_of (map (word_of dim field) (kept set)) said
        → length list + 1 ≡ count_of now.dim now.field (kept after) (word_of now.dim now.field entry)
    new_count list said is told =
        subst (λ (l : Lexicon). length list + 1 ≡ count_of l.dim l.field (kept after) (word_of l.dim l.field entry)) view
        (ap (λ n. n + 1) (ap length told ∙ length-map (places_of (map (word_of dim field) (kept set)) said) number ∙ ap (λ w. count_of dim field (kept set) w) is)
        ∙ sym (ap (λ es. count_of dim field es (word_of dim field entry)) new.1
        ∙ ap (λ ws. length (places_of ws (word_of dim field entry))) (map-append (word_of dim field) (kept set) (entry ∷ []))
        ∙ own_count (map (word_of dim field) (kept set)) (word_of dim field entry)))
