-- Kinds, constants and numbers are read again, and lists and pairs of what is.
use Rattle.std.proofs.Common.{◌≡◌, ◌≤◌, ℕ, Bool, true, false, if◌then◌else◌, List, [], ◌∷◌, map, flat_map, refl, sym, ap, ap₂, ◌∙◌}
use Rattle.std.specs.List.{AllZip}
use Rattle.std.proofs.lemmas.List.Concat.{flat_map_single}
use Rattle.std.proofs.lemmas.List.Folds.{flat_map-map}
use Rattle.xdg_ast.specs.declared.token.Kind.{Kind}
use Rattle.xdg_ast.specs.declared.token.Kind.TheVariants as k
use Rattle.xdg_ast.specs.Lexemes.{Lexeme}
use Rattle.xdg_ast.specs.Contents.{content_of, value_of}
use Rattle.xdg_ast.specs.declared.names.Name.{Name}
use Rattle.xdg_ast.specs.declared.names.Num.{Num}
use Rattle.xdg_ast.specs.declared.names.Pair.{Pair}
use Rattle.xdg_ast.specs.Language.{Language, is, token, many, both, behind}
use Rattle.xdg_ast.specs.Grammar.{is_constant, name, names, num, nums}
use Rattle.xdg_base.specs.Spelling.{is_name}
use Rattle.xdg_ast.specs.Words.{Word, word_of, number as number_word, constant, IsShortText, IsSpellable}
use Rattle.xdg_ast.specs.Trees.{name_word, names_words, nums_words, pair_words}
use Rattle.xdg_ast.specs.Same.{bare_name, bare_names, bare_num, bare_pair}
use Rattle.xdg_print.proofs.AgainWritten.{Written, weaker, at_words, token_written, made_written, both_written, behind_written, many_written, Gives, stronger, token_gives, made_gives, both_gives, behind_gives, many_gives}
use Rattle.xdg_facts.proofs.Truths.{choose}

-- ---- two values that differ at most in places

pub record Like {A B W : Type 0} (b : A → B) (w : A → W) (y x : A) : Type 0 where
  pub bare : b y ≡ b x
  pub words : w y ≡ w x

-- lists whose elements do so in turn
pub likes : {A B W : Type 0} (b : A → B) (w : A → W) (ys xs : List A) → AllZip (Like b w) ys xs → Like (map b) (map w) ys xs
likes b w [] [] h = record { bare = refl; words = refl }
likes b w (y ∷ ys) (x ∷ xs) h = let rest = likes b w ys xs h.1 in record { bare = ap₂ (λ z zs. z ∷ zs) h.0.bare rest.bare; words = ap₂ (λ z zs. z ∷ zs) h.0.words rest.words }
likes b w _ _ h = absurd h

likes_words : {A B : Type 0} (b : A → B) (w : A → List Word) (ys xs : List A) → AllZip (Like b w) ys xs → flat_map w ys ≡ flat_map w xs
likes_words b w ys xs h = sym (flat_map-map (λ ws. ws) w ys) ∙ ap (flat_map (λ ws. ws)) (likes b w ys xs h).words ∙ flat_map-map (λ ws. ws) w xs

-- the words of a value are read as one that differs at most in places
abbrev pub Kept : {A B : Type 0} → Language A → (A → B) → (A → List Word) → A → Type 0
Kept l b w x = Written l (w x) (λ y. Like b w y x)

-- what the one language reads of spellable tokens is written so that the other keeps it
pub record Keeps {A B : Type 0} (l m : Language A) (b : A → B) (w : A → List Word) : Type 0 where
  pub all : Gives l (Kept m b w)

pub keeps_as : {A B : Type 0} {l m : Language A} {b : A → B} {w v : A → List Word} → ((x : A) → w x ≡ v x) → Keeps l m b w → Keeps l m b v
keeps_as e a = record { all = stronger a.all (λ x h. weaker (at_words (e x) h) (λ y i. record { bare = i.bare; words = sym (e y) ∙ (i.words ∙ e x) })) }

pub many_keeps : {A B : Type 0} {l m : Language A} {b : A → B} {w : A → List Word} → Keeps l m b w → Keeps (many l) (many m) (map b) (flat_map w)
many_keeps {A} {B} {l} {m} {b} {w} a = record {
  all = stronger (many_gives a.all) (λ xs e. weaker (many_written m (Like b w) w xs e) (λ ys i. record { bare = (likes b w ys xs i).bare; words = likes_words b w ys xs i }));
}

-- ---- constants

pub constant_kind : (v : Bool) → is_constant (if v then k.Name else k.Quoted) ≡ true
constant_kind true = refl
constant_kind false = refl

-- a token that says a constant has that text
pub constant_says : (text : List ℕ) (u : Lexeme) → word_of u ≡ constant text → (is_constant u.kind ≡ true) × (content_of u.kind u.text ≡ text)
constant_says text u h =
    let e : is_constant u.kind ≡ true = ap (λ (v : Word). is_constant v.kind) h ∙ constant_kind (is_name text) in
    (e, sym (choose (is_constant u.kind) (content_of u.kind u.text) [] e) ∙ ap (λ (v : Word). v.content) h)

-- what a token of some kind says, where its word can be spelled
spelled_at : (kind : Kind) (text : List ℕ) → IsSpellable (record { kind = kind; content = if is_constant kind then content_of kind text else []; value = if is k.Number kind then value_of text else 0 })
    → (is_constant kind ≡ true → IsShortText (content_of kind text)) × (is k.Name kind ≡ true → is_name (content_of kind text) ≡ true) × (is k.Number kind ≡ true → value_of text ≤ 4294967295)
spelled_at k.Name text s = (λ _. s.1, λ _. s.0, λ h. absurd (cc))
spelled_at k.Quoted text s = (λ _. s.0, λ h. absurd (cc), λ h. absurd (cc))
spelled_at k.Number text s = (λ h. absurd (cc), λ h. absurd (cc), λ _. s.1)
spelled_at _ text s = (λ h. absurd (cc), λ h. absurd (cc), λ h. absurd (cc))

pub short_text : (t : Lexeme) → is_constant t.kind ≡ true → IsSpellable (word_of t) → IsShortText (content_of t.kind t.text)
short_text t h s = (spelled_at t.kind t.text s).0 h

pub name_text : (t : Lexeme) → is k.Name t.kind ≡ true → IsSpellable (word_of t) → is_name (content_of t.kind t.text) ≡ true
name_text t h s = (spelled_at t.kind t.text s).1 h

pub small_value : (t : Lexeme) → is k.Number t.kind ≡ true → IsSpellable (word_of t) → value_of t.text ≤ 4294967295
small_value t h s = (spelled_at t.kind t.text s).2 h

constant_at : (text : List ℕ) (v : Bool) → is_name text ≡ v → IsShortText text → IsSpellable (record { kind = if v then k.Name else k.Quoted; content = text; value = 0 })
constant_at text true h s = (h, s, refl)
constant_at text false h s = (s, refl)

pub constant_spellable : (text : List ℕ) → IsShortText text → IsSpellable (constant text)
constant_spellable text s = constant_at text (is_name text) refl s

pub name_gives : Gives name (λ n. IsShortText n.text)
unfolding name
name_gives = made_gives (token_gives short_text) (λ t s. s)

pub name_written : (n : Name) → IsShortText n.text → Written name (name_word n ∷ []) (λ m. m.text ≡ n.text)
unfolding name
name_written n s = made_written (token_written is_constant (constant n.text) (constant_spellable n.text s) (constant_kind (is_name n.text))) (λ u h. (constant_says n.text u h).1)

abbrev pub name_words : Name → List Word
name_words n = name_word n ∷ []

pub same_text : (m n : Name) → m.text ≡ n.text → Like bare_name name_words m n
same_text m n h = record { bare = ap (λ text. record { text = text; span = record { start = 0; end = 0 } }) h; words = ap (λ text. constant text ∷ []) h }

pub name_keeps : Keeps name name bare_name name_words
name_keeps = record { all = stronger name_gives (λ n s. weaker (name_written n s) (λ m h. same_text m n h)) }

pub names_keeps : Keeps names names bare_names names_words
unfolding names
names_keeps = keeps_as (flat_map_single name_word) (many_keeps name_keeps)

-- ---- numbers

-- a token that says a number has that value
pub number_says : (n : ℕ) (u : Lexeme) → word_of u ≡ number_word n → value_of u.text ≡ n
number_says n u h =
    let e : is k.Number u.kind ≡ true = ap (λ (v : Word). is k.Number v.kind) h in
    sym (choose (is k.Number u.kind) (value_of u.text) 0 e) ∙ ap (λ (v : Word). v.value) h

pub number_written : (n : ℕ) → n ≤ 4294967295 → Written (token (is k.Number)) (number_word n ∷ []) (λ u. value_of u.text ≡ n)
number_written n s = weaker (token_written (is k.Number) (number_word n) (refl, s) refl) (λ u h. number_says n u h)

abbrev pub num_words : Num → List Word
num_words n = number_word n.value ∷ []

pub num_keeps : Keeps num num bare_num num_words
unfolding num
num_keeps = record {
  all = made_gives (token_gives small_value) (λ t s. made_written (number_written (value_of t.text) s)
      (λ u h. record { bare = ap (λ n. record { value = n; span = record { start = 0; end = 0 } }) h; words = ap (λ n. number_word n ∷ []) h }));
}

pub nums_keeps : Keeps nums nums (map bare_num) nums_words
unfolding nums
nums_keeps = keeps_as (flat_map_single (λ (n : Num). number_word n.value)) (many_keeps num_keeps)

-- ---- pairs of a constant and a value

abbrev pub keyed : {A : Type 0} → Language A → Language (Pair A)
keyed l = both (λ key value. record { key = key; value = value }) name (behind (token (is k.Colon)) l)

pub keyed_keeps : {A : Type 0} {l m : Language A} {b : A → A} {w : A → List Word} → Keeps l m b w → Keeps (keyed l) (keyed m) (bare_pair b) (pair_words w)
keyed_keeps a = record {
  all = both_gives name_keeps.all (behind_gives (token (is k.Colon)) a.all) (λ n x g h. both_written g (behind_written k.Colon (refl, refl) refl h)
      (λ n' x' i j. let e = i.bare in let d = i.words in let c = j.bare in let f = j.words in
      let s : name_word n' ≡ name_word n = cc in
      record { bare = (cc); words = (cc) }));
}
