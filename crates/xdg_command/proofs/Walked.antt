-- A walk over words finds what the items are found as.
use Rattle.std.proofs.Common.{◌≡◌, ◌∙◌, ◌≤◌, ℕ, Bool, suc, true, false, List, [], ◌∷◌, map, inl, inr, Option, Some, None, refl, sym, ap, ap₂, subst, arith}
use Rattle.std.specs.Prelude.{codes, slice_get, option_map, if◌then◌else◌}
use Rattle.std.specs.List.{fold}
use Rattle.std.specs.Str.{IsUtf8, bytes_eq, chars, encode_utf8_all}
use Rattle.std.proofs.lemmas.Bool.{cases_Bool}
use Rattle.std.proofs.lemmas.Str.{IsCharBoundary-after_ascii, IsUtf8-drop, encodes-chars}
use Rattle.clap.specs.Lexer.{long_of, short_of}
use Rattle.clap.specs.Walk.{Held, Row, Rule, Waiting, Walk, arg_by_id, arg_by_index, idle, option, settled, used, walked}
use Rattle.clap.specs.Simple.{Shape}
use Rattle.clap.specs.Kinds.{Kinds, or_else}
use Rattle.clap.specs.Faults.{settle_fault, turn_fault, use_fault, walk_fault}
use Rattle.xdg_command.specs.Items.{Item, operand, valued, flagged, dashed}
use Rattle.xdg_command.specs.Syntax.{Table}
use Rattle.xdg_command.proofs.Placed.{put, put_operand}
use Rattle.xdg_command.proofs.Reader.{behind, by_form, by_letters, by_long, by_value, read, unless_long}
use Rattle.xdg_facts.specs.Onward.{onward}
use Rattle.xdg_command.proofs.Rules.{Finds, added, flag_rule, form, nothing, operand_rule, option_rule, value_rule}
use Rattle.xdg_command.proofs.Spelled.{Seen, hyphens, lettered, longer, plain, seen, undashed}
use Rattle.xdg_command.proofs.Turns.{awaited_end, awaited_letter, awaited_long, awaited_value, awaiting, between, end_turn, flag_refused, flag_turn, held, later_refused, later_turn, letter_refused, name_refused, name_turn, trailing_at, value_turn, word_refused, word_turn}
use Rattle.xdg_command.proofs.Uses.{empty_refused, flag_used, operand_used, using_as, value_used}
use Rattle.std.proofs.lemmas.Option.{slice_get_within}
use Rattle.xdg_facts.proofs.Texts.{same_text}
use Rattle.xdg_facts.proofs.Options.{onward_none, onward_same, onward_some, onward_swap, gate, closed}

-- ---- options of values

-- one more item
behind_onward : {B : Type 0} (item : Item) (o : Option (List Item)) (f : List Item → Option B) → onward o (λ items. f (item ∷ items)) ≡ onward (behind item o) f
behind_onward item None f = refl
behind_onward item (Some items) f = refl

gates : {A B : Type 0} (x : Kinds) (y : A → Kinds) (a : A) (c : A → A) (f : A → Option B)
    → (if nothing (or_else x (y a)) then f (c a) else None) ≡ onward (if nothing x then Some a else None) (λ b. onward (if nothing (y b) then Some (c b) else None) f)
gates [] y a c f = gate (nothing (y a)) (c a) f
gates (k ∷ ks) y a c f = refl

-- ---- walks

-- what is found once what is pending is used
abbrev pub settle : List Rule → Held → Option (List Row)
settle c h = if nothing (settle_fault c false h) then Some (settled c h).rows else None

-- what is found at the end of a walk
abbrev pub total : Shape → Walk → List (List ℕ) → Option (List Row)
total s w words = if nothing (walk_fault s [] w words) then settle s.rules (fold (walked s.rules []) w words).held else None

total_end : (s : Shape) (w : Walk) → total s w [] ≡ settle s.rules w.held
unfolding walk_fault
total_end s w = refl

split : {B : Type 0} (x y : Kinds) (o : Option B) → (if nothing (or_else x y) then o else None) ≡ (if nothing x then (if nothing y then o else None) else None)
split [] y o = refl
split (k ∷ ks) y o = refl

total_next : (s : Shape) (w : Walk) (word : List ℕ) (words : List (List ℕ)) → total s w (word ∷ words) ≡ (if nothing (turn_fault s [] w word) then total s (walked s.rules [] w word) words else None)
unfolding walk_fault
total_next s w word words = split (turn_fault s [] w word) _ _

steps : (s : Shape) (w next : Walk) (word : List ℕ) (words : List (List ℕ)) (x : Kinds) → (turn_fault s [] w word ≡ x) × (walked s.rules [] w word ≡ next)
    → total s w (word ∷ words) ≡ (if nothing x then total s next words else None)
steps s w next word words x turn = total_next s w word words ∙ ap₂ (λ y z. if nothing y then total s z words else None) turn.0 turn.1

stops : (s : Shape) (w : Walk) (word : List ℕ) (words : List (List ℕ)) → nothing (turn_fault s [] w word) ≡ false → total s w (word ∷ words) ≡ None
stops s w word words e = total_next s w word words ∙ closed _ _ e

-- what is pending is used, and the rest of the walk goes on from there
gated : (s : Shape) (h : Held) (next : List Row → Walk) (words : List (List ℕ))
    → (if nothing (settle_fault s.rules false h) then total s (next (settled s.rules h).rows) words else None) ≡ onward (settle s.rules h) (λ rows. total s (next rows) words)
gated s h next words = gate (nothing (settle_fault s.rules false h)) (settled s.rules h).rows (λ rows. total s (next rows) words)

-- ---- a letter behind a hyphen

pub record Letter (letters : List ℕ) : Type 0 where
  pub x : ℕ
  pub y : ℕ
  pub ys : List ℕ
  pub letters_are : letters ≡ y ∷ ys
  pub first : slice_get (chars (y ∷ ys)) 0 ≡ Some x

first_char : (y : ℕ) (ys cs : List ℕ) → encode_utf8_all cs ≡ y ∷ ys → chars (y ∷ ys) ≡ cs → Letter (y ∷ ys)
first_char y ys [] e are = absurd cc
first_char y ys (c ∷ cs) e are = record { x = c; y = y; ys = ys; letters_are = refl; first = ap (λ xs. slice_get xs 0) are }

pub letter : (word more : List ℕ) → Seen word → IsUtf8 word → short_of word ≡ Some more → Letter more
letter _ more (undashed word e) text short = let bad : None ≡ Some more = sym (plain word e).not_short ∙ short in absurd cc
letter _ more (lettered y ys e) text short =
    let same : Some (y ∷ ys) ≡ Some more = rw e at short in
    let more_is : y ∷ ys ≡ more = cc in
    let rest : IsUtf8 (y ∷ ys) = IsUtf8-drop (45 ∷ y ∷ ys) 1 text (IsCharBoundary-after_ascii (45 ∷ y ∷ ys) 0 text (omega arith) (omega arith)) in
    subst Letter more_is (first_char y ys (chars (y ∷ ys)) (encodes-chars (y ∷ ys) rest) refl)
letter _ more hyphens text short = absurd cc
letter _ more (longer z zs) text short = absurd cc

-- each word is a text
abbrev pub AreTexts : List (List ℕ) → Type 0
AreTexts [] = Unit {0}
AreTexts (word ∷ words) = IsUtf8 word × AreTexts words

module _ (s : Shape) (t : Table) (finds : Finds t s.rules) (again : s.args_override_self ≡ false) (leaf : s.is_leaf ≡ true) where
  -- the value that is pending is used as the only one
  settle_one : (rows : List Row) (a : Rule) (values : List (List ℕ)) → arg_by_id s.rules a.id ≡ Some a → settle s.rules (held rows (Some (a.id, values))) ≡ using_as a values rows
  settle_one rows a values mine = rw mine refl

  few_left : (k : ℕ) (name : List ℕ) → slice_get t.operands k ≡ Some name → k ≤ 2
  few_left k name e = omega (arith, slice_get_within t.operands k name e, finds.few)

  place_is : (k : ℕ) (o : Option (List ℕ)) → slice_get t.operands k ≡ o → arg_by_index s.rules (suc k) ≡ option_map (operand_rule (suc k)) o
  place_is k o e = finds.index k ∙ ap (option_map (operand_rule (suc k))) e

  used_operand : (k : ℕ) (name word : List ℕ) (rows : List Row) → slice_get t.operands k ≡ Some name
      → settle s.rules (held rows (Some (name, word ∷ []))) ≡ put_operand (slice_get t.operands k) (suc k) word rows
  used_operand k name word rows e =
      settle_one rows (operand_rule (suc k) name) (word ∷ []) (finds.by_operand k name e) ∙ operand_used (suc k) name word rows
      ∙ ap (λ o. put_operand o (suc k) word rows) (sym e)

  -- ---- after `--`

  abbrev Trails : List (List ℕ) → Type 0
  Trails words = (waiting : Waiting) (rows : List Row) (pending : Option (List ℕ × List (List ℕ))) (k : ℕ)
      → total s (trailing_at waiting (held rows pending) k) words ≡ onward (settle s.rules (held rows pending)) (λ now. put t k now (map operand words))

  trail_step : (word : List ℕ) (words : List (List ℕ)) → Trails words → (o : Option (List ℕ)) (waiting : Waiting) (rows : List Row) (pending : Option (List ℕ × List (List ℕ))) (k : ℕ)
      → slice_get t.operands k ≡ o
      → total s (trailing_at waiting (held rows pending) k) (word ∷ words) ≡ onward (settle s.rules (held rows pending)) (λ now. put t k now (operand word ∷ map operand words))
  trail_step word words more None waiting rows pending k e =
      stops s _ word words (later_refused s again waiting (held rows pending) k word (place_is k None e) leaf) ∙ sym (onward_none _ _ (λ now. ap (λ o. onward (put_operand o (suc k) word now) (λ c. put t (suc k) c (map operand words))) e))
  trail_step word words more (Some name) waiting rows pending k e =
      steps s _ _ word words _ (later_turn s again waiting (held rows pending) k word name (place_is k (Some name) e) (few_left k name e))
      ∙ gated s (held rows pending) (λ now. trailing_at idle (held now (Some (name, word ∷ []))) (suc k)) words
      ∙ onward_same (settle s.rules (held rows pending)) _ _ (λ now.
      more idle now (Some (name, word ∷ [])) (suc k) ∙ ap (λ o. onward o (λ c. put t (suc k) c (map operand words))) (used_operand k name word now e))

  trailed : (words : List (List ℕ)) → Trails words
  trailed [] waiting rows pending k = total_end s _ ∙ sym (onward_some _)
  trailed (word ∷ words) waiting rows pending k = trail_step word words (trailed words) (slice_get t.operands k) waiting rows pending k refl

  -- ---- before `--`

  abbrev Walks : List (List ℕ) → Type 0
  Walks words = (rows : List Row) (pending : Option (List ℕ × List (List ℕ))) (k : ℕ)
      → total s (between (held rows pending) k) words ≡ onward (settle s.rules (held rows pending)) (λ now. onward (read t None words) (put t k now))

  abbrev Awaits : List (List ℕ) → Type 0
  Awaits words = (name : List ℕ) (rows : List Row) (k : ℕ) → form t name ≡ Some true
      → total s (awaiting name (held rows (Some (name, []))) k) words ≡ onward (read t (Some name) words) (put t k rows)

  -- one more item
  finish : (k next : ℕ) (now : List Row) (item : Item) (o : Option (List Row)) (words : List (List ℕ)) → ((items : List Item) → onward o (λ c. put t next c items) ≡ put t k now (item ∷ items))
      → onward o (λ c. onward (read t None words) (put t next c)) ≡ onward (behind item (read t None words)) (put t k now)
  finish k next now item o words e =
      onward_swap o (read t None words) (λ c items. put t next c items) ∙ onward_same (read t None words) _ _ e ∙ behind_onward item (read t None words) (put t k now)

  module _ (word : List ℕ) (words : List (List ℕ)) (text : IsUtf8 word) (walks : Walks words) (awaits : Awaits words) (rows : List Row) (pending : Option (List ℕ × List (List ℕ))) (k : ℕ) where
    abbrev h : Held
    h = held rows pending

    abbrev Goal : Option (List Item) → Type 0
    Goal items = total s (between h k) (word ∷ words) ≡ onward (settle s.rules h) (λ now. onward items (put t k now))

    refused : nothing (turn_fault s [] (between h k) word) ≡ false → Goal None
    refused e = stops s _ word words e ∙ sym (onward_none _ _ (λ now. refl))

    module _ (not_end : bytes_eq word (dashed []) ≡ false) where
      by_one : (name : List ℕ) (value : Option (List ℕ)) (kind : Option Bool) → long_of word ≡ Some (name, value) → form t name ≡ kind
          → Goal (by_form kind name value (read t None words) (λ other. read t (Some other) words))
      by_one name value None long is = refused (name_refused s again h k word name not_end value long (finds.long name ∙ ap (option_map (option_rule name)) is))
      by_one name (Some value) (Some false) long is = refused (flag_refused s again h k word name not_end value long (finds.long name ∙ ap (option_map (option_rule name)) is))
      by_one name None (Some false) long is =
          steps s _ _ word words _ (flag_turn s again h k word name not_end long (finds.long name ∙ ap (option_map (option_rule name)) is))
          ∙ gates (settle_fault s.rules false h) (use_fault false (flag_rule name) []) (settled s.rules h).rows (used (flag_rule name) []) (λ c. total s (between (held c None) k) words)
          ∙ onward_same (settle s.rules h) _ _ (λ now.
          ap (λ o. onward o (λ c. total s (between (held c None) k) words)) (flag_used name now)
          ∙ onward_same (added (flag_rule name) (codes "true" ∷ []) now) _ _ (λ c. walks c None k)
          ∙ finish k k now (flagged name) (added (flag_rule name) (codes "true" ∷ []) now) words (λ items. refl))
      by_one name None (Some true) long is =
          steps s _ _ word words _ (name_turn s again h k word name not_end long (finds.long name ∙ ap (option_map (option_rule name)) is))
          ∙ gated s h (λ now. awaiting name (held now (Some (name, []))) k) words
          ∙ onward_same (settle s.rules h) _ _ (λ now. awaits name now k is)
      by_one name (Some value) (Some true) long is =
          steps s _ _ word words _ (value_turn s again h k word name not_end value long (finds.long name ∙ ap (option_map (option_rule name)) is))
          ∙ gates (settle_fault s.rules false h) (use_fault false (value_rule name) (value ∷ [])) (settled s.rules h).rows (used (value_rule name) (value ∷ [])) (λ c. total s (between (held c None) k) words)
          ∙ onward_same (settle s.rules h) _ _ (λ now. valued_one now value)
        where
          valued_one : (now : List Row) (value : List ℕ)
              → onward (using_as (value_rule name) (value ∷ []) now) (λ c. total s (between (held c None) k) words) ≡ onward (by_value name value (read t None words)) (put t k now)
          valued_one now [] = ap (λ o. onward o (λ c. total s (between (held c None) k) words)) (empty_refused name now)
          valued_one now (x ∷ v) =
              ap (λ o. onward o (λ c. total s (between (held c None) k) words)) (value_used name x v now)
              ∙ onward_same (added (value_rule name) ((x ∷ v) ∷ []) now) _ _ (λ c. walks c None k)
              ∙ finish k k now (valued name (x ∷ v)) (added (value_rule name) ((x ∷ v) ∷ []) now) words (λ items. refl)

      by_operand : (o : Option (List ℕ)) → slice_get t.operands k ≡ o → long_of word ≡ None → short_of word ≡ None → Goal (behind (operand word) (read t None words))
      by_operand None e not_long not_short =
          stops s _ word words (word_refused s again h k word not_end not_long not_short (place_is k None e) leaf)
          ∙ sym (onward_none _ _ (λ now. sym (behind_onward (operand word) (read t None words) (put t k now))
          ∙ onward_none (read t None words) _ (λ items. ap (λ o. onward (put_operand o (suc k) word now) (λ c. put t (suc k) c items)) e)))
      by_operand (Some name) e not_long not_short =
          steps s _ _ word words _ (word_turn s again h k word not_end not_long not_short name (place_is k (Some name) e) (few_left k name e))
          ∙ gated s h (λ now. between (held now (Some (name, word ∷ []))) (suc k)) words
          ∙ onward_same (settle s.rules h) _ _ (λ now.
          walks now (Some (name, word ∷ [])) (suc k)
          ∙ ap (λ o. onward o (λ c. onward (read t None words) (put t (suc k) c))) (used_operand k name word now e)
          ∙ finish k (suc k) now (operand word) (put_operand (slice_get t.operands k) (suc k) word now) words (λ items. refl))

      by_letter : (letters : Option (List ℕ)) → short_of word ≡ letters → long_of word ≡ None → Goal (by_letters letters (behind (operand word) (read t None words)))
      by_letter None e not_long = by_operand (slice_get t.operands k) refl not_long e
      by_letter (Some more) e not_long =
          let l = letter word more (seen word) text e in
          refused (letter_refused s again rows pending k word l.x l.y l.ys not_end not_long (e ∙ ap (λ ls. Some ls) l.letters_are) l.first (finds.short l.x))

      by_name : (long : Option (List ℕ × Option (List ℕ))) → long_of word ≡ long → Goal (by_long t long word (read t None words) (λ other. read t (Some other) words))
      by_name None e = by_letter (short_of word) refl e
      by_name (Some p) e = by_one p.0 p.1 (form t p.0) e refl

    ended : word ≡ dashed [] → Goal (Some (map operand words))
    ended is =
        ap (λ w. total s (between h k) (w ∷ words)) is
        ∙ steps s _ _ (dashed []) words _ (end_turn s again h k)
        ∙ trailed words idle rows pending k

    pub walk_step : Goal (read t None (word ∷ words))
    walk_step = elim (cases_Bool (bytes_eq word (dashed []))) [
      | inl e ↦ let is : Some (map operand words) ≡ read t None (word ∷ words) = rw e refl in subst Goal is (ended (same_text word (dashed []) e))
      | inr e ↦ let is : by_long t (long_of word) word (read t None words) (λ other. read t (Some other) words) ≡ read t None (word ∷ words) = rw e refl in subst Goal is (by_name e (long_of word) refl)
    ]

  module _ (word : List ℕ) (words : List (List ℕ)) (text : IsUtf8 word) (walks : Walks words) (name : List ℕ) (rows : List Row) (k : ℕ) (mine : form t name ≡ Some true) where
    found : arg_by_id s.rules name ≡ Some (value_rule name)
    found = finds.by_name name true mine

    abbrev Wanted : Option (List Item) → Type 0
    Wanted items = total s (awaiting name (held rows (Some (name, []))) k) (word ∷ words) ≡ onward items (put t k rows)

    awaited_none : nothing (turn_fault s [] (awaiting name (held rows (Some (name, []))) k) word) ≡ false → Wanted None
    awaited_none e = stops s _ word words e

    nothing_trails : onward (settle s.rules (held rows (Some (name, [])))) (λ now. put t k now (map operand words)) ≡ None
    nothing_trails = rw found refl

    awaited_ended : word ≡ dashed [] → Wanted None
    awaited_ended is =
        ap (λ w. total s (awaiting name (held rows (Some (name, []))) k) (w ∷ words)) is
        ∙ steps s _ _ (dashed []) words _ (awaited_end s again rows k name found)
        ∙ trailed words (option name) rows (Some (name, [])) k ∙ nothing_trails

    module _ (not_end : bytes_eq word (dashed []) ≡ false) where
      valued_next : (value : List ℕ) → onward (using_as (value_rule name) (value ∷ []) rows) (λ now. onward (read t None words) (put t k now)) ≡ onward (by_value name value (read t None words)) (put t k rows)
      valued_next [] = ap (λ o. onward o (λ now. onward (read t None words) (put t k now))) (empty_refused name rows)
      valued_next (x ∷ v) =
          ap (λ o. onward o (λ now. onward (read t None words) (put t k now))) (value_used name x v rows)
          ∙ finish k k rows (valued name (x ∷ v)) (added (value_rule name) ((x ∷ v) ∷ []) rows) words (λ items. refl)

      awaited_letters : (letters : Option (List ℕ)) → short_of word ≡ letters → long_of word ≡ None → Wanted (by_letters letters (by_value name word (read t None words)))
      awaited_letters None e not_long =
          steps s _ _ word words _ (awaited_value s again rows k name found word not_end not_long e)
          ∙ walks rows (Some (name, word ∷ [])) k
          ∙ ap (λ o. onward o (λ now. onward (read t None words) (put t k now))) (settle_one rows (value_rule name) (word ∷ []) found)
          ∙ valued_next word
      awaited_letters (Some more) e not_long =
          let l = letter word more (seen word) text e in
          awaited_none (awaited_letter s again rows (Some (name, [])) k word l.x l.y l.ys not_end not_long (e ∙ ap (λ ls. Some ls) l.letters_are) l.first (finds.short l.x) name)

      awaited_name : (long : Option (List ℕ × Option (List ℕ))) → long_of word ≡ long → Wanted (unless_long long (by_letters (short_of word) (by_value name word (read t None words))))
      awaited_name None e = awaited_letters (short_of word) refl e
      awaited_name (Some p) e = awaited_none (awaited_long s again rows k name found word not_end p.0 p.1 e)

    await_step : Wanted (read t (Some name) (word ∷ words))
    await_step = elim (cases_Bool (bytes_eq word (dashed []))) [
      | inl e ↦ let is : None ≡ read t (Some name) (word ∷ words) = rw e refl in subst Wanted is (awaited_ended (same_text word (dashed []) e))
      | inr e ↦ let is : unless_long (long_of word) (by_letters (short_of word) (by_value name word (read t None words))) ≡ read t (Some name) (word ∷ words) = rw e refl in subst Wanted is (awaited_name e (long_of word) refl)
    ]

  both_walk : (words : List (List ℕ)) → AreTexts words → Walks words × Awaits words
  both_walk [] texts = (
    λ rows pending k. total_end s _ ∙ sym (onward_some _),
    λ name rows k mine. total_end s _ ∙ rw (finds.by_name name true mine) refl,
  )
  both_walk (word ∷ words) texts =
      let more = both_walk words texts.1 in (
        λ rows pending k. walk_step word words texts.0 more.0 more.1 rows pending k,
        λ name rows k mine. await_step word words texts.0 more.0 name rows k mine,
      )

  -- what a walk over all words finds
  pub walked_all : (words : List (List ℕ)) → AreTexts words → total s (between (held [] None) 0) words ≡ onward (read t None words) (put t 0 [])
  walked_all words texts = (both_walk words texts).0 [] None 0
