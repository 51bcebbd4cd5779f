-- What one word does to a walk over the words.
use Rattle.std.proofs.Common.{◌≡◌, ◌≤◌, ◌+◌, ℕ, Bool, suc, true, false, List, [], ◌∷◌, min, Option, Some, None, refl, arith}
use Rattle.std.specs.Prelude.{is_some, slice_get, if◌then◌else◌}
use Rattle.std.specs.Str.{bytes_eq, chars}
use Rattle.clap.specs.Lexer.{long_of, short_of, usize_max}
use Rattle.clap.specs.Walk.{Held, Row, Rule, Waiting, Walk, idle, is_pending, option, arg_by_id, arg_by_index, arg_by_long, arg_by_short, reacted, settled, takes_values, walked}
use Rattle.clap.specs.Simple.{Shape}
use Rattle.clap.specs.Kinds.{Kinds, or_else}
use Rattle.clap.specs.Faults.{react_fault, flags_fault, option_fault, settle_fault, turn_fault}
use Rattle.std.proofs.lemmas.Slice.Eq.{bytes_eq-Decides}
use Rattle.clap.specs.declared.error.kind.ErrorKind.TheVariants as kind
use Rattle.xdg_command.specs.Items.{dashed}
use Rattle.xdg_command.proofs.Rules.{flag_rule, nothing, operand_rule, value_rule}
use Rattle.xdg_facts.proofs.Truths.{and_false}

abbrev pub held : List Row → Option (List ℕ × List (List ℕ)) → Held
held rows pending = record { rows = rows; pending = pending; skip = 0 }

-- between two words, where k operands have been read
abbrev pub between : Held → ℕ → Walk
between h k = record { held = h; waiting = idle; position = suc k; is_trailing = false; stopped = None }

-- where an option waits for its value
abbrev pub awaiting : List ℕ → Held → ℕ → Walk
awaiting name h k = record { held = h; waiting = option name; position = suc k; is_trailing = false; stopped = None }

-- after `--`
abbrev pub trailing_at : Waiting → Held → ℕ → Walk
trailing_at waiting h k = record { held = h; waiting = waiting; position = suc k; is_trailing = true; stopped = None }

next_place : (k : ℕ) → k ≤ 2 → min (suc k + 1) usize_max ≡ suc (suc k)
next_place k few = omega (arith, few)

or_none : (a : Kinds) → or_else a [] ≡ a
or_none [] = refl
or_none (k ∷ ks) = refl

module _ (s : Shape) (again : s.args_override_self ≡ false) where
  module _ (h : Held) (k : ℕ) (word name : List ℕ) (not_end : bytes_eq word (dashed []) ≡ false) where
    -- `--name=value` of an option with a value
    pub value_turn : (v : List ℕ) → long_of word ≡ Some (name, Some v) → arg_by_long s.rules name ≡ Some (value_rule name)
        → (turn_fault s [] (between h k) word ≡ react_fault s.rules false (value_rule name) (v ∷ []) h)
        × (walked s.rules [] (between h k) word ≡ between (reacted s.rules (value_rule name) (v ∷ []) h) k)
    unfolding walked
    value_turn v long found = (rw (not_end, long, found, again) (or_none _), rw (not_end, long, found) refl)

    -- `--name` of an option with a value
    pub name_turn : long_of word ≡ Some (name, None) → arg_by_long s.rules name ≡ Some (value_rule name)
        → (turn_fault s [] (between h k) word ≡ settle_fault s.rules false h)
        × (walked s.rules [] (between h k) word ≡ awaiting name (record (settled s.rules h) { pending = Some (name, []) }) k)
    unfolding walked
    name_turn long found = (rw (not_end, long, found, again) (or_none _), rw (not_end, long, found) refl)

    -- `--name` of an option without value
    pub flag_turn : long_of word ≡ Some (name, None) → arg_by_long s.rules name ≡ Some (flag_rule name)
        → (turn_fault s [] (between h k) word ≡ react_fault s.rules false (flag_rule name) [] h)
        × (walked s.rules [] (between h k) word ≡ between (reacted s.rules (flag_rule name) [] h) k)
    unfolding walked
    flag_turn long found = (rw (not_end, long, found, again) (or_none _), rw (not_end, long, found) refl)

    -- an option without value is given one
    pub flag_refused : (v : List ℕ) → long_of word ≡ Some (name, Some v) → arg_by_long s.rules name ≡ Some (flag_rule name)
        → nothing (turn_fault s [] (between h k) word) ≡ false
    flag_refused v long found = rw (not_end, long, found) refl

    -- no option has the name
    pub name_refused : (v : Option (List ℕ)) → long_of word ≡ Some (name, v) → arg_by_long s.rules name ≡ None
        → nothing (turn_fault s [] (between h k) word) ≡ false
    name_refused v long found = rw (not_end, long, found) refl

  module _ (h : Held) (k : ℕ) (word : List ℕ) (not_end : bytes_eq word (dashed []) ≡ false) (not_long : long_of word ≡ None) (not_short : short_of word ≡ None) where
    -- an operand too many
    pub word_refused : arg_by_index s.rules (suc k) ≡ None → s.is_leaf ≡ true → nothing (turn_fault s [] (between h k) word) ≡ false
    word_refused found leaf = rw (not_end, not_long, not_short, found, leaf) refl

    -- an operand
    pub word_turn : (name : List ℕ) → arg_by_index s.rules (suc k) ≡ Some (operand_rule (suc k) name) → k ≤ 2
        → (turn_fault s [] (between h k) word ≡ settle_fault s.rules false h)
        × (walked s.rules [] (between h k) word ≡ between (record (settled s.rules h) { pending = Some (name, word ∷ []) }) (suc k))
    unfolding walked
    word_turn name found few =
        let one = and_false (is_pending (operand_rule (suc k) name) h.pending) in
        (rw (not_end, not_long, not_short, found, one, again) refl, rw (not_end, not_long, not_short, found, one, next_place k few) refl)

  -- `--`
  pub end_turn : (h : Held) (k : ℕ) → (turn_fault s [] (between h k) (dashed []) ≡ []) × (walked s.rules [] (between h k) (dashed []) ≡ trailing_at idle h k)
  unfolding walked
  end_turn h k = (refl, refl)

  -- ---- after `--`

  module _ (waiting : Waiting) (h : Held) (k : ℕ) (word : List ℕ) where
    pub later_refused : arg_by_index s.rules (suc k) ≡ None → s.is_leaf ≡ true → nothing (turn_fault s [] (trailing_at waiting h k) word) ≡ false
    later_refused found leaf = rw (found, leaf) refl

    pub later_turn : (name : List ℕ) → arg_by_index s.rules (suc k) ≡ Some (operand_rule (suc k) name) → k ≤ 2
        → (turn_fault s [] (trailing_at waiting h k) word ≡ settle_fault s.rules false h)
        × (walked s.rules [] (trailing_at waiting h k) word ≡ trailing_at idle (record (settled s.rules h) { pending = Some (name, word ∷ []) }) (suc k))
    unfolding walked
    later_turn name found few =
        let one = and_false (is_pending (operand_rule (suc k) name) h.pending) in
        (rw (found, one, again) refl, rw (found, one, next_place k few) refl)

  -- ---- where an option waits for its value

  module _ (rows : List Row) (k : ℕ) (name : List ℕ) (mine : arg_by_id s.rules name ≡ Some (value_rule name)) where
    abbrev waits : Walk
    waits = awaiting name (held rows (Some (name, []))) k

    pub awaited_end : (turn_fault s [] waits (dashed []) ≡ []) × (walked s.rules [] waits (dashed []) ≡ trailing_at (option name) (held rows (Some (name, []))) k)
    unfolding walked
    awaited_end = (refl, refl)

    module _ (word : List ℕ) (not_end : bytes_eq word (dashed []) ≡ false) where
      refuses : (again : Bool) (b : Bool) (a : Rule) (v : Option (List ℕ)) (x : Kinds)
          → nothing (or_else (if b then option_fault s.rules again a v waits.held else (if is_some v then kind.TooManyValues ∷ [] else react_fault s.rules again a [] waits.held)) x) ≡ false
      refuses again true a (Some v) x = rw mine refl
      refuses again true a None x = rw mine refl
      refuses again false a (Some v) x = refl
      refuses again false a None x = rw mine refl

      -- another option is no value
      pub awaited_long : (other : List ℕ) (v : Option (List ℕ)) → long_of word ≡ Some (other, v) → nothing (turn_fault s [] waits word) ≡ false
      awaited_long other v long = go (arg_by_long s.rules other) refl
        where
          go : (found : Option Rule) → arg_by_long s.rules other ≡ found → nothing (turn_fault s [] waits word) ≡ false
          go None e = rw (not_end, long, e) refl
          go (Some a) e = rw (not_end, long, e) (refuses s.args_override_self (takes_values a) a v _)

      -- the value
      pub awaited_value : long_of word ≡ None → short_of word ≡ None
          → (turn_fault s [] waits word ≡ []) × (walked s.rules [] waits word ≡ between (held rows (Some (name, word ∷ []))) k)
      unfolding walked
      awaited_value not_long not_short =
          let same : bytes_eq name name ≡ true = (bytes_eq-Decides name name).1 refl in
          (rw (not_end, not_long, not_short) refl, rw (not_end, not_long, not_short, mine, same) refl)

  -- ---- a letter

  module _ (rows : List Row) (pending : Option (List ℕ × List (List ℕ))) (k : ℕ) (word : List ℕ) (x y : ℕ) (ys : List ℕ)
      (not_end : bytes_eq word (dashed []) ≡ false) (not_long : long_of word ≡ None) (short : short_of word ≡ Some (y ∷ ys))
      (first : slice_get (chars (y ∷ ys)) 0 ≡ Some x) (none : arg_by_short s.rules x ≡ None) where
    pub letter_refused : nothing (turn_fault s [] (between (held rows pending) k) word) ≡ false
    unfolding flags_fault
    letter_refused = rw (not_end, not_long, short, first, none) refl

    pub awaited_letter : (name : List ℕ) → nothing (turn_fault s [] (awaiting name (held rows pending) k) word) ≡ false
    unfolding flags_fault
    awaited_letter name = rw (not_end, not_long, short, first, none) refl
