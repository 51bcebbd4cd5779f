-- What the command of a table takes, and what it finds.
use Rattle.std.proofs.Common.{◌≡◌, ◌∙◌, ◌+◌, ◌&&◌, ℕ, suc, true, false, not, List, [], ◌∷◌, ◌++◌, inl, inr, map, Option, Some, None, refl, sym, ap, ap₂, arith, String}
use Rattle.std.specs.Prelude.{slice_get, if◌then◌else◌}
use Rattle.std.specs.List.{fold}
use Rattle.std.specs.String.{string_bytes}
use Rattle.std.proofs.lemmas.Bool.{cases_Bool, false_from_ne_true, true≢false}
use Rattle.std.proofs.lemmas.Str.{IsUtf8-string_bytes}
use Rattle.clap.specs.Matches.{found_of}
use Rattle.clap.specs.Walk.{Row, first_of, has_row, nothing_held, one_of, rows_after, rows_of, settled, walk, walk_from, with_default}
use Rattle.clap.specs.Simple.{App, Shape, argument_words, matches_of, names_of}
use Rattle.clap.specs.Takes.{is_given}
use Rattle.clap.specs.Kinds.{Kinds, or_else}
use Rattle.clap.specs.Faults.{built_fault, check_fault, default_fault, defaults_fault, fault_of, level_fault, settle_fault, walk_fault}
use Rattle.clap.specs.declared.parser.matches.ArgMatches.{ArgMatches}
use Rattle.clap.proofs.FaultLemmas.{leaf_fault}
use Rattle.clap.proofs.WalkLemmas.{first_value-rows, one_text-rows}
use Rattle.xdg_command.specs.Items.{Item, has_flag}
use Rattle.xdg_base.specs.Texts.{has_text}
use Rattle.xdg_command.specs.Found.{Holds, Matches}
use Rattle.xdg_command.specs.Syntax.{Table, app_in}
use Rattle.xdg_command.proofs.Built.{app_is, built_is, no_rule, numbered, rules_in, shape_in}
use Rattle.xdg_command.proofs.Filling.{Formed, filled, formed}
use Rattle.xdg_command.proofs.Finding.{finds_flag, finds_operand, finds_value, first_kept, flag_kept, found_in}
use Rattle.xdg_command.proofs.Fitting.{put_few, put_once, put_rows, rows_of_items}
use Rattle.xdg_command.proofs.Lookups.{Right, among_at, apart_at, finds_in}
use Rattle.xdg_command.proofs.Placed.{put}
use Rattle.xdg_command.proofs.Reader.{read}
use Rattle.xdg_facts.specs.Onward.{onward}
use Rattle.xdg_facts.proofs.Truths.{or_true}
use Rattle.xdg_command.proofs.Rules.{flag_rule, nothing, operand_rule, value_rule}
use Rattle.xdg_command.proofs.Spelled.{flag_form, items_read, read_items, value_form}
use Rattle.xdg_command.proofs.Turns.{between, held}
use Rattle.xdg_command.proofs.Walked.{AreTexts, total, walked_all}
use Rattle.xdg_facts.proofs.Options.{onward_is}

-- ---- after the walk

module _ (t : Table) where
  quiet : (rows : List Row) (name : List ℕ) → (default_fault rows (flag_rule name) ≡ [])
  quiet rows name = elim (cases_Bool (has_row name rows)) [ inl e ↦ rw e refl | inr e ↦ rw e refl ]

  no_flag_fault : (rows : List Row) (flags : List (List ℕ)) → defaults_fault rows (map flag_rule flags) ≡ []
  unfolding defaults_fault
  no_flag_fault rows [] = refl
  no_flag_fault rows (name ∷ flags) = rw (quiet rows name) (no_flag_fault (with_default rows (flag_rule name)) flags)

  no_default_fault : (rows : List Row) (place : ℕ) (operands values flags : List (List ℕ)) → defaults_fault rows (numbered place operands ++ (map value_rule values ++ map flag_rule flags)) ≡ []
  unfolding defaults_fault
  no_default_fault rows place [] [] flags = no_flag_fault rows flags
  no_default_fault rows place [] (name ∷ values) flags = rw (or_true (has_row name rows)) (no_default_fault (with_default rows (value_rule name)) place [] values flags)
  no_default_fault rows place (name ∷ operands) values flags = rw (or_true (has_row name rows)) (no_default_fault (with_default rows (operand_rule place name)) (suc place) operands values flags)

  no_check_fault : (rows : List Row) → check_fault (shape_in t) rows false ≡ []
  no_check_fault rows = rw (no_rule (λ a. a.required && not (is_given a.id rows)) t (λ place name. refl) (λ name. refl) (λ name. refl)) refl

-- ---- what is taken

took : (x y : Kinds) (rows end : List Row) → (if nothing x then (if nothing y then Some rows else None) else None) ≡ Some end → (or_else x (or_else y []) ≡ []) × (rows ≡ end)
took [] [] rows end e = (refl, cc)
took [] (k ∷ ks) rows end e = absurd cc
took (k ∷ ks) y rows end e = absurd cc

refused : (x y : Kinds) (rows : List Row) → (if nothing x then (if nothing y then Some rows else None) else None) ≡ None → or_else x (or_else y []) ≡ [] → ⊥
refused [] [] rows e none = absurd cc
refused [] (k ∷ ks) rows e none = absurd cc
refused (k ∷ ks) y rows e none = absurd cc

module _ (t : Table) (r : Right t) (words : List (List ℕ)) (texts : AreTexts words) where
  abbrev s : Shape
  s = shape_in t

  abbrev walks : Option (List Row)
  walks = total s (between (held [] None) 0) words

  walks_is : walks ≡ onward (read t None words) (put t 0 [])
  walks_is = walked_all s t (finds_in t r) refl refl words texts

  words_are : argument_words (app_in t) words ≡ words
  words_are = ap (λ a. argument_words a words) (app_is t)

  abbrev last : List Row
  last = (settled s.rules (walk s.rules [] nothing_held words).held).rows

  level_is : level_fault s [] nothing_held words false [] ≡ or_else (walk_fault s [] (between (held [] None) 0) words) (or_else (settle_fault s.rules false (walk s.rules [] nothing_held words).held) [])
  level_is = ap₂
      (λ x y. or_else (walk_fault s [] (walk_from nothing_held) words) (or_else [] (or_else (settle_fault s.rules false (walk s.rules [] nothing_held words).held) (or_else x y))))
      (no_default_fault t last 1 t.operands t.values t.flags) (no_check_fault t (fold with_default last (rules_in t)))

  fault_is : fault_of (app_in t) words ≡ or_else (walk_fault s [] (between (held [] None) 0) words) (or_else (settle_fault s.rules false (walk s.rules [] nothing_held words).held) [])
  fault_is =
      ap₂ (λ a ws. built_fault a nothing_held ws) (built_is t r.few) words_are
      ∙ leaf_fault (record { top = s; subs = [] }) nothing_held words refl ∙ level_is

  matches_are : matches_of (app_in t) words ≡ fold with_default last (rules_in t)
  matches_are = ap₂ (λ (a : App) ws. rows_after a.top.rules (names_of a) ws) (built_is t r.few) words_are

  -- ---- items that are found

  not_flag : (name : List ℕ) → has_text t.values name ≡ true → has_text t.flags name ≡ false
  not_flag name mine = false_from_ne_true (has_text t.flags name) (λ e. true≢false (sym mine ∙ apart_at t.flags t.values name r.flags e))

  module _ (found : ArgMatches) (end : List Row) (items : List Item) (form : Formed t items) (end_is : end ≡ rows_of_items t 0 items)
      (rows : rows_of (found_of found) ≡ fold with_default end (rules_in t)) where
    holds : Holds t items found
    holds = record {
      operands = λ k name e.
          let here : 0 + k ≡ k = omega arith in
          first_value-rows (found_of found) name ∙ ap (first_of name) rows
          ∙ first_kept t name end (apart_at t.operands t.flags name r.from_flags (among_at t.operands k name e))
          ∙ ap (first_of name) end_is ∙ finds_operand t r 0 k name items (ap (slice_get t.operands) here ∙ e) form;
      values = λ name e.
          first_value-rows (found_of found) name ∙ ap (first_of name) rows ∙ first_kept t name end (not_flag name e)
          ∙ ap (first_of name) end_is ∙ finds_value t r name (value_form t r name e) 0 items form;
      flags = λ name e.
          one_text-rows (found_of found) name ∙ ap (one_of name) rows
          ∙ flag_kept t name end (has_flag name items) e (ap (found_in name) end_is ∙ finds_flag t r name (flag_form t r name e) 0 items form);
    }

  pub taken : (found : ArgMatches) → fault_of (app_in t) words ≡ [] → rows_of (found_of found) ≡ matches_of (app_in t) words → Matches t words (Some found)
  taken found none rows = go walks refl
    where
      go : (o : Option (List Row)) → walks ≡ o → Matches t words (Some found)
      go None e = absurd (refused _ _ last e (sym fault_is ∙ none))
      go (Some end) e =
          let told = took _ _ last end e in
          let read_is = onward_is (read t None words) (put t 0 []) end (sym walks_is ∙ e) in
          let items = read_is.0 in
          let read = items_read t r words items read_is.1 in
          let once = put_once t 0 [] items end read_is.2 in
          let few = put_few t 0 [] items end read_is.2 (omega arith) in (
            items,
            record { read = read; once = λ name. omega (arith, once name); few = omega (arith, few) },
            holds found end items (formed t r words items read) (put_rows t 0 [] items end read_is.2) (rows ∙ matches_are ∙ ap (λ xs. fold with_default xs (rules_in t)) told.1),
          )

  pub not_taken : (fault_of (app_in t) words ≡ [] → ⊥) → Matches t words None
  not_taken some items fits =
      let read_is = read_items t r words items fits.read in
      let ends = filled t r 0 [] items (formed t r words items fits.read) (λ name b e. omega (arith, fits.once name)) (λ j name le e. refl) (omega (arith, fits.few)) in
      let walks_end : walks ≡ Some ends.0 = walks_is ∙ ap (λ o. onward o (put t 0 [])) read_is ∙ ends.1 in
      some (fault_is ∙ (took _ _ last ends.0 walks_end).0)

-- the words of a slice are texts
pub are_texts : {Z : Type 0} (words : List (String Z)) → AreTexts (map string_bytes words)
are_texts [] = tt
are_texts (word ∷ words) = (IsUtf8-string_bytes word, are_texts words)
