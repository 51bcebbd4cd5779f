-- The steps of expansion, put together.
use Rattle.std.proofs.Common.{◌≡◌, ℕ, ◌+◌, ◌<◌, ◌≤◌, List, [], ◌∷◌, ◌++◌, length, get_or, drop, take, map, Result, Ok, Err, sym, ap, ◌∙◌, subst, inl, inr, arith}
use Rattle.std.proofs.lemmas.List.{map-append, take_all, take-append-drop}
use Rattle.xdg_facts.proofs.Lists.{from_place}
use Rattle.xdg_facts.proofs.Fronts.{map_next}
use Rattle.xdg_base.specs.Told.{Gives, answer_of}
use Rattle.xdg_base.specs.declared.faults.Cause.{Cause}
use Rattle.xdg_base.specs.declared.faults.Cause.TheVariants as causes
use Rattle.xdg_base.specs.declared.faults.Fault.{Fault}
use Rattle.xdg_base.specs.declared.faults.Stop.{Stop}
use Rattle.xdg_base.specs.declared.faults.Stop.TheVariants as stops
use Rattle.xdg_packed.specs.Lexicon.{Entry}
use Rattle.xdg_classes.specs.Bodies.{Body, body}
use Rattle.xdg_check.specs.declared.checked.EntryDef.{EntryDef}
use Rattle.xdg_check.specs.Checked.{Parts, IsChecked}
use Rattle.xdg_check.specs.Counts.{Counting, Agrees, uses, combos}
use Rattle.xdg_facts.specs.Capped.{capped}
use Rattle.xdg_check.proofs.SameCounts.{same_uses, same_combos}
use Rattle.xdg_lexicon.specs.Partial.{Partial}
use Rattle.xdg_lexicon.specs.Denotes.{Denotes}
use Rattle.xdg_lexicon.specs.Sources.{Source, source_of, HasNumber}
use Rattle.xdg_lexicon.specs.Lexicon.{Adds, SoFar, nothing_yet, IsWithinLimits, IsExpanded, Expands, ExpandsAll, no_more, one_more, AreFewEach, IsTooMany, many_uses, many_combos, unsaid, many_entries, many_of_word, Refuses}
use Rattle.xdg_lexicon.specs.Steps.{AddsMembers, KeepsLimits, Once, AllOnce, CountsOne, AddsOne, ExpandsOne}
use Rattle.xdg_check.specs.Only.{placed_body}
use Rattle.xdg_packed.proofs.OfTable.{words_once}
use Rattle.xdg_lexicon.proofs.Numbers.{number_once, number_told}
use Rattle.xdg_lexicon.specs.Answers.{IsAnswer, Tells}
use Rattle.xdg_lexicon.proofs.Only.{IsDefinite, not_within, only_expanded, only_refused}

-- ---- the numbers of one `defentry`

-- what is told of a sum: with which numbers it goes
abbrev pub Sums : Cause → ℕ → ℕ → ℕ → Result ℕ Stop → Type 0
Sums cause at before here (Ok sum) = (n : ℕ) → here ≡ capped n → IsWithinLimits before n × (sum ≡ before + n)
Sums cause at before here (Err stop) = (n : ℕ) → here ≡ capped n → (f : Fault) × ((stop ≡ stops.Fault f) × IsTooMany cause at before n f)

module _ (parts : Parts) (is : IsChecked parts) where
  pub definite : IsDefinite (source_of parts)
  definite = record {
    uses_once = number_once uses same_uses (λ c. c.uses) parts.classes is.uses;
    combos_once = number_once combos same_combos (λ c. c.combos) parts.classes is.combos;
    words_once = words_once parts.types is.types;
  }

  module _ (before : SoFar) (def : EntryDef) where
    abbrev part : Body
    part = body def.body.kind

    module _ (here : ℕ) (uses_here : (names : Counting) → Agrees uses parts.classes names → here ≡ capped (uses names part)) where
      uses_told : {P : ℕ → Type 0} → ((n : ℕ) → here ≡ capped n → P n) → (n : ℕ) × (HasNumber uses (source_of parts).classes part n × P n)
      uses_told tells = number_told uses same_uses (λ c. c.uses) parts.classes is.uses part here uses_here tells

      pub uses_refused : (n : ℕ) (stop : Stop) → before.uses ≡ n → Sums causes.TooManyUses def.at n here (Err stop) → CountsOne (source_of parts) before (placed_body def) (Err stop)
      uses_refused n stop same sums =
          let told = uses_told sums in
          let f = told.1.1.0 in
          let many = subst (λ m. IsTooMany causes.TooManyUses def.at m told.0 f) (sym same) told.1.1.1.1 in
          subst (λ s. CountsOne (source_of parts) before (placed_body def) (Err s)) (sym told.1.1.1.0) (
            many_uses told.0 told.1.0 many,
            λ c. not_within causes.TooManyUses def.at before.uses told.0 f many (subst (IsWithinLimits before.uses) (definite.uses_once part c.uses_of told.0 c.has_uses told.1.0) c.few_uses),
          )

      module _ (there : ℕ) (combos_there : (names : Counting) → Agrees combos parts.classes names → there ≡ capped (combos names part)) where
        combos_told : {P : ℕ → Type 0} → ((n : ℕ) → there ≡ capped n → P n) → (n : ℕ) × (HasNumber combos (source_of parts).classes part n × P n)
        combos_told tells = number_told combos same_combos (λ c. c.combos) parts.classes is.combos part there combos_there tells

        pub combos_refused : (n m sum : ℕ) (stop : Stop) → before.uses ≡ n → before.combos ≡ m → Sums causes.TooManyUses def.at n here (Ok sum) → Sums causes.TooManyEntries def.at m there (Err stop) → CountsOne (source_of parts) before (placed_body def) (Err stop)
        combos_refused n m sum stop same alike sums refused =
            let first = uses_told sums in
            let told = combos_told refused in
            let f = told.1.1.0 in
            let many = subst (λ k. IsTooMany causes.TooManyEntries def.at k told.0 f) (sym alike) told.1.1.1.1 in
            subst (λ s. CountsOne (source_of parts) before (placed_body def) (Err s)) (sym told.1.1.1.0) (
              many_combos first.0 told.0 first.1.0 (subst (λ k. IsWithinLimits k first.0) (sym same) first.1.1.0) told.1.0 many,
              λ c. not_within causes.TooManyEntries def.at before.combos told.0 f many (subst (IsWithinLimits before.combos) (definite.combos_once part c.combos_of told.0 c.has_combos told.1.0) c.few_combos),
            )

        pub both_counted : (n m sum total : ℕ) → before.uses ≡ n → before.combos ≡ m → Sums causes.TooManyUses def.at n here (Ok sum) → Sums causes.TooManyEntries def.at m there (Ok total) → CountsOne (source_of parts) before (placed_body def) (Ok (sum, total))
        both_counted n m sum total same alike sums totals =
            let first = uses_told sums in
            let second = combos_told totals in (
              record {
                uses_of = first.0;
                has_uses = first.1.0;
                few_uses = subst (λ k. IsWithinLimits k first.0) (sym same) first.1.1.0;
                combos_of = second.0;
                has_combos = second.1.0;
                few_combos = subst (λ k. IsWithinLimits k second.0) (sym alike) second.1.1.0;
              },
              (first.1.1.1 ∙ ap (λ k. k + first.0) (sym same), second.1.1.1 ∙ ap (λ k. k + second.0) (sym alike)),
            )

-- ---- the members of one `defentry`

module _ (source : Source) (before : SoFar) (one : ℕ × Body) (ms : List Partial) (denotes : Denotes source.table.dims source.classes [] one.1 ms) (only : (others : List Partial) → Denotes source.table.dims source.classes [] one.1 others → others ≡ ms) where
  once : Once source one.1
  once others more d e = only others d ∙ sym (only more e)

  pub members_refused : (old : List Entry) (stop : Stop) → AddsMembers source.table ms one.0 old (Err stop) → AddsOne source before one (Err stop)
  members_refused old (stops.Fault f) told = (λ c. unsaid ms told.0 c denotes told.1.0 told.1.1.0 told.1.1.1, once)
  members_refused old stops.OutOfMemory told = tt

  members_added : (old new : List Entry) → before.entries ≡ old → AddsMembers source.table ms one.0 old (Ok new) → IsExpanded source before one.1 new
  members_added old new same told =
      record { members = ms; denotes = denotes; made = told.0; whole_each = told.1.0; added = subst (λ l. Adds l told.0 new) (sym same) told.1.1 }

  pub limits_told : (old new : List Entry) (answer : Result (Unit {0}) Stop) → before.entries ≡ old → AddsMembers source.table ms one.0 old (Ok new) → KeepsLimits source.table new one.0 answer → AddsOne source before one (answer_of (λ done. new) answer)
  limits_told old new (Ok done) same told keeps = (members_added old new same told, (keeps.0, (keeps.1, once)))
  limits_told old new (Err (stops.Fault f)) same told (inl many) = (λ c. many_entries new c (members_added old new same told) many.0 many.1, once)
  limits_told old new (Err (stops.Fault f)) same told (inr crowd) = (λ c. many_of_word new crowd.1.0 c (members_added old new same told) crowd.0 crowd.1.1.0 crowd.1.1.1, once)
  limits_told old new (Err stops.OutOfMemory) same told keeps = tt

-- ---- one `defentry`

module _ (source : Source) (before : SoFar) (one : ℕ × Body) where
  pub counts_refuse : (stop : Stop) → CountsOne source before one (Err stop) → ExpandsOne source before one (Err stop)
  counts_refuse (stops.Fault f) told = (told.0, λ c. absurd (told.1 c))
  counts_refuse stops.OutOfMemory told = tt

  pub adding_refuses : (sums : ℕ × ℕ) (stop : Stop) → CountsOne source before one (Ok sums) → AddsOne source before one (Err stop) → ExpandsOne source before one (Err stop)
  adding_refuses sums (stops.Fault f) counted told = (told.0 counted.0, λ c. told.1)
  adding_refuses sums stops.OutOfMemory counted told = tt

  pub one_expanded : (after : SoFar) → CountsOne source before one (Ok (after.uses, after.combos)) → AddsOne source before one (Ok after.entries) → ExpandsOne source before one (Ok after)
  one_expanded after counted told = (
    record {
      counted = counted.0;
      uses_are = counted.1.0;
      combos_are = counted.1.1;
      expanded = told.0;
      few = told.1.0;
      few_each = told.1.1.0;
    },
    told.1.1.1,
  )

  pub few_sums : (sums : ℕ × ℕ) → CountsOne source before one (Ok sums) → (sums.0 ≤ 1048576) × (sums.1 ≤ 1048576)
  few_sums sums counted =
      let u = counted.0.few_uses.1 in
      let c = counted.0.few_combos.1 in
      let e = counted.1.0 in
      let f = counted.1.1 in
      (omega (arith, u, e), omega (arith, c, f))

-- ---- one after the other

module _ (source : Source) where
  pub expands_last : (before mid after : SoFar) (front : List (ℕ × Body)) (one : ℕ × Body) → ExpandsAll source before front mid → Expands source mid one.1 after → ExpandsAll source before (front ++ one ∷ []) after
  expands_last _ mid after _ one (no_more _) x = one_more mid after after one [] x (no_more after)
  expands_last before mid after _ one (one_more _ next _ first rest y more) x = one_more before next after first (rest ++ one ∷ []) y (expands_last next mid after rest one more x)

  pub once_last : (front : List (ℕ × Body)) (one : ℕ × Body) → AllOnce source front → Once source one.1 → AllOnce source (front ++ one ∷ [])
  once_last [] one all last = (last, tt)
  once_last (first ∷ front) one all last = (all.0, once_last front one all.1 last)

split_at : (defs : List EntryDef) (i : ℕ) (def : EntryDef) → i < length defs → def ≡ get_or defs i def → map placed_body defs ≡ map placed_body (take i defs) ++ placed_body def ∷ map placed_body (drop (i + 1) defs)
split_at defs i def within is =
    ap (map placed_body) (sym (take-append-drop i defs) ∙ ap (λ l. take i defs ++ l) (from_place defs i def within is)) ∙ map-append placed_body (take i defs) (def ∷ drop (i + 1) defs)

-- what is known before a `defentry`: those before it are expanded, and each denotes one list
pub record ExpandedSoFar (parts : Parts) (defs : List EntryDef) (i : ℕ) (so : SoFar) : Type 0 where
  pub all : ExpandsAll (source_of parts) nothing_yet (map placed_body (take i defs)) so
  pub once : AllOnce (source_of parts) (map placed_body (take i defs))
  pub few : length so.entries ≤ 65536
  pub few_each : AreFewEach parts.types so.entries

module _ {parts : Parts} {defs : List EntryDef} {i : ℕ} {def : EntryDef} (within : i < length defs) (is : def ≡ get_or defs i def) {so : SoFar} (so_far : ExpandedSoFar parts defs i so) where
  pub expanded_more : (after : SoFar) → ExpandsOne (source_of parts) so (placed_body def) (Ok after) → ExpandedSoFar parts defs (i + 1) after
  expanded_more after one = record {
    all = subst (λ l. ExpandsAll (source_of parts) nothing_yet l after) (sym (map_next placed_body defs i def within is)) (expands_last (source_of parts) nothing_yet so after (map placed_body (take i defs)) (placed_body def) so_far.all one.0);
    once = subst (AllOnce (source_of parts)) (sym (map_next placed_body defs i def within is)) (once_last (source_of parts) (map placed_body (take i defs)) (placed_body def) so_far.once one.1);
    few = one.0.few;
    few_each = one.0.few_each;
  }

  pub refused : (f : Fault) → parts.entries ≡ defs → ExpandsOne (source_of parts) so (placed_body def) (Err (stops.Fault f)) → Refuses (source_of parts) f
  refused f same one = record {
    front = map placed_body (take i defs);
    one = placed_body def;
    rest = map placed_body (drop (i + 1) defs);
    are = ap (map placed_body) same ∙ split_at defs i def within is;
    so_far = so;
    expanded = so_far.all;
    offends = one.0;
  }

  pub refused_tells : (stop : Stop) → parts.entries ≡ defs → ExpandsOne (source_of parts) so (placed_body def) (Err stop) → Tells (source_of parts) (Err stop)
  refused_tells (stops.Fault f) same one = refused f same one
  refused_tells stops.OutOfMemory same one = tt

  pub refused_only : IsChecked parts → (stop : Stop) → parts.entries ≡ defs → ExpandsOne (source_of parts) so (placed_body def) (Err stop) → (answer : Result (List Entry) Fault) → IsAnswer (source_of parts) answer → Gives answer (Err stop)
  unfolding refused
  refused_only checked (stops.Fault f) same one answer told = only_refused (source_of parts) (definite parts checked) f (refused f same one) so_far.once one.1 answer told
  refused_only checked stops.OutOfMemory same one answer told = tt

pub expanded_none : (parts : Parts) (defs : List EntryDef) (entries : List Entry) → entries ≡ [] → ExpandedSoFar parts defs 0 (record { uses = 0; combos = 0; entries = entries })
expanded_none parts defs entries none = rw none (record {
  all = no_more nothing_yet;
  once = tt;
  few = omega arith;
  few_each = λ dim field place word. omega arith;
})

module _ {parts : Parts} {defs : List EntryDef} {i : ℕ} {so : SoFar} (same : parts.entries ≡ defs) (past : length defs ≤ i) (so_far : ExpandedSoFar parts defs i so) where
  are_all : map placed_body (take i defs) ≡ map placed_body parts.entries
  are_all = ap (map placed_body) (take_all i defs past ∙ sym same)

  pub all_expanded : ExpandsAll (source_of parts) nothing_yet (map placed_body parts.entries) so
  all_expanded = subst (λ l. ExpandsAll (source_of parts) nothing_yet l so) are_all so_far.all

  pub expanded_only : IsChecked parts → (answer : Result (List Entry) Fault) → IsAnswer (source_of parts) answer → Gives answer (Ok so.entries)
  expanded_only checked answer told = only_expanded (source_of parts) (definite parts checked) so (subst (AllOnce (source_of parts)) are_all so_far.once) all_expanded answer told
