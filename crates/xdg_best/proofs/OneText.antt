-- What a costs text says is one thing.
use Rattle.std.proofs.Common.{◌≡◌, ◌∙◌, ℕ, List, [], length, sym, ap, subst, Ok, Err, Some, None}
use Rattle.std.specs.Prelude.{Result, Option}
use Rattle.xdg_base.specs.declared.faults.Fault.{Fault}
use Rattle.xdg_base.specs.declared.faults.Stop.{Stop}
use Rattle.xdg_base.specs.declared.faults.Stop.TheVariants as stops
use Rattle.xdg_names.specs.First as first
use Rattle.xdg_names.proofs.One.{one_first, first_or_none}
use Rattle.xdg_lex.specs.Lexed.{Lexed}
use Rattle.xdg_ast.specs.Lexemes.{Lexeme}
use Rattle.xdg_lex.specs.Offends as tokens_told
use Rattle.xdg_lex.specs.Spans.{StandFrom}
use Rattle.xdg_ast.specs.Tokenizes.{Spells}
use Rattle.xdg_problem.specs.Costs.{CostLists}
use Rattle.xdg_types.specs.Table.{Table}
use Rattle.xdg_best.specs.declared.statements.Statement.{Statement}
use Rattle.xdg_best.specs.Building.{Comes}
use Rattle.xdg_best.specs.Meaning.{costs_of, Offends, first_fault}
use Rattle.xdg_best.specs.Reading as reading
use Rattle.xdg_best.specs.Statements.{Derives}
use Rattle.xdg_best.specs.Texts.{Reads, no_tokens, no_statements, wrong, IsAnswer, Tells}
use Rattle.xdg_base.specs.Told.{Gives}
use Rattle.xdg_best.proofs.Firsts.{rises, first_told}

abbrev Answer : Type 0
Answer = Result CostLists Fault

module _ (bytes : List ℕ) (table : Table) (entries : ℕ) where
  -- ---- no tokens

  pub tokens_only : (stop : Stop) → ((a : Lexed) → tokens_told.IsAnswer bytes a → Gives a (Err stop)) → (answer : Answer) → IsAnswer bytes table entries answer → Gives answer (Err stop)
  tokens_only stops.OutOfMemory only answer is = tt
  tokens_only (stops.Fault g) only (Ok costs) is = absurd (let e : ◌≡◌ {A = Lexed} (Ok is.reads.tokens) (Err g) = only (Ok is.reads.tokens) is.reads.spells in cc)
  tokens_only (stops.Fault g) only (Err f) (no_tokens refused) = let e : ◌≡◌ {A = Lexed} (Err f) (Err g) = only (Err f) refused in cc
  tokens_only (stops.Fault g) only (Err f) (no_statements ts spells refused) = absurd (let e : ◌≡◌ {A = Lexed} (Ok ts) (Err g) = only (Ok ts) spells in cc)
  tokens_only (stops.Fault g) only (Err f) (wrong said reads told) = absurd (let e : ◌≡◌ {A = Lexed} (Ok reads.tokens) (Err g) = only (Ok reads.tokens) reads.spells in cc)

  -- ---- tokens

  module _ (ts : List Lexeme) (end : ℕ) (is_end : end ≡ length bytes) (spelled : Spells bytes ts) (one : (a : Lexed) → tokens_told.IsAnswer bytes a → a ≡ Ok ts) where
    same_tokens : (us : List Lexeme) → Spells bytes us → us ≡ ts
    same_tokens us spells = let e : ◌≡◌ {A = Lexed} (Ok us) (Ok ts) = one (Ok us) spells in cc

    refused_here : (f : Fault) → reading.IsRefused ts (length bytes) f → reading.IsRefused ts end f
    refused_here f refused = subst (λ n. reading.IsRefused ts n f) (sym is_end) refused

    -- no statements
    pub statements_tell : (stop : Stop) → reading.Tells ts end (Err stop) → Tells bytes table entries (Err stop)
    statements_tell (stops.Fault f) told = no_statements ts spelled (subst (λ n. reading.IsRefused ts n f) is_end told)
    statements_tell stops.OutOfMemory told = tt

    pub statements_only : (stop : Stop) → ((a : Result (List Statement) Fault) → reading.IsAnswer ts end a → Gives a (Err stop)) → (answer : Answer) → IsAnswer bytes table entries answer → Gives answer (Err stop)
    statements_only stops.OutOfMemory only answer is = tt
    statements_only (stops.Fault g) only (Ok costs) is =
        absurd (let e : ◌≡◌ {A = Result (List Statement) Fault} (Ok is.said) (Err g) = only (Ok is.said) (subst (λ z. Derives z is.said) (same_tokens is.reads.tokens is.reads.spells) is.reads.derives) in cc)
    statements_only (stops.Fault g) only (Err f) (no_tokens refused) = absurd (let e : ◌≡◌ {A = Lexed} (Err f) (Ok ts) = one (Err f) refused in cc)
    statements_only (stops.Fault g) only (Err f) (no_statements us spells refused) =
        let e : ◌≡◌ {A = Result (List Statement) Fault} (Err f) (Err g) = only (Err f) (refused_here f (subst (λ z. reading.IsRefused z (length bytes) f) (same_tokens us spells) refused)) in cc
    statements_only (stops.Fault g) only (Err f) (wrong said reads told) =
        absurd (let e : ◌≡◌ {A = Result (List Statement) Fault} (Ok said) (Err g) = only (Ok said) (subst (λ z. Derives z said) (same_tokens reads.tokens reads.spells) reads.derives) in cc)

    -- statements
    module _ (said : List Statement) (derived : Derives ts said) (alone : (a : Result (List Statement) Fault) → reading.IsAnswer ts end a → a ≡ Ok said) (stand : StandFrom bytes 0 ts) where
      same_said : (other : List Statement) → Derives ts other → other ≡ said
      same_said other derives = let e : ◌≡◌ {A = Result (List Statement) Fault} (Ok other) (Ok said) = alone (Ok other) derives in cc

      reads_said : Reads bytes said
      reads_said = record { tokens = ts; spells = spelled; derives = derived }

      read_as : (other : List Statement) → Reads bytes other → other ≡ said
      read_as other reads = same_said other (subst (λ z. Derives z other) (same_tokens reads.tokens reads.spells) reads.derives)

      told : first.Tells (Offends table entries [] said) (first_fault table entries [] said)
      told = first_told table entries 0 said [] (rises bytes 0 ts said stand derived)

      told_as : (found : Option Fault) → first_fault table entries [] said ≡ found → first.Tells (Offends table entries [] said) found
      told_as found is = subst (first.Tells (Offends table entries [] said)) is told

      pub build_tells : (result : Result CostLists Stop) → Comes (first_fault table entries [] said) table said result → Tells bytes table entries result
      build_tells (Ok costs) comes = record { said = said; reads = reads_said; right = told_as None comes.0; costs_are = comes.1 }
      build_tells (Err (stops.Fault f)) comes = wrong said reads_said (told_as (Some f) comes)
      build_tells (Err stops.OutOfMemory) comes = tt

      moved : (other : List Statement) (found : Option Fault) → Reads bytes other → first.Tells (Offends table entries [] other) found → first.Tells (Offends table entries [] said) found
      moved other found reads is = subst (λ z. first.Tells (Offends table entries [] z) found) (read_as other reads) is

      pub build_only : (result : Result CostLists Stop) → Comes (first_fault table entries [] said) table said result → (answer : Answer) → IsAnswer bytes table entries answer → Gives answer result
      build_only (Err stops.OutOfMemory) comes answer is = tt
      build_only (Ok made) comes (Ok costs) is = ap Ok (is.costs_are ∙ ap (costs_of table) (read_as is.said is.reads) ∙ sym comes.1)
      build_only (Ok made) comes (Err f) (no_tokens refused) = absurd (let e : ◌≡◌ {A = Lexed} (Err f) (Ok ts) = one (Err f) refused in cc)
      build_only (Ok made) comes (Err f) (no_statements us spells refused) =
          absurd (let e : ◌≡◌ {A = Result (List Statement) Fault} (Err f) (Ok said) = alone (Err f) (refused_here f (subst (λ z. reading.IsRefused z (length bytes) f) (same_tokens us spells) refused)) in cc)
      build_only (Ok made) comes (Err f) (wrong other reads bad) = absurd (first_or_none (Offends table entries [] said) f (moved other (Some f) reads bad) (told_as None comes.0))
      build_only (Err (stops.Fault g)) comes (Ok costs) is = absurd (first_or_none (Offends table entries [] said) g (told_as (Some g) comes) (moved is.said None is.reads is.right))
      build_only (Err (stops.Fault g)) comes (Err f) (no_tokens refused) = absurd (let e : ◌≡◌ {A = Lexed} (Err f) (Ok ts) = one (Err f) refused in cc)
      build_only (Err (stops.Fault g)) comes (Err f) (no_statements us spells refused) =
          absurd (let e : ◌≡◌ {A = Result (List Statement) Fault} (Err f) (Ok said) = alone (Err f) (refused_here f (subst (λ z. reading.IsRefused z (length bytes) f) (same_tokens us spells) refused)) in cc)
      build_only (Err (stops.Fault g)) comes (Err f) (wrong other reads bad) = ap Err (one_first (Offends table entries [] said) f g (moved other (Some f) reads bad) (told_as (Some g) comes))
