-- The dimension of words, and where entries say theirs.
use Rattle.std.proofs.Common.{ℕ, Some, refl, sym, subst, codes}
use Rattle.xdg_base.specs.Faults.{fault_at}
use Rattle.xdg_base.specs.declared.faults.Cause.TheVariants as causes
use Rattle.xdg_domain.specs.Shapes.{text}
use Rattle.xdg_names.specs.First.{IsFirstOf, Tells}
use Rattle.xdg_types.specs.Table.{Table, typed}
use Rattle.xdg_packed.specs.Entries.{IsWordPlace}
use Rattle.xdg_check.specs.Lex.{HasLex, LexOffends}
use Rattle.xdg_facts.proofs.In.{in_got, at_once}
use Rattle.xdg_names.proofs.First.{itself}

-- ---- from places to what stands there

-- where words are said, there is the dimension of words
pub word_lex : (table : Table) (dim field : ℕ) → IsWordPlace table dim field → HasLex table
word_lex table dim field place = record {
  place = place.used.0;
  used = in_got table.used dim place.used.0 place.used.1.0;
  dim = place.lex;
  stands = place.used.1.1;
  lex = record { name = place.name; word = in_got (typed place.lex.fields) field (codes "word", text) place.word };
}

-- ---- and back

no_words : (table : Table) → ((dim field : ℕ) → IsWordPlace table dim field → ⊥) → HasLex table → ⊥
no_words table none lex =
    let used = at_once table.used lex.place lex.used in
    let field = at_once (typed lex.dim.fields) (codes "word", text) lex.lex.word in
    none used.0 field.0 (record { lex = lex.dim; used = (lex.place, (used.1, lex.stands)); name = lex.lex.name; word = field.1 })

-- where no words are said, that is the one fault
pub lex_missing : (table : Table) → ((dim field : ℕ) → IsWordPlace table dim field → ⊥) → Tells (LexOffends table) (Some (fault_at causes.NoLex 0))
lex_missing table none = (
  record { missing = no_words table none; fault = refl },
  λ f offends. subst (IsFirstOf (fault_at causes.NoLex 0)) (sym offends.fault) (itself (fault_at causes.NoLex 0)),
)
