-- Where no value in a body is wrong, all are right.
use Rattle.std.proofs.Common.{◌≡◌, inl, inr, ℕ, List, [], Option, None, Some, refl}
use Rattle.xdg_base.specs.Faults.{fault_at}
use Rattle.xdg_ast.specs.declared.names.Pair.{Pair}
use Rattle.xdg_base.specs.declared.faults.Cause.TheVariants as causes
use Rattle.xdg_base.specs.declared.faults.Fault.{Fault}
use Rattle.xdg_domain.specs.Shapes.{Shape}
use Rattle.xdg_types.specs.Answers.{None_of}
use Rattle.xdg_types.specs.Parts.{Statement, keys}
use Rattle.xdg_types.specs.Table.{Table}
use Rattle.xdg_types.proofs.Elements.{among_or_not}
use Rattle.xdg_types.proofs.NamesAgain.{again_differ}
use Rattle.xdg_terms.specs.Stray.{IsStrayParam}
use Rattle.xdg_classes.specs.Bodies.{Term, Said, records}
use Rattle.xdg_classes.specs.Definitions.{Scoped, bodies}
use Rattle.xdg_classes.specs.Offences.{ValueOffends}
use Rattle.xdg_classes.specs.Wants.{feature_shape}
use Rattle.xdg_check.specs.Checked.{IsScoped}
use Rattle.xdg_terms.specs.Replaced.{IsOpenRight}
use Rattle.xdg_check.proofs.Keeping.{RightBodies}
use Rattle.xdg_facts.specs.Membership.{In}

scoped_unless : (free : List (List ℕ)) (t : Term) → ((f : Fault) → IsStrayParam free t f → ⊥) → IsScoped free t
scoped_unless free t none name stands = elim (among_or_not free name.text) [
  | inl a ↦ a
  | inr b ↦ absurd (none (fault_at causes.WrongKind name.span.start) (record { name = name; used = stands; missing = b; fault = refl }))
]

module _ (statements : List Statement) (table : Table) (none : None_of (ValueOffends statements table)) where
  pair_right : (b : Scoped) → In (bodies statements) b → (said : Said) → In (records b.body) said → (pair : Pair Term) → In said.pairs pair
      → (s : Shape) × ((feature_shape table said.dim.text pair.key.text ≡ Some s) × IsOpenRight b.params s pair.value)
  pair_right b h said i pair j = by (feature_shape table said.dim.text pair.key.text) refl
    where
      by : (o : Option Shape) → feature_shape table said.dim.text pair.key.text ≡ o → (s : Shape) × ((feature_shape table said.dim.text pair.key.text ≡ Some s) × IsOpenRight b.params s pair.value)
      by None e = absurd (none (fault_at causes.UnknownName pair.key.span.start) (inl (record { scoped = b; among = h; said = said; stands = i; pair = pair; has = j; missing = e; fault = refl })))
      by (Some s) e = (s, (e, λ f k. none f (inr (inr (inl (record { scoped = b; among = h; said = said; stands = i; pair = pair; has = j; shape = s; feature = e; offends = k }))))))

  pub right_bodies : RightBodies statements table
  right_bodies = record {
    said = λ b h said i. record {
      once = again_differ (keys said.pairs) (λ f a. none f (inr (inl (record { scoped = b; among = h; said = said; stands = i; again = a }))));
      pairs = λ pair j. pair_right b h said i pair j;
      scoped = λ pair j. scoped_unless b.params pair.value (λ f k. none f (inr (inr (inr (inr (inr (inl (record { scoped = b; among = h; said = said; stands = i; pair = pair; has = j; offends = k }))))))));
    };
    called = λ b h call i pair j s wanted f k. none f (inr (inr (inr (inl (record { scoped = b; among = h; call = call; stands = i; pair = pair; has = j; shape = s; wanted = wanted; offends = k })))));
    scoped = λ b h call i pair j. scoped_unless b.params pair.value (λ f k. none f (inr (inr (inr (inr (inr (inr (inl (record { scoped = b; among = h; call = call; stands = i; pair = pair; has = j; offends = k })))))))));
    presets = λ c h p i t e s wanted f k. none f (inr (inr (inr (inr (inl (record { class = c; among = h; param = p; has = i; term = t; preset = e; shape = s; wanted = wanted; offends = k }))))));
    closed = λ c h p i t e. scoped_unless [] t (λ f k. none f (inr (inr (inr (inr (inr (inr (inr (record { class = c; among = h; param = p; has = i; term = t; preset = e; offends = k })))))))));
  }
