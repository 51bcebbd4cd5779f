use Rattle.std.proofs.Common.{ℕ, ◌+◌, ◌*◌, inl, inr, slice_index_or, w64, ap, sym, ◌∙◌, arith, subst, refl}
use Rattle.std.specs.Int.{trailing_zeros}
use Rattle.std.proofs.lemmas.Bool.{cases_lt}
use Rattle.xdg_propcore.specs.Flags.{IsOn, HoldsFlags, flags_of}
use Rattle.xdg_propcore.proofs.Flags.{small_place, lowest_within, lowest_on, none_in_word, none_on}
use Rattle.xdg_propcore.proofs.awake.Awake.first.Goals as goal

pub overflow_mul-result : goal.overflow_mul-result
overflow_mul-result c =
    let holds = subst (λ w. HoldsFlags w c.self.inside.count) (sym c.deref-word-items.ensures.value) c.self.invariant in
    let p = small_place c.deref-word-items.result.now c.self.inside.count c.loop-place.place holds c.loop-place-test.true in
    let s = c.self.invariant.small in
    omega (arith, p, s)

pub overflow_add-result : goal.overflow_add-result
overflow_add-result c =
    let holds = subst (λ w. HoldsFlags w c.self.inside.count) (sym c.deref-word-items.ensures.value) c.self.invariant in
    let p = lowest_within c.deref-word-items.result.now c.self.inside.count c.loop-place.place (slice_index_or c.deref-word-items.result.now c.loop-place.place 0) holds (c.loop-place.invariant.words c.loop-place.place).fits c.if-word-ne0.true refl in
    let s = c.self.invariant.small in
    omega (arith, p, s)

pub returns-then-word-ne0-clause-some : goal.returns-then-word-ne0-clause-some
returns-then-word-ne0-clause-some c =
    let holds = subst (λ w. HoldsFlags w c.self.inside.count) (sym c.deref-word-items.ensures.value) c.self.invariant in
    let p = lowest_on c.deref-word-items.result.now c.self.inside.count c.loop-place.place (slice_index_or c.deref-word-items.result.now c.loop-place.place 0) holds (c.loop-place.invariant.words c.loop-place.place).fits c.if-word-ne0.true refl in
    subst (λ flags. IsOn flags (c.loop-place.place * 64 + trailing_zeros w64 (slice_index_or c.deref-word-items.result.now c.loop-place.place 0))) (ap (λ w. flags_of w c.self.inside.count) c.deref-word-items.ensures.value ∙ c.self.view_is) p

pub loop-place-preserved : goal.loop-place-preserved
loop-place-preserved c = record {
  words = c.loop-place.invariant.words;
  none = λ b l e. elim (cases_lt b (c.loop-place.place * 64)) [
    | inl k ↦ c.loop-place.invariant.none b k e
    | inr k ↦ none_in_word c.deref-word-items.result.now c.loop-place.place b (slice_index_or c.deref-word-items.result.now c.loop-place.place 0) c.if-word-ne0.false refl k l e
  ];
}

pub returns-clause-none : goal.returns-clause-none
returns-clause-none c =
    let holds = subst (λ w. HoldsFlags w c.self.inside.count) (sym c.deref-word-items.ensures.value) c.self.invariant in
    let n = none_on c.deref-word-items.result.now c.self.inside.count holds (λ b l e. c.loop-place.invariant.none b (let t = c.loop-place-test.false in omega (arith, l, t)) e) in
    subst (λ flags. (at : ℕ) → IsOn flags at → ⊥) (ap (λ w. flags_of w c.self.inside.count) c.deref-word-items.ensures.value ∙ c.self.view_is) n
