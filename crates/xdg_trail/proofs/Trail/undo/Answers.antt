use Rattle.std.proofs.Common.{◌≡◌, ◌<◌, ◌+◌, ◌-◌, ◌++◌, ◌∷◌, [], ap, sym, ◌∙◌, length, get_or, reverse, drop, set, subst, arith, length-append, length-set}
use Rattle.xdg_trail.specs.Trailed.{states}
use Rattle.xdg_trail.proofs.States.{stands_at, past_pop, records_pop, fewer_places}
use Rattle.xdg_trail.proofs.Trail.undo.Goals as goal

pub loop-self-preserved-in-Some : goal.loop-self-preserved-in-Some
loop-self-preserved-in-Some c =
    let rest = c.pop.new.self.items in
    let items = c.loop-self.self-inside.records.items in
    let e : items ≡ rest ++ ((c.in-Some.place, c.in-Some.old) ∷ []) = c.in-Some.ensures.items in
    let n : length items ≡ length rest + 1 = ap length e ∙ length-append rest ((c.in-Some.place, c.in-Some.old) ∷ []) in
    let whole = reverse c.self.inside.records.items in
    let w = c.loop-self.invariant.within in
    let m : c.args.mark < length items = omega arith in
    let one : (length whole - length items) + 1 ≡ length whole - length rest = omega arith in
    record {
      mark = omega arith;
      size = length-set c.loop-self.self-inside.words.items c.in-Some.place c.in-Some.old ∙ c.loop-self.invariant.size;
      within = omega arith;
      places = fewer_places c.loop-self.self-inside.words.items items rest c.in-Some.place c.in-Some.old e c.loop-self.invariant.places;
      room = c.pop.ensures.capacity ∙ c.loop-self.invariant.room;
      left = subst (λ k. reverse rest ≡ drop k whole) one (records_pop rest c.in-Some.place c.in-Some.old (length whole - length items) whole (sym (ap reverse e) ∙ c.loop-self.invariant.left));
      stood = subst (λ k. states (set c.loop-self.self-inside.words.items c.in-Some.place c.in-Some.old) (reverse rest) ≡ drop k (states c.self.inside.words.items whole)) one (past_pop c.loop-self.self-inside.words.items rest c.in-Some.place c.in-Some.old (length whole - length items) (states c.self.inside.words.items whole) (sym (ap (λ z. states c.loop-self.self-inside.words.items (reverse z)) e) ∙ c.loop-self.invariant.stood));
    }

pub returns-clause-words : goal.returns-clause-words
returns-clause-words c =
    let whole = reverse c.self.inside.records.items in
    let done : length c.loop-self.self-inside.records.items ≡ c.args.mark = (let m = c.loop-self.invariant.mark in let t = c.loop-self-test.false in omega (arith, m, t, c.len.ensures)) in
    rw (← c.self.view_is)
    (stands_at c.loop-self.self-inside.words.items (reverse c.loop-self.self-inside.records.items) (length whole - length c.loop-self.self-inside.records.items) (states c.self.inside.words.items whole) c.loop-self.invariant.stood
    ∙ ap (λ n. get_or (states c.self.inside.words.items whole) (length whole - n) []) done)
