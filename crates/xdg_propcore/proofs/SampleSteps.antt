-- What a step on the sample keeps.
use Rattle.std.proofs.Common.{◌≡◌, ◌≢◌, ℕ, ◌<◌, ◌^◌, Bool, List, length, refl, ap, sym, ◌∙◌, subst, lit<, inl, inr}
use Rattle.xdg_problem.specs.declared.parts.Parts.{Parts}
use Rattle.xdg_problem.specs.Boxes.{Has, IsOnly, LiesIn, without, attr_decision}
use Rattle.xdg_problem.specs.Tests.{allowed_value}
use Rattle.xdg_problem.specs.Vectors.{shape}
use Rattle.xdg_rules.specs.Rules.{IsClosedFor}
use Rattle.xdg_problem.proofs.BoxWithout.{lies_without}
use Rattle.xdg_store.specs.States.{State, Known}
use Rattle.xdg_propcore.specs.Kinds.{IsNamed, AreNamed, kind_of}
use Rattle.xdg_propcore.specs.Losses.{Loses}
use Rattle.xdg_propcore.specs.Sample.{sample, agr_use, IsUse, LacksSecond}
use Rattle.xdg_propcore.proofs.SampleLaws.{closed_lacks}
use Rattle.xdg_propcore.specs.Steps.{Keeps}
use Rattle.xdg_propcore.specs.Uses.{StandsFor, StandsIn, use_at}
use Rattle.xdg_propcore.specs.declared.moved.Moved.{Moved}
use Rattle.xdg_propcore.specs.declared.moved.Moved.TheVariants as moves
use Rattle.xdg_propcore.proofs.Analyses.{keeps_boxes}
use Rattle.xdg_propcore.proofs.Naming.{named_one}
use Rattle.xdg_propcore.proofs.Removing.{loses_one}

pub is_sample : (parts : Parts) → StandsIn IsUse parts → parts ≡ sample
is_sample parts stands = stands.1.1.0

-- the decision of the attribute
pub second_at : (parts : Parts) → parts ≡ sample → attr_decision parts 0 0 0 ≡ 1
second_at parts is = ap (λ q. attr_decision q 0 0 0) is

lacks_in : (parts : Parts) (number : ℕ) (box : List (List Bool)) → StandsFor IsUse parts number → IsClosedFor parts (use_at parts number) box → LacksSecond box
lacks_in parts number box mine closed = closed_lacks box (subst (λ n. IsClosedFor sample (use_at sample n) box) mine.1.1 (subst (λ q. IsClosedFor q (use_at q number) box) mine.1.0 closed))

pub changed_keeps : (moved : Moved) (old turned new : State) (d : ℕ) → moved ≢ moves.Dead → Known new → new.parts ≡ old.parts → turned.now ≡ old.now → d ≡ 1 → new.now ≡ without turned.now d 1 → Keeps IsUse moved old new
changed_keeps moved old turned new d alive known same turn is now = keeps_boxes IsUse moved old new known same (λ number mine box box_is closed inside. (alive, subst (LiesIn box) (sym (now ∙ ap (λ b. without b d 1) turn ∙ ap (λ k. without old.now k 1) is)) (lies_without box old.now 1 1 inside (lacks_in old.parts number box mine closed))))

pub emptied_keeps : (moved : Moved) (old turned new : State) (d : ℕ) → Known new → new.parts ≡ old.parts → turned.now ≡ old.now → d ≡ 1 → IsOnly turned.now d 1 → Keeps IsUse moved old new
emptied_keeps moved old turned new d known same turn is only = keeps_boxes IsUse moved old new known same (λ number mine box box_is closed inside.
    let some = box_is.filled 1 (subst (λ q. 1 < length (shape q)) (sym mine.1.0) (lit< tt)) in
    let alone = subst (λ k. IsOnly old.now k 1) is (subst (λ b. IsOnly b d 1) turn only) in
    absurd (lacks_in old.parts number box mine closed (subst (Has box 1) (alone some.0 (inside 1 some.0 some.1)) some.1)))

pub changed_loses : (old turned new : State) (d wakes : ℕ) → old.parts ≡ sample → turned.now ≡ old.now → d ≡ 1 → wakes ≡ 2 ^ 1 → Has turned.now d 1 → new.now ≡ without turned.now d 1 → Loses old.parts wakes old.now new.now
changed_loses old turned new d wakes parts turn is wakes_is has now =
    let here : Has old.now 1 1 = subst (λ k. Has old.now k 1) is (subst (λ b. Has b d 1) turn has) in
    let after : new.now ≡ without old.now 1 1 = now ∙ ap (λ b. without b d 1) turn ∙ ap (λ k. without old.now k 1) is in
    let kind : wakes ≡ 2 ^ kind_of old.parts 1 = wakes_is ∙ ap (λ q. 2 ^ kind_of q 1) (sym parts) in
    subst (Loses old.parts wakes old.now) (sym after) (loses_one old.parts wakes old.now 1 1 kind here)

-- the test of the principle use looks at the attribute
attr_named : IsNamed sample agr_use 1
attr_named = record { size = 1; labels = 0; test = allowed_value 0; is = lit< tt; looks = inr (inl (lit< tt, refl)) }

pub wakes_named : (parts : Parts) (number wakes : ℕ) → wakes ≡ 2 ^ 1 → StandsFor IsUse parts number → AreNamed parts (use_at parts number) wakes
wakes_named parts number wakes is mine = subst (λ z. AreNamed z (use_at z number) wakes) (sym mine.1.0) (subst (λ n. AreNamed sample (use_at sample n) wakes) (sym mine.1.1) (named_one sample agr_use 1 wakes is attr_named))
