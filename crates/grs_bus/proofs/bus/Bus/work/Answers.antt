use Rattle.std.proofs.Common.{rules, ◌≡◌, ℕ, List, [], ◌∷◌, ap, sym, subst, ◌∙◌, get_or, MatchResult, Result, Ok, Err}
use Rattle.std.proofs.Common.{IfOk, OnOk, OnErr, Bool}
use Rattle.atomic_table.specs.Table.{rest}
use Rattle.grs_base.specs.declared.fault.NoMemory.{NoMemory}
use Rattle.grs_wire.specs.declared.medium.Reply.{Reply}
use Rattle.grs_medium.specs.Apply.{MayCall}
use Rattle.grs_bus.specs.Journal.{concerned_by}
use Rattle.grs_bus.specs.Seats.{BusValue}
use Rattle.grs_bus.specs.Slots.{Answers, IsUnchanged}
use Rattle.grs_bus.specs.declared.slot.Slot.{Slot}
use Rattle.grs_bus.proofs.bus.Bus.work.Goals as goal

each : (P : Reply × Bool → Type 0) (A B C : Type 0) (r : Result (Reply × Bool) NoMemory) → IfOk r P → OnOk r A
    → OnErr r B → OnErr r C → MatchResult r (λ told. P told × A) (λ _. B × C)
each P A B C (Ok x) p a b c = (p, a)
each P A B C (Err e) p a b c = (b, c)

pub slot_mut-slot-requires : goal.slot_mut-slot-requires
slot_mut-slot-requires c =
    let t = c.requires.holds in (
      c.requires.table ∙ sym (ap (λ (b : BusValue). b.table) c.self.view_is),
      (t.0, t.1 ∙ ap (λ l. (0, t.0) ∷ rest l) (sym t.1)),
    )

pub answer-answer-requires : goal.answer-answer-requires
answer-answer-requires c =
    let t = c.requires.holds in
    let same : t.0 ≡ c.slot_mut-slot.result.now =
    ap (λ (l : List (ℕ × Slot)). (get_or l 0 (0, t.0)).1) (sym t.1 ∙ c.slot_mut-slot.ensures.value) in
    subst (λ (s : Slot). MayCall s.medium.state c.args.system c.args.call) same t.2

pub returns-clause-answer : goal.returns-clause-answer
returns-clause-answer c =
    let t = c.requires.holds in
    let none_left : rest c.args.place.now.me.1 ≡ [] = ap rest t.1 in
    let held = c.slot_mut-slot.result.now in
    let left = c.answer-answer.new.self in (
      held,
      c.slot_mut-slot.ensures.value ∙ ap (λ l. (0, held) ∷ l) none_left,
      (
        left,
        ap (λ l. (0, left) ∷ l) none_left,
        (
          each (λ told. Answers c.args.system c.args.call held left told)
              (left.concerned ≡ concerned_by held.medium.state c.args.system c.args.call) (IsUnchanged held left)
              (left.concerned ≡ 0) c.answer-answer.result c.answer-answer.ensures.ok c.answer-answer.ensures.concerned
              c.answer-answer.ensures.err c.answer-answer.ensures.nobody,
          search rules,
          search rules,
        ),
      ),
    )
