use Rattle.std.proofs.Common.{subst, IfOk, OnErr}
use Rattle.grs_bus.specs.Places.{seat_of}
use Rattle.grs_bus.specs.Seats.{SeatValue, IsAnswered, IsRefused}
use Rattle.grs_bus.proofs.CallLaws.{asks, may_work, may_give, call_answered, call_refused}
use Rattle.grs_bus.proofs.bus.Bus.call.Goals as goal

pub work-answer-requires-clause-holds : goal.work-answer-requires-clause-holds
work-answer-requires-clause-holds g c =
    let rests = c.seat.invariant in let place = c.seat.inside.place in let before = c.seat.inside.concerned in
    may_work c.args.self.now.first _ c.seat.inside.system c.args.call place.me _
    (asks c.args.self.now place.table_id before c.args.seat.now c.seat.inside.system c.args.call place.me c.seat.view_is
    rests.0 rests.1 c.requires.seat c.requires.call)
    c.take.ensures.took

pub give_back-requires-clause-home : goal.give_back-requires-clause-home
give_back-requires-clause-home g c =
    let rests = c.seat.invariant in let place = c.seat.inside.place in let before = c.seat.inside.concerned in
    may_give c.args.self.now.first _ c.seat.inside.system c.args.call _ _ _ place.me _ _
    (asks c.args.self.now place.table_id before c.args.seat.now c.seat.inside.system c.args.call place.me c.seat.view_is
    rests.0 rests.1 c.requires.seat c.requires.call)
    c.take.ensures.took c.work-answer.ensures.view c.work-answer.ensures.answer

pub returns-clause-ok : goal.returns-clause-ok
returns-clause-ok g c =
    let rests = c.seat.invariant in let place = c.seat.inside.place in let left = c.give_back.new.place in
    let before = c.seat.inside.concerned in let who = c.work-answer.result.2 in
    subst (λ (v : SeatValue).
    IfOk c.work-answer.result.0 (λ told. IsAnswered v c.args.call told (seat_of left.table_id left.me.0 who)))
    c.seat.view_is
    (call_answered c.args.self.now.first place.table_id left.table_id _ c.seat.inside.system c.args.call _ _ before who
    place.me _ _ left.me
    (asks c.args.self.now place.table_id before c.args.seat.now c.seat.inside.system c.args.call place.me c.seat.view_is
    rests.0 rests.1 c.requires.seat c.requires.call)
    c.take.ensures.took c.work-answer.ensures.view c.work-answer.ensures.answer c.give_back.ensures.gave)

pub returns-clause-err : goal.returns-clause-err
returns-clause-err g c =
    let rests = c.seat.invariant in let place = c.seat.inside.place in let left = c.give_back.new.place in
    let before = c.seat.inside.concerned in let who = c.work-answer.result.2 in
    subst (λ (v : SeatValue). OnErr c.work-answer.result.0 (IsRefused v (seat_of left.table_id left.me.0 who)))
    c.seat.view_is
    (call_refused c.args.self.now.first place.table_id left.table_id _ c.seat.inside.system c.args.call _ _ before who
    place.me _ _ left.me
    (asks c.args.self.now place.table_id before c.args.seat.now c.seat.inside.system c.args.call place.me c.seat.view_is
    rests.0 rests.1 c.requires.seat c.requires.call)
    c.take.ensures.took c.work-answer.ensures.view c.work-answer.ensures.answer c.give_back.ensures.gave)
