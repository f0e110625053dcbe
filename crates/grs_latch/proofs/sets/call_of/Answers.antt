use Rattle.std.proofs.Common.{◌≡◌, ◌<◌, length, arith}
use Rattle.grs_latch.specs.Calls.{name_of}
use Rattle.grs_latch.specs.Places.{set_place}
use Rattle.grs_latch.proofs.SetLemmas.{reply_ok, after_ok, same_err}
use Rattle.grs_latch.proofs.sets.call_of.Goals as goal

pub returns-clause-reply : goal.returns-clause-reply
returns-clause-reply c =
    let is : c.set_place-place.result ≡ set_place (name_of c.args.call.now) c.args.sets.now.items =
    grind (arith, c.set_place-place.ensures.place, c.name_of.ensures, c.as_slice.ensures.value) in
    let within : c.set_place-place.result < length c.args.sets.now.items =
    grind (arith, c.set_place-place.ensures.within, c.if-place-len.false, c.len.ensures, c.as_slice.ensures.value) in
    reply_ok c.call_in.result c.set_place-place.result c.args.call.now c.args.sets.now.items c.index_mut.result.now is
    within c.index_mut.ensures.value c.call_in.ensures.reply

pub returns-clause-after : goal.returns-clause-after
returns-clause-after c =
    let is : c.set_place-place.result ≡ set_place (name_of c.args.call.now) c.args.sets.now.items =
    grind (arith, c.set_place-place.ensures.place, c.name_of.ensures, c.as_slice.ensures.value) in
    let within : c.set_place-place.result < length c.args.sets.now.items =
    grind (arith, c.set_place-place.ensures.within, c.if-place-len.false, c.len.ensures, c.as_slice.ensures.value) in
    after_ok c.call_in.result c.set_place-place.result c.args.call.now c.args.sets.now.items c.index_mut.result.now
    c.call_in.new.set is within c.index_mut.ensures.value c.call_in.ensures.name c.call_in.ensures.after

pub returns-clause-unchanged : goal.returns-clause-unchanged
returns-clause-unchanged c =
    let within : c.set_place-place.result < length c.args.sets.now.items =
    grind (arith, c.set_place-place.ensures.within, c.if-place-len.false, c.len.ensures, c.as_slice.ensures.value) in
    same_err c.call_in.result c.set_place-place.result c.args.sets.now.items c.index_mut.result.now c.call_in.new.set
    within c.index_mut.ensures.value c.call_in.ensures.name c.call_in.ensures.unchanged
