-- Latches as resources, and calls one behind the other.
use Rattle.std.proofs.Common.{◌≡◌, ℕ, Bool, true, false, cond, List, [], ◌∷◌, ◌++◌, refl, ap, sym, ◌∙◌, arith}
use Rattle.grs_base.specs.Lists.{can_have, standing_of, is_owner, list_after, list_without, decide_enq, enq_decision}
use Rattle.grs_base.specs.State.{State, list_of, enq_state, deq_state, release_state}
use Rattle.grs_base.specs.declared.resource.TaskId.{TaskId}
use Rattle.grs_base.specs.declared.resource.Elem.{Elem}
use Rattle.grs_base.specs.declared.resource.Res.{Res}
use Rattle.grs_base.specs.declared.resource.Ctl.{Ctl}
use Rattle.grs_base.specs.declared.decision.Effect.{Effect}
use Rattle.grs_base.specs.declared.decision.Effect.TheVariants.{Nothing, Append}
use Rattle.grs_base.specs.declared.decision.Standing.{Standing}
use Rattle.grs_base.specs.declared.decision.Standing.TheVariants.{Exclusive, OnlyShared, AmongShared, Waits, Absent}
use Rattle.grs_base.proofs.StateLaws.{list_of-effect}
use Rattle.queue_table.proofs.OwnerLemmas.{list_of-release}
use Rattle.grs_latch.specs.Latches.{ret_of, is_queued, obtained, released}
use Rattle.grs_latch.specs.Calls.{Sets, replies, reply, after, after_all}
use Rattle.grs_latch.specs.declared.call.LatchCall.{LatchCall}
use Rattle.grs_latch.specs.declared.reply.LatchReply.{LatchReply}

queued-effect : (st : Standing) (can may_wait : Bool)
    → (enq_decision st (ret_of may_wait) false can).effect ≡ cond (is_queued st can may_wait) Append Nothing
queued-effect Exclusive can true = refl
queued-effect Exclusive can false = refl
queued-effect OnlyShared can true = refl
queued-effect OnlyShared can false = refl
queued-effect AmongShared can true = refl
queued-effect AmongShared can false = refl
queued-effect Waits can true = refl
queued-effect Waits can false = refl
queued-effect Absent true true = refl
queued-effect Absent false true = refl
queued-effect Absent true false = refl
queued-effect Absent false false = refl

appended : (b : Bool) (es : List Elem) (t : TaskId) (c : Ctl)
    → cond b (es ++ record { task = t; ctl = c } ∷ []) es ≡ list_after es t c (cond b Append Nothing)
appended true es t c = refl
appended false es t c = refl

pub obtained-enq : (s : State) (r : Res) (t : TaskId) (c : Ctl) (may_wait : Bool)
    → obtained (list_of s r) t c may_wait ≡ list_of (enq_state s r t c (ret_of may_wait) false) r
obtained-enq s r t c may_wait =
    let es = list_of s r in
    appended (is_queued (standing_of es t) (can_have es c) may_wait) es t c
    ∙ ap (λ (e : Effect). list_after es t c e) (sym (queued-effect (standing_of es t) (can_have es c) may_wait))
    ∙ sym (list_of-effect s r t c (decide_enq es t c (ret_of may_wait) false).effect)

list_of-either : (b : Bool) (s u : State) (r : Res) → list_of (cond b s u) r ≡ cond b (list_of s r) (list_of u r)
list_of-either true s u r = refl
list_of-either false s u r = refl

pub released-deq : (s : State) (r : Res) (t : TaskId) → released (list_of s r) t ≡ list_of (deq_state s r t) r
released-deq s r t =
    let b = is_owner (standing_of (list_of s r) t) in
    ap (λ (l : List Elem). cond b l (list_of s r)) (sym (list_of-release s r t))
    ∙ sym (list_of-either b (release_state s r t) s r)

pub without-release : (s : State) (r : Res) (t : TaskId)
    → list_without (list_of s r) t ≡ list_of (release_state s r t) r
without-release s r t = sym (list_of-release s r t)

pub replies-append : (cs ds : List LatchCall) (ss : Sets)
    → replies (cs ++ ds) ss ≡ replies cs ss ++ replies ds (after_all cs ss)
replies-append [] ds ss = refl
replies-append (c ∷ cs) ds ss = ap (λ (rs : List LatchReply). reply 0 c ss ∷ rs) (replies-append cs ds (after c ss))

pub after_all-append : (cs ds : List LatchCall) (ss : Sets) → after_all (cs ++ ds) ss ≡ after_all ds (after_all cs ss)
after_all-append [] ds ss = refl
after_all-append (c ∷ cs) ds ss = after_all-append cs ds (after c ss)

pub ruleset lists = (obtained-enq, released-deq, without-release)

pub ruleset lists_of_calls = (replies-append, after_all-append)
