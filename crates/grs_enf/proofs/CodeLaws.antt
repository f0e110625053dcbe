-- The codes of a legal history tell its notices.
use Rattle.std.proofs.Common.{◌≡◌, ℕ, suc, Bool, true, false, List, [], ◌∷◌, ◌++◌, Option, Some, None, refl, ap, sym, ◌∙◌}
use Rattle.std.proofs.Common.{IsSomeAnd}
use Rattle.grs_base.specs.Lists.{enq_decision, standing_of, can_have}
use Rattle.grs_base.specs.State.{State, list_of, after_effect, is_full, enq_code}
use Rattle.grs_base.specs.declared.decision.Code.{Code}
use Rattle.grs_base.specs.declared.decision.Standing.{Standing}
use Rattle.grs_base.specs.declared.decision.Standing.TheVariants.{Exclusive, OnlyShared, AmongShared, Waits, Absent}
use Rattle.grs_base.specs.declared.resource.Elem.{Elem}
use Rattle.grs_base.specs.declared.resource.Ret.{Ret}
use Rattle.grs_base.specs.declared.resource.Ret.TheVariants.{RetNone, RetUse, RetHave, RetTest, RetChng, RetEcb}
use Rattle.grs_base.specs.declared.resource.TaskId.{TaskId}
use Rattle.grs_wire.specs.History.{step, replay, replay_from, answer_of, reply_of}
use Rattle.grs_wire.specs.declared.deck.Deck.{Deck}
use Rattle.grs_wire.specs.declared.history.HistEntry.{HistEntry}
use Rattle.grs_wire.specs.declared.history.HistEntry.TheVariants.{Enq, Deq, Release, Look, Remove}
use Rattle.grs_wire.specs.declared.request.Answer.TheVariants.{Coded}
use Rattle.grs_legal.specs.Asks.{lines_of}
use Rattle.grs_legal.specs.declared.meaning.Meaning.{Meaning}
use Rattle.grs_legal.specs.Legal.{IsLegal, MayStand, LegalFrom, Legal}
use Rattle.grs_enf.specs.declared.notice.Noted.{Noted}
use Rattle.grs_enf.specs.Notices.{is_full_code, told_step, resources_of, noted, notices_among, notices_by, notices, told_notices}
use Rattle.grs_enf.specs.Laws.{CodesTellNotices}

-- a decision does the same where its code is asked whether the task was full
full-told : (st : Standing) (ret : Ret) (full can : Bool)
    → (enq_decision st ret (is_full_code (enq_decision st ret full can).code) can).effect
    ≡ (enq_decision st ret full can).effect
full-told Exclusive RetNone full can = refl
full-told Exclusive RetUse full can = refl
full-told Exclusive RetHave full can = refl
full-told Exclusive RetTest full can = refl
full-told Exclusive RetChng full can = refl
full-told Exclusive RetEcb full can = refl
full-told OnlyShared RetNone full can = refl
full-told OnlyShared RetUse full can = refl
full-told OnlyShared RetHave full can = refl
full-told OnlyShared RetTest full can = refl
full-told OnlyShared RetChng full can = refl
full-told OnlyShared RetEcb full can = refl
full-told AmongShared RetNone full can = refl
full-told AmongShared RetUse full can = refl
full-told AmongShared RetHave full can = refl
full-told AmongShared RetTest full can = refl
full-told AmongShared RetChng full can = refl
full-told AmongShared RetEcb full can = refl
full-told Waits ret full can = refl
full-told Absent RetNone true can = refl
full-told Absent RetNone false true = refl
full-told Absent RetNone false false = refl
full-told Absent RetUse true can = refl
full-told Absent RetUse false true = refl
full-told Absent RetUse false false = refl
full-told Absent RetHave true can = refl
full-told Absent RetHave false true = refl
full-told Absent RetHave false false = refl
full-told Absent RetTest true can = refl
full-told Absent RetTest false true = refl
full-told Absent RetTest false false = refl
full-told Absent RetEcb true can = refl
full-told Absent RetEcb false true = refl
full-told Absent RetEcb false false = refl
full-told Absent RetChng full can = refl

code-of : (c d : Code) → Coded c ≡ Coded d → c ≡ d
code-of c d e = cc

told-enq : (s : State) (limit : ℕ) (h : HistEntry) → answer_of h ≡ reply_of limit s h → told_step s h ≡ step limit s h
told-enq s limit (Enq t r c ret code) e =
    let es : List Elem = list_of s r in
    let full : Bool = is_full limit s t in
    let is : code ≡ enq_code s r t c ret full = code-of code (enq_code s r t c ret full) e in
    ap (λ (d : Code). after_effect s r t c (enq_decision (standing_of es t) ret (is_full_code d) (can_have es c)).effect) is
    ∙ ap (after_effect s r t c) (full-told (standing_of es t) ret full (can_have es c))
told-enq s limit (Deq t r have code) e = refl
told-enq s limit (Release t r) e = refl
told-enq s limit (Look t place f rows) e = refl
told-enq s limit (Remove by target) e = refl

-- an entry that may stand behind a history is answered by the lists
asked : (limit : ℕ) (t : TaskId) (hist : List HistEntry) (h : HistEntry) (o : Option (List Meaning))
    → IsSomeAnd o (λ ls. IsLegal limit t ls hist h) → answer_of h ≡ reply_of limit (replay limit hist) h
asked limit t hist h None m = absurd m
asked limit t hist h (Some ls) m = m.reply

stands : (deck : Deck) (hist : List HistEntry) (h : HistEntry) → MayStand deck hist h
    → answer_of h ≡ reply_of deck.limit (replay deck.limit hist) h
stands deck hist (Enq t r c ret code) m = asked deck.limit t hist (Enq t r c ret code) (lines_of deck t) m
stands deck hist (Deq t r have code) m = asked deck.limit t hist (Deq t r have code) (lines_of deck t) m
stands deck hist (Release t r) m = asked deck.limit t hist (Release t r) (lines_of deck t) m
stands deck hist (Look t place f rows) m = asked deck.limit t hist (Look t place f rows) (lines_of deck t) m
stands deck hist (Remove by target) m = refl

replay-push : (limit : ℕ) (s : State) (hist : List HistEntry) (h : HistEntry)
    → replay_from limit s (hist ++ h ∷ []) ≡ step limit (replay_from limit s hist) h
replay-push limit s [] h = refl
replay-push limit s (g ∷ hist) h = replay-push limit (step limit s g) hist h

told-from : (deck : Deck) (past : List HistEntry) (hs : List HistEntry) (n : ℕ) (s : State)
    → s ≡ replay deck.limit past → LegalFrom deck past hs
    → notices_by told_step s n hs ≡ notices_by (step deck.limit) s n hs
told-from deck past [] n s is l = refl
told-from deck past (h ∷ hs) n s is l =
    let same : told_step s h ≡ step deck.limit s h =
    told-enq s deck.limit h
    (stands deck past h l.0 ∙ ap (λ (x : State). reply_of deck.limit x h) (sym is)) in
    let next : step deck.limit s h ≡ replay deck.limit (past ++ h ∷ []) =
    ap (λ (x : State). step deck.limit x h) is ∙ sym (replay-push deck.limit [] past h) in
    ap (λ (x : State). noted n (notices_among s x (resources_of s h)) ++ notices_by told_step x (suc n) hs) same
    ∙ ap (λ (ns : List Noted). noted n (notices_among s (step deck.limit s h) (resources_of s h)) ++ ns)
    (told-from deck (past ++ h ∷ []) hs (suc n) (step deck.limit s h) next l.1)

pub codes_tell : CodesTellNotices
codes_tell deck hist l = told-from deck [] hist 1 [] refl l

pub told-legal : (deck : Deck) (hist : List HistEntry) → Legal deck hist → told_notices hist ≡ notices deck.limit hist
told-legal deck hist l = codes_tell deck hist l

pub ruleset told = (told-legal)
