-- Worked rows, computed from the definitions.
use Rattle.std.proofs.Common.{◌≡◌, ℕ, true, false, List, [], ◌∷◌, ◌++◌, refl}
use Rattle.std.specs.Prelude.{codes}
use Rattle.std.specs.List.{flat_map}
use Rattle.std.specs.Fmt.{digits}
use Rattle.grs_base.specs.declared.resource.TaskId.{TaskId}
use Rattle.grs_base.specs.declared.resource.Res.{Res}
use Rattle.grs_base.specs.declared.resource.Res.TheVariants.{System, Systems}
use Rattle.grs_base.specs.declared.resource.Ctl.TheVariants.{E, S}
use Rattle.grs_base.specs.declared.resource.Ret.TheVariants.{RetNone, RetHave}
use Rattle.grs_base.specs.declared.decision.Code.TheVariants.{C00, C14, Wait, End}
use Rattle.grs_wire.specs.declared.deck.Deck.{Deck}
use Rattle.grs_wire.specs.declared.history.HistEntry.{HistEntry}
use Rattle.grs_wire.specs.declared.history.HistEntry.TheVariants.{Enq, Deq, Remove}
use Rattle.grs_wire.specs.declared.seen.Names.{Names}
use Rattle.grs_display.specs.Lines.{line}
use Rattle.grs_display.specs.Names.{names_of, name_at}
use Rattle.grs_display.specs.Rows.{names_word, res_word}
use Rattle.grs_enf.specs.declared.notice.Noted.{Noted}
use Rattle.grs_enf.specs.declared.notice.What.{What}
use Rattle.grs_enf.specs.declared.notice.What.TheVariants.{Begin, Change, End as Ends}
use Rattle.grs_enf.specs.Notices.{notices_at, notices, told_notices}
use Rattle.grs_enf.specs.Laws.{leads}
use Rattle.grs_enf.specs.Text.{notice_line, notices_text}

-- a task of a system
abbrev pub task : ℕ → ℕ → TaskId
task s n = record { system = record { 0 = s }; job = 0; task = n }

abbrev local : Res
local = System (record { 0 = 0 }) (65 ∷ []) (66 ∷ [])

abbrev shared : Res
shared = Systems (65 ∷ []) (66 ∷ [])

abbrev told : ℕ → What → Res → ℕ → ℕ → Noted
told n w r o k = record { entry = n; notice = record { what = w; res = r; owners = o; waiters = k } }

-- one owns, two that share wait, and get control together when the owner gives up
abbrev pub waited : List HistEntry
waited =
    Enq (task 0 0) local E RetNone C00 ∷ Enq (task 0 1) local S RetNone Wait ∷ Enq (task 0 2) local S RetNone Wait
    ∷ Deq (task 0 0) local false C00 ∷ []

pub begun_changed_ended : notices 4096 waited
    ≡ told 2 Begin local 1 1 ∷ told 3 Change local 1 2 ∷ told 4 Ends local 2 0 ∷ []
begun_changed_ended = refl

codes_tell_it : told_notices waited ≡ notices 4096 waited
codes_tell_it = refl

-- the owner's system is removed, and who waited at another system gets control
abbrev removed : List HistEntry
removed =
    Enq (task 0 0) shared E RetNone C00 ∷ Enq (task 1 0) shared E RetNone Wait
    ∷ Remove (record { 0 = 1 }) (record { 0 = 0 }) ∷ []

ended_by_a_removal : notices 4096 removed ≡ told 2 Begin shared 1 1 ∷ told 3 Ends shared 1 0 ∷ []
ended_by_a_removal = refl

-- a removal that ends waits for two resources: they are told as resources are shown, whichever was asked for first
abbrev behind : Res
behind = Systems (65 ∷ []) (67 ∷ [])

abbrev removed_from_two : List HistEntry
removed_from_two =
    Enq (task 0 0) behind E RetNone C00 ∷ Enq (task 0 0) shared E RetNone C00 ∷ Enq (task 1 0) behind E RetNone Wait
    ∷ Enq (task 1 1) shared S RetNone Wait ∷ Remove (record { 0 = 1 }) (record { 0 = 0 }) ∷ []

told_as_they_are_shown : notices 4096 removed_from_two
    ≡ told 3 Begin behind 1 1 ∷ told 4 Begin shared 1 1 ∷ told 5 Ends shared 1 0 ∷ told 5 Ends behind 1 0 ∷ []
told_as_they_are_shown = refl

-- who waits already and asks again changes nothing, and nobody is told
nothing_is_told : notices 4096 (Enq (task 0 0) local E RetNone C00 ∷ Enq (task 0 1) local E RetHave Wait
    ∷ Enq (task 0 1) local E RetHave C14 ∷ [])
    ≡ told 2 Begin local 1 1 ∷ []
nothing_is_told = refl

-- a sole owner that becomes exclusive before one that waits changes the list
changed_to_exclusive : notices_at local
    (record { task = task 0 0; ctl = S } ∷ record { task = task 0 1; ctl = E } ∷ [])
    (record { task = task 0 0; ctl = E } ∷ record { task = task 0 1; ctl = E } ∷ [])
    ≡ record { what = Change; res = local; owners = 1; waiters = 1 } ∷ []
changed_to_exclusive = refl

-- a task with as many elements as it may is refused, and nobody is told
refused_at_the_limit : told_notices (Enq (task 0 0) local E RetNone C00 ∷ Enq (task 0 1) local E RetNone (End 538) ∷ [])
    ≡ []
refused_at_the_limit = refl

-- by turns, BEGIN first
turns : leads false (Begin ∷ Change ∷ Ends ∷ Begin ∷ []) true ≡ true
turns = refl

not_end_first : leads false (Ends ∷ []) false ≡ false
not_end_first = refl

not_begin_twice : leads false (Begin ∷ Begin ∷ []) true ≡ false
not_begin_twice = refl

not_left_open : leads false (Begin ∷ []) false ≡ false
not_left_open = refl

abbrev one : Names
one = record { systems = codes "SYA" ∷ []; jobs = []; tasks = [] }

text_of_notices : flat_map (notice_line one) (notices 4096 waited)
    ≡ (codes "N 2 BEGIN SYSTEM(SYA,A,B) 1 1" ++ 10 ∷ [])
    ++ (codes "N 3 CHANGE SYSTEM(SYA,A,B) 1 2" ++ 10 ∷ [])
    ++ (codes "N 4 END SYSTEM(SYA,A,B) 2 0" ++ 10 ∷ [])
unfolding digits line name_at names_word res_word notice_line
text_of_notices = refl

whole_text : (deck : Deck) → notices_text deck (notices 4096 waited)
    ≡ (codes "NOTICES 3" ++ 10 ∷ []) ++ flat_map (notice_line (names_of deck)) (notices 4096 waited)
unfolding digits line notices_text
whole_text deck = refl

pub text_of_no_notice : (deck : Deck) → notices_text deck [] ≡ codes "NOTICES 0" ++ 10 ∷ []
unfolding digits line notices_text
text_of_no_notice deck = refl
