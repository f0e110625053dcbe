-- Worked items, and what is known by them: what the definitions accept and what they refuse.
use Rattle.std.proofs.Common.{◌≡◌, ◌∙◌, ℕ, Bool, true, false, List, [], ◌∷◌, ◌++◌, take, Option, Some, None, refl, ap}
use Rattle.std.proofs.Common.{sym, subst, arith}
use Rattle.grs_base.specs.Same.{same_res}
use Rattle.grs_base.specs.Lists.{owns}
use Rattle.grs_base.specs.State.{list_of}
use Rattle.grs_base.specs.declared.look.Filter.{Filter}
use Rattle.grs_base.specs.declared.look.Place.TheVariants.{Slice}
use Rattle.grs_base.specs.declared.resource.Ctl.TheVariants.{E, S}
use Rattle.grs_base.specs.declared.resource.Res.{Res}
use Rattle.grs_base.specs.declared.resource.Res.TheVariants as kinds
use Rattle.grs_base.specs.declared.resource.Ret.{Ret}
use Rattle.grs_base.specs.declared.resource.Ret.TheVariants.{RetNone, RetTest, RetChng, RetEcb}
use Rattle.grs_base.specs.declared.resource.Row.{Row}
use Rattle.grs_base.specs.declared.resource.SysId.{SysId}
use Rattle.grs_base.specs.declared.resource.TaskId.{TaskId}
use Rattle.grs_base.specs.declared.decision.Code.TheVariants.{C00, C04, C08, Wait}
use Rattle.grs_base.proofs.SameLaws.{same_res-exact}
use Rattle.grs_legal.specs.declared.meaning.Meaning.{Meaning}
use Rattle.grs_legal.specs.declared.meaning.Meaning.TheVariants.{Shows}
use Rattle.grs_wire.specs.History.{fixed_entries}
use Rattle.grs_wire.specs.declared.history.HistEntry.TheVariants.{Enq, Deq, Release, Look}
use Rattle.grs_wire.specs.declared.request.Answer.TheVariants.{Coded}
use Rattle.grs_wire.specs.declared.request.Fixed.{Fixed}
use Rattle.grs_wire.specs.declared.request.Fixed.TheVariants.{Asked, Purged}
use Rattle.grs_wire.specs.declared.request.Want.TheVariants as wants
use Rattle.grs_wire.specs.declared.told.Verb.TheVariants as verbs
use Rattle.grs_known.specs.Items.{RunItem, rounds, is_of, removes_system_of, took, gave, owns_after, tells, reply_in}
use Rattle.grs_known.specs.Items.{lists, Made, history, items, Counts, mine}
use Rattle.grs_known.specs.Known.{Known, learned, outstanding, Still, IsRight, learns_item, learns_control, Answers}
use Rattle.grs_known.specs.Known.{Grants, Coming, after_news}
use Rattle.grs_known.specs.Reading.{gives_among, Keeps, all_known, all_but, after_read}
use Rattle.grs_known.specs.Told.{TellsRows}
use Rattle.grs_known.specs.Past.{own_told, Fits, after_entry, after_entries, past_of, Speaks}

abbrev system : ℕ → SysId
system s = record { 0 = s }

-- the only task of a system
abbrev task_of : ℕ → TaskId
task_of s = record { system = system s; job = 0; task = 0 }

abbrev file : Res
file = kinds.Systems (65 ∷ []) (1 ∷ [])

-- what a system's task asks
abbrev enq : ℕ → Ret → SysId × Fixed
enq s ret = (system s, Asked (record { task = task_of s; want = wants.Enq file E ret false }))

-- a DEQ that system 0 fixes, whoever asked
abbrev deq : ℕ → SysId × Fixed
deq s = (system 0, Asked (record { task = task_of s; want = wants.Deq file false }))

-- The task of system 0 has the file, that of system 1 waits by ECB, and gets it by the other's DEQ; then system 0
-- fixes the DEQ of the task of system 1.
abbrev run : List RunItem
run = items (enq 0 RetNone ∷ enq 1 RetEcb ∷ deq 0 ∷ deq 1 ∷ [])

entries : history run
    ≡ Enq (task_of 0) file E RetNone C00 ∷ Enq (task_of 1) file E RetEcb C04 ∷ Deq (task_of 0) file false C00
    ∷ Deq (task_of 1) file false C00 ∷ []
entries = refl

empty_behind : lists run ≡ []
empty_behind = refl

waiter_owns : owns (list_of (lists (take 3 run)) file) (task_of 1) ≡ true
waiter_owns = refl

waiter_doesnt : owns (list_of (lists (take 2 run)) file) (task_of 1) ≡ false
waiter_doesnt = refl

abbrev at : (n : ℕ) → SysId × Fixed → RunItem
at n x = record { by = x.0; fixed = x.1; entries = fixed_entries (lists (take n run)) x.0 x.1 }

-- an item that another system fixed is its task's
of_the_asker : mine (task_of 1) run ≡ at 1 (enq 1 RetEcb) ∷ at 3 (deq 1) ∷ []
of_the_asker = refl

-- ---- what an entry tells
deq_took : took file (Deq (task_of 0) file false C00) ≡ true
deq_took = refl

refused_took : took file (Deq (task_of 0) file true C08) ≡ false
refused_took = refl

release_took : took file (Release (task_of 0) file) ≡ true
release_took = refl

enq_gave : gave file (Enq (task_of 0) file E RetNone C00) ≡ true
enq_gave = refl

-- an element that waits owns nothing; TEST queues none and tells no control; CHNG queues none, and tells control
wait_gave : gave file (Enq (task_of 0) file E RetNone Wait) ≡ false
wait_gave = refl

test_gave : gave file (Enq (task_of 0) file E RetTest C00) ≡ false
test_gave = refl

test_tells : tells file (Enq (task_of 0) file E RetTest C00) ≡ false
test_tells = refl

change_gave : gave file (Enq (task_of 0) file E RetChng C00) ≡ false
change_gave = refl

change_tells : tells file (Enq (task_of 0) file E RetChng C00) ≡ true
change_tells = refl

-- a removal is of no task, and removes the tasks of its target alone
removal_of : is_of (task_of 1) (Purged (system 1)) ≡ false
removal_of = refl

removes_own : removes_system_of (task_of 1) (Purged (system 1)) ≡ true
removes_own = refl

removes_other : removes_system_of (task_of 0) (Purged (system 1)) ≡ false
removes_other = refl

-- a task may have one element, and has one: its flag has to say so
flag_right : Counts 1 (lists (take 1 run)) (Asked (record { task = task_of 0; want = wants.Enq file E RetNone true }))
flag_right = refl

flag_wrong : Counts 1 (lists (take 1 run)) (enq 0 RetNone).1 → ⊥
flag_wrong e = absurd (cc)

-- an item with another reply isn't made by the lists
not_made :
    Made [] (record { by = system 0; fixed = (enq 0 RetNone).1; entries = Enq (task_of 0) file E RetNone Wait ∷ [] })
    → ⊥
not_made e = absurd (cc)

-- ---- what is known
abbrev has_file : Bool → Known
has_file behind = record { behind = behind; owns = λ r. same_res r file }

abbrev has_none : Bool → Known
has_none behind = record { behind = behind; owns = λ r. false }

behind_learned : learned (task_of 1) (has_none true) run ≡ at 1 (enq 1 RetEcb) ∷ []
behind_learned = refl

behind_outstanding : outstanding (task_of 1) (has_none true) run ≡ Some (at 3 (deq 1))
behind_outstanding = refl

all_learned : learned (task_of 1) (has_none false) run ≡ mine (task_of 1) run
all_learned = refl

none_outstanding : outstanding (task_of 1) (has_none false) run ≡ None
none_outstanding = refl

-- it owns behind the other's DEQ, not before; and who gave the file back doesn't
owner_right : IsRight (task_of 1) (has_file false) (take 3 run)
owner_right = record {
  waits = λ e. absurd (cc);
  owned = λ r e.
      subst (λ q. owns (list_of (lists (take 3 run)) q) (task_of 1) ≡ true) (sym (same_res-exact r file e)) refl;
  given = tt;
}

waiter_wrong : IsRight (task_of 1) (has_file false) (take 2 run) → ⊥
waiter_wrong h = let g : false ≡ true = h.owned file refl in absurd (cc)

leaver_wrong : IsRight (task_of 0) (has_file false) (take 3 run) → ⊥
leaver_wrong h = let g : false ≡ true = h.owned file refl in absurd (cc)

-- but where its DEQ isn't learned yet it is known to own, and that is right
leaver_behind : IsRight (task_of 0) (has_file true) (take 3 run)
leaver_behind = record {
  waits = λ e. refl;
  owned = λ r e.
      subst (λ q. Still q (task_of 0) (take 3 run) (Some (at 2 (deq 0)))) (sym (same_res-exact r file e))
      ((λ f. absurd (cc)), (λ f. refl));
  given = λ r e. absurd (cc);
}

-- a task of which nothing was fixed can't be behind
behind_nothing : IsRight (task_of 1) (has_none true) [] → ⊥
behind_nothing h = let g : false ≡ true = h.waits refl in absurd (cc)

-- a task that has an element is queued no other, and one that owns isn't refused its DEQ
queued_twice : Fits (past_of (task_of 1) (has_none true) run) (Enq (task_of 1) file E RetEcb C04) → ⊥
queued_twice h = let g : true ≡ false = h refl in absurd (cc)

queued_first : Fits (past_of (task_of 1) (has_none false) (take 1 run)) (Enq (task_of 1) file E RetEcb C04)
queued_first = λ q. refl

refused_owner : Fits (past_of (task_of 0) (has_file false) (take 1 run)) (Deq (task_of 0) file true C08) → ⊥
refused_owner h = let g : true ≡ false = h refl in absurd (cc)

-- ---- what is read by a table
-- by the other's DEQ the task of system 1 gets the file, also while it waits for an answer; and the asker has it no
-- more
reads_control : (after_read (task_of 1) (has_none true) (lists (rounds (take 2 run))) (at 2 (deq 0))).owns file ≡ true
reads_control = refl

reads_behind : (after_read (task_of 1) (has_none true) (lists (rounds (take 2 run))) (at 2 (deq 0))).behind ≡ true
reads_behind = refl

reads_left : (after_read (task_of 0) (has_file true) (lists (rounds (take 2 run))) (at 2 (deq 0))).owns file ≡ false
reads_left = refl

-- one that comes to wait gets nothing
reads_wait : (after_read (task_of 1) (has_none true) (lists (rounds (take 1 run))) (at 1 (enq 1 RetEcb))).owns file
    ≡ false
reads_wait = refl

-- an outstanding DEQ may give back what a task is known to own; one that was learned may not
keeps_outstanding : Keeps (task_of 1) file (has_file true) (at 3 (deq 1) ∷ [])
keeps_outstanding = all_but [] (at 3 (deq 1)) [] refl refl refl refl

keeps_learned : (xs : List RunItem) → xs ≡ at 3 (deq 1) ∷ [] → Keeps (task_of 1) file (has_file false) xs → ⊥
keeps_learned xs is (all_known ys e none) =
    let g : true ≡ false = sym (ap (gives_among (task_of 1) file) is) ∙ none in absurd (cc)
keeps_learned xs is (all_but mid x rest e none own last) = absurd (cc)

-- ---- its past
-- a task that asked by ECB has its element, and doesn't own
waits_past : past_of (task_of 1) (has_none true) run
    ≡ record {
      own = (file, E) ∷ [];
      owns = λ r. false;
      asked = Enq (task_of 1) file E RetEcb C04 ∷ [];
      last = Some (Enq (task_of 1) file E RetEcb C04);
    }
waits_past = refl

-- behind its DEQ it has none
left_past : (after_entry (Deq (task_of 1) file false C00) (past_of (task_of 1) (has_none true) run)).own ≡ []
left_past = refl

-- a refused DEQ takes nothing; a release is asked by no line; CHNG makes control exclusive in its place
refused_past : own_told (Deq (task_of 1) file true C08) ((file, E) ∷ []) ≡ (file, E) ∷ []
refused_past = refl

release_past : (after_entry (Release (task_of 1) file) (past_of (task_of 1) (has_none true) run)).asked
    ≡ Enq (task_of 1) file E RetEcb C04 ∷ []
release_past = refl

changed_past : own_told (Enq (task_of 1) file E RetChng C00) ((file, S) ∷ []) ≡ (file, E) ∷ []
changed_past = refl

tested_past : own_told (Enq (task_of 1) file E RetTest C00) [] ≡ []
tested_past = refl

-- with its DEQ in the history, a past without it isn't that of the history
short_past : Speaks 4096 (task_of 1) (past_of (task_of 1) (has_none true) run) (history run) → ⊥
short_past h = let e = h.own in absurd (cc)

-- ---- what comes
-- Control that comes in front of the DEQ's answer is right, though the element is gone by then.
in_order : Coming (task_of 1) (has_none true) run (Grants (task_of 1) file ∷ Answers (task_of 1) (Coded C00) ∷ [])
in_order = (
  λ e. ((λ f. absurd (cc), λ f. refl), (λ f. (at 3 (deq 1), refl, refl, tt), λ f. absurd (cc))),
  λ e. absurd (cc),
)

-- Behind it no control may come; nor may the answer hold another code, or come twice.
out_of_order : Coming (task_of 1) (has_none true) run (Answers (task_of 1) (Coded C00) ∷ Grants (task_of 1) file ∷ [])
    → ⊥
out_of_order h = let g : false ≡ true = (((h.0 refl).3).0 refl).0 in absurd (cc)

another_code : Coming (task_of 1) (has_none true) run (Answers (task_of 1) (Coded C08) ∷ []) → ⊥
another_code h =
    let c = h.0 refl in
    let same : at 3 (deq 1) ≡ c.0 = cc in
    let g : Coded C00 ≡ Coded C08 = subst (λ (x : RunItem). reply_in x.entries ≡ Coded C08) (sym same) c.2 in
    absurd (cc)

none_asked : Coming (task_of 1) (has_none false) run (Answers (task_of 1) (Coded C00) ∷ []) → ⊥
none_asked h = let c = h.0 refl in absurd (let e : None ≡ Some c.0 = c.1 in cc)

-- what is for another task is passed over
for_another : Coming (task_of 0) (has_none false) run (Grants (task_of 1) file ∷ [])
for_another = ((λ e. absurd (cc)), λ e. tt)

read_all : after_news (task_of 1) (has_none true) run (Grants (task_of 1) file ∷ Answers (task_of 1) (Coded C00) ∷ [])
    ≡ learns_item (learns_control (has_none true) file) (at 3 (deq 1))
read_all = refl

owns_no_more : (learns_item (learns_control (has_none true) file) (at 3 (deq 1))).owns file ≡ false
owns_no_more = refl

-- ---- the message
-- what the message carried alone
own_lists_stay :
    rounds (record {
      by = system 0;
      fixed = Asked (record { task = task_of 0; want = wants.Release (kinds.System (system 0) (65 ∷ []) (1 ∷ [])) });
      entries = [];
    }
    ∷ run)
    ≡ run
own_lists_stay = refl

-- ---- a look at two slices
looks_last : (f : Filter)
    → (after_entries (Look (task_of 1) (Slice 0) f [] ∷ Look (task_of 1) (Slice 1) f [] ∷ [])
    (past_of (task_of 1) (has_none true) run)).last
    ≡ Some (Look (task_of 1) (Slice 1) f [])
looks_last f = refl

-- they leave what the task owned
looks_leave : (f : Filter) (owned : Res → Bool)
    → owns_after owned (Look (task_of 1) (Slice 0) f [] ∷ Look (task_of 1) (Slice 1) f [] ∷ []) file ≡ owned file
looks_leave f owned = refl

-- a line that scans two slices is told once both looks stand, with a code by what these show
abbrev scan : Filter → Option Meaning
scan f = Some (Shows (record { verb = verbs.Gqscan; home = None; first = 0; count = 2; filter = f }))

tells_none : (f : Filter)
    → TellsRows verbs.Gqscan C04 [] (scan f) (Look (task_of 1) (Slice 0) f [] ∷ Look (task_of 1) (Slice 1) f [] ∷ [])
tells_none f = record { kind = refl; all = refl; shown = refl; told = refl }

tells_early : (f : Filter) → TellsRows verbs.Gqscan C04 [] (scan f) (Look (task_of 1) (Slice 0) f [] ∷ []) → ⊥
tells_early f h = let e : 1 ≡ 2 = h.all in absurd (omega (arith, e))

tells_some : (f : Filter)
    → TellsRows verbs.Gqscan C00 [] (scan f) (Look (task_of 1) (Slice 0) f [] ∷ Look (task_of 1) (Slice 1) f [] ∷ [])
    → ⊥
tells_some f h = let e : C00 ≡ C04 = h.told in absurd (cc)

tells_other : (f : Filter)
    → TellsRows verbs.Display C04 [] (scan f) (Look (task_of 1) (Slice 0) f [] ∷ Look (task_of 1) (Slice 1) f [] ∷ [])
    → ⊥
tells_other f h = let e : false ≡ true = h.kind in absurd (cc)

tells_fewer : (f : Filter) (row : Row)
    → TellsRows verbs.Gqscan C04 [] (scan f)
    (Look (task_of 1) (Slice 0) f [] ∷ Look (task_of 1) (Slice 1) f (row ∷ []) ∷ [])
    → ⊥
tells_fewer f row h = let e : [] ≡ row ∷ [] = h.shown in absurd (cc)

-- what is given up last isn't owned
given_then_taken :
    owns_after (λ r. false) (Enq (task_of 1) file E RetNone C00 ∷ Deq (task_of 1) file false C00 ∷ []) file
    ≡ false
given_then_taken = refl
