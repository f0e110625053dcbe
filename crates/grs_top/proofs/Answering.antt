-- What stands after a text was read and its answer written.
use Rattle.std.proofs.Common.{◌≡◌, ◌≤◌, ◌<◌, ℕ, Bool, true, false, List, length, take, refl, sym, subst, inl, inr, arith}
use Rattle.std.proofs.Common.{if◌then◌else◌, Option, None, Some, ◌∙◌, ◌+◌}
use Rattle.std.proofs.lemmas.List.{length-take, take_all, drop_all}
use Rattle.std.specs.Io.KnownBytes.{Appends}
use Rattle.grs_io.specs.Moved.{TakesFirst}
use Rattle.grs_wire.specs.declared.deck.Event.{Event}
use Rattle.grs_wire.specs.declared.deck.Deck.{Deck as DeckValue}
use Rattle.grs_report.specs.Ends.{all_ended}
use Rattle.grs_audit.specs.declared.verdict.Verdict.{Verdict}
use Rattle.grs_audit.specs.declared.verdict.Verdict.TheVariants as verdicts
use Rattle.grs_top.specs.declared.status.Status.{Status}
use Rattle.grs_top.specs.declared.status.Status.TheVariants as statuses
use Rattle.grs_top.specs.declared.words.Command.{Command}
use Rattle.grs_top.specs.declared.words.Command.TheVariants.{Replay, Run, Lists, Analyze, Notices, Latch, Stop, Audit}
use Rattle.grs_world.specs.Stopped.{stopped}
use Rattle.grs_top.specs.Seen.{seen_of_run, ending}
use Rattle.grs_top.specs.Commands.{limit_of, InputOf, SpellsInput, IsTextOf, EndsRun, EndsDone, EndsJudged, EndsBy}
use Rattle.grs_top.specs.Commands.{NamesStatus}
use Rattle.grs_top.specs.Due.{IsAnswered, IsDue}
use Rattle.grs_top.specs.Schedules.{unscheduled}
use Rattle.grs_top.specs.Texts.{verdict_status}
use Rattle.grs_top.specs.Answers.{Streams, TakesAll, ReadsDue, Writes, Answers, Completes}

-- a front that is shorter than was asked for is all
front_is_all : (n : ℕ) (xs : List ℕ) → length (take n xs) < n → length xs ≤ n
front_is_all n xs short = omega (arith, length-take n xs)

takes_all : (n : ℕ) (old new : Option (List ℕ)) (text : List ℕ) → TakesFirst n old new text → length text < n
    → TakesAll old new text
takes_all n None new text read short = tt
takes_all n (Some xs) None text read short = absurd read
takes_all n (Some xs) (Some ys) text read short =
    let few : length xs ≤ n = front_is_all n xs (subst (λ (t : List ℕ). length t < n) read.0 short) in
    (read.0 ∙ take_all n xs few, read.1 ∙ drop_all n xs few)

-- a run ends in one of two ways
ends_run : (b : Bool) (s : Status) → s ≡ (if b then statuses.Done else statuses.Waits) → EndsRun s
ends_run true s e = subst EndsRun (sym e) tt
ends_run false s e = subst EndsRun (sym e) tt

ending_ends : (d : DeckValue) (es : List Event) (s : Status) → s ≡ ending d es → EndsRun s
unfolding ending
ending_ends d es s e = ends_run (all_ended (seen_of_run d es).ended) s e

judged_ends : (v : Verdict) → EndsJudged (verdict_status v)
judged_ends verdicts.Yes = tt
judged_ends (verdicts.No l) = tt

-- what a command writes tells how it ends
ends_by : (c : Command) (x : InputOf c) (out : List ℕ) (s : Status) → IsTextOf c x out s → EndsBy c s
ends_by Replay d out s is = ending_ends (unscheduled d) d.events s is.ends
ends_by Run d out s is = ending_ends (unscheduled d) is.events s is.reported.ends
ends_by Lists d out s is = subst (EndsBy Lists) (sym is.1) tt
ends_by Analyze d out s is = ending_ends (unscheduled d) d.events s is.ends
ends_by Notices d out s is = ending_ends (unscheduled d) d.events s is.ends
ends_by Latch calls out s is = subst (EndsBy Latch) (sym is.1) tt
ends_by (Stop x) d out s is =
    ending_ends (unscheduled d) (stopped (unscheduled d) is.system x.events d.events) s is.reported.ends
ends_by Audit x out s is = subst (EndsBy Audit) (sym is.ends) (judged_ends is.verdict)

-- what is spelled is short
short_input : (c : Command) (text : List ℕ) (x : InputOf c) → SpellsInput c text x → length text ≤ limit_of c
short_input Replay text d spelled = spelled.short
short_input Run text d spelled = spelled.short
short_input Lists text d spelled = spelled.short
short_input Analyze text d spelled = spelled.short
short_input Notices text d spelled = spelled.short
short_input Latch text calls spelled = spelled.short
short_input (Stop x) text d spelled = spelled.spelled.short
short_input Audit text x spelled = spelled.short

-- a status by which a command ends that has written all
abbrev IsEnd : Status → Type 0
IsEnd statuses.Done = Unit {0}
IsEnd statuses.Waits = Unit {0}
IsEnd statuses.Bad = Unit {0}
IsEnd _ = ⊥

run_end : (s : Status) → EndsRun s → IsEnd s
run_end statuses.Done end = tt
run_end statuses.Waits end = tt
run_end statuses.Deck end = end
run_end statuses.Words end = end
run_end statuses.ReadFault end = end
run_end statuses.WriteFault end = end
run_end statuses.NoMemory end = end
run_end statuses.Bad end = absurd end

done_end : (s : Status) → EndsDone s → IsEnd s
done_end statuses.Done end = tt
done_end statuses.Waits end = absurd end
done_end statuses.Deck end = end
done_end statuses.Words end = end
done_end statuses.ReadFault end = end
done_end statuses.WriteFault end = end
done_end statuses.NoMemory end = end
done_end statuses.Bad end = absurd end

judged_end : (s : Status) → EndsJudged s → IsEnd s
judged_end statuses.Done end = tt
judged_end statuses.Waits end = absurd end
judged_end statuses.Deck end = end
judged_end statuses.Words end = end
judged_end statuses.ReadFault end = end
judged_end statuses.WriteFault end = end
judged_end statuses.NoMemory end = end
judged_end statuses.Bad end = tt

-- no other status says of any command that it has written all
is_end : (c : Command) (s : Status) → EndsBy c s → IsEnd s
is_end Replay s end = run_end s end
is_end Run s end = run_end s end
is_end Lists s end = done_end s end
is_end Analyze s end = run_end s end
is_end Notices s end = run_end s end
is_end Latch s end = done_end s end
is_end (Stop x) s end = run_end s end
is_end Audit s end = judged_end s end

completes_answers : (c : Command) (old new : Streams) (s : Status) → EndsBy c s → Completes c old new s
    → Answers c old new s
completes_answers c old new statuses.Done end done = done
completes_answers c old new statuses.Waits end done = done
completes_answers c old new statuses.Deck end done = absurd (is_end c statuses.Deck end)
completes_answers c old new statuses.Words end done = absurd (is_end c statuses.Words end)
completes_answers c old new statuses.ReadFault end done = absurd (is_end c statuses.ReadFault end)
completes_answers c old new statuses.WriteFault end done = absurd (is_end c statuses.WriteFault end)
completes_answers c old new statuses.NoMemory end done = absurd (is_end c statuses.NoMemory end)
completes_answers c old new statuses.Bad end done = done

completes_whole : (c : Command) (old new : Streams) (text out : List ℕ) (s : Status)
    → TakesFirst (limit_of c + 1) old.left new.left text → IsAnswered c text out s
    → Appends old.written new.written out → new.failed_reads ≡ old.failed_reads → new.failed_writes ≡ old.failed_writes
    → Completes c old new s
completes_whole c old new text out s read answered written failed_reads failed_writes =
    let short : length text < limit_of c + 1 =
    omega (arith, short_input c text answered.input answered.spelled) in
    record {
      text = text;
      out = out;
      read = takes_all (limit_of c + 1) old.left new.left text read short;
      answered = answered;
      written = written;
      failed_reads = failed_reads;
      failed_writes = failed_writes;
    }

writes_whole : (c : Command) (old new : Streams) (text out : List ℕ) (s : Status)
    → TakesFirst (limit_of c + 1) old.left new.left text → IsDue c text out s
    → Appends old.written new.written out → new.failed_reads ≡ old.failed_reads → new.failed_writes ≡ old.failed_writes
    → Answers c old new s
writes_whole c old new text out s read (inl refused) written failed_reads failed_writes =
    subst (Answers c old new) (sym refused.1)
    (record {
      text = text;
      out = out;
      read = read;
      refused = refused.0;
      written = written;
      failed_reads = failed_reads;
      failed_writes = failed_writes;
    })
writes_whole c old new text out s read (inr answered) written failed_reads failed_writes =
    completes_answers c old new s (ends_by c answered.input out s answered.is_text)
    (completes_whole c old new text out s read answered written failed_reads failed_writes)

-- what is due is written, or a write fails
pub answers : (c : Command) (old new : Streams) (out : List ℕ) (s result : Status)
    → ReadsDue c old.left new.left out s → new.failed_reads ≡ old.failed_reads
    → Writes old.written new.written old.failed_writes new.failed_writes out s result → Answers c old new result
answers c old new out s result due failed_reads (inl whole) =
    subst (Answers c old new) (sym whole.2)
    (writes_whole c old new due.text out s due.read due.due whole.0 failed_reads whole.1)
answers c old new out s result due failed_reads (inr part) =
    subst (Answers c old new) (sym part.2)
    (record {
      text = due.text;
      out = out;
      status = s;
      read = due.read;
      due = due.due;
      written = part.0;
      failed_reads = failed_reads;
      failed_writes = part.1;
    })

-- no other status comes than those that are named
pub names : (c : Command) (old new : Streams) (s : Status) → Answers c old new s → NamesStatus c s
names c old new statuses.Done done =
    ends_by c done.answered.input done.out statuses.Done done.answered.is_text
names c old new statuses.Waits done =
    ends_by c done.answered.input done.out statuses.Waits done.answered.is_text
names c old new statuses.Deck done = tt
names c old new statuses.Words done = done
names c old new statuses.ReadFault done = tt
names c old new statuses.WriteFault done = tt
names c old new statuses.NoMemory done = tt
names c old new statuses.Bad done =
    ends_by c done.answered.input done.out statuses.Bad done.answered.is_text
