-- A task's past, and a history of which it speaks: what the one tells of the other.
use Rattle.std.proofs.Common.{◌≡◌, ℕ, Bool, true, false, cond, not, ◌||◌, List, [], map, length, Option, Some, None}
use Rattle.std.proofs.Common.{refl, ap, sym, ◌∙◌, subst, arith}
use Rattle.std.specs.Prelude.{slice_get, is_some, IfSome}
use Rattle.std.specs.List.{list_all, list_any}
use Rattle.std.proofs.lemmas.Option.{IfSome_then}
use Rattle.std.specs.Option.{option_or, option_map}
use Rattle.grs_base.specs.Same.{same_res}
use Rattle.grs_base.specs.Lists.{owns, has_task}
use Rattle.grs_base.specs.State.{list_of, queued_by}
use Rattle.grs_base.specs.declared.resource.Res.{Res}
use Rattle.grs_base.specs.declared.resource.TaskId.{TaskId}
use Rattle.grs_base.specs.declared.decision.Code.TheVariants.{Wait}
use Rattle.grs_base.proofs.SameLaws.{same_res-exact}
use Rattle.grs_legal.specs.Asks.{Ask, AsksRelease, asks_of}
use Rattle.grs_legal.specs.Legal.{ask_in, IsLegal, entries_of, end_among, next_ask, passed_behind, passed_lines}
use Rattle.grs_legal.specs.Legal.{lets_pass, last_entry, HasControl}
use Rattle.grs_legal.specs.declared.meaning.Meaning.{Meaning}
use Rattle.grs_legal.specs.declared.meaning.Meaning.TheVariants as lines
use Rattle.grs_wire.specs.History.{removes, code_of, answer_of, reply_of, replay}
use Rattle.grs_wire.specs.declared.history.HistEntry.{HistEntry}
use Rattle.grs_wire.specs.declared.history.HistEntry.TheVariants.{Enq, Deq, Release, Look, Remove}
use Rattle.grs_known.specs.Past.{has_own, Past, Speaks}
use Rattle.grs_known.proofs.lists.Facts.{all-kept}
use Rattle.grs_known.proofs.tasks.Invariant.{may_pass, owns_entry, with_control, IsFree, asks_next, passes_next, IsNext}
use Rattle.grs_known.proofs.lists.Own.{queued_by-own, has_task-own}

-- what a task asks next that has these entries of its lines, and elements on these resources
next_of : List Meaning → List HistEntry → List Res → Option Ask
next_of ls asked queued =
    option_or (cond (is_some (end_among asked)) None (slice_get (asks_of ls) (length asked)))
    (option_map AsksRelease (slice_get queued 0))

passed_of : List Meaning → List HistEntry → List Meaning
passed_of ls asked = cond (is_some (end_among asked)) [] (passed_behind (length asked) ls)

-- ---- what a past tells of the history
module _ (limit : ℕ) (t : TaskId) (p : Past) (P : List HistEntry) (s : Speaks limit t p P) where
  pub has-speaks : (r : Res) → has_task (list_of (replay limit P) r) t ≡ has_own r p.own
  has-speaks r = has_task-own (replay limit P) t r ∙ ap (has_own r) s.own

  pub queued-speaks : queued_by (replay limit P) t ≡ map (λ k. k.0) p.own
  queued-speaks = queued_by-own (replay limit P) t ∙ ap (map (λ k. k.0)) s.own

  -- a line that lets the task pass by its past lets it pass
  pass-speaks : (l : Meaning) → may_pass p l ≡ true → lets_pass (replay limit P) t l ≡ true
  pass-speaks (lines.Enq r c ret unit) h = refl
  pass-speaks (lines.Deq r have) h = refl
  pass-speaks (lines.Wait r) h =
      subst (λ b. (owns (list_of (replay limit P) r) t || not b) ≡ true) (sym (has-speaks r))
      (owned (p.owns r) (s.owns r) h)
    where
      owned : (a : Bool) → (a ≡ true → owns (list_of (replay limit P) r) t ≡ true) → (a || not (has_own r p.own)) ≡ true
          → (owns (list_of (replay limit P) r) t || not (has_own r p.own)) ≡ true
      owned true f e = ap (λ b. b || not (has_own r p.own)) (f refl)
      owned false f e = grind (arith, e)
  pass-speaks (lines.Shows d) h = refl
  pass-speaks lines.Nothing h = refl

  -- a task that is free by its past is so
  free-speaks : IsFree p → IfSome (last_entry (entries_of t P)) (HasControl (replay limit P) t)
  free-speaks f = subst (λ o. IfSome o (HasControl (replay limit P) t)) (sym s.last) (IfSome_then p.last f control)
    where
      control : (h : HistEntry) → (code_of h ≡ Wait → owns_entry p.owns h ≡ true) → HasControl (replay limit P) t h
      control (Enq u r c ret code) has w = s.owns r (has w)
      control (Deq u r have code) has w = s.owns r (has w)
      control (Release u r) has w = s.owns r (has w)
      control (Look u place filter rows) has w = has w
      control (Remove by target) has w = has w

  -- what it asks next by its past it asks, and may
  pub next-speaks : (ls : List Meaning) → next_ask limit t ls P ≡ asks_next ls p
  unfolding next_of
  next-speaks ls =
      ap (λ es. next_of ls es (queued_by (replay limit P) t)) s.asked ∙ ap (next_of ls p.asked) queued-speaks

  lines-speaks : (ls : List Meaning) → list_all (may_pass p) (passes_next ls p) ≡ true
      → list_all (lets_pass (replay limit P) t) (passed_lines t ls P) ≡ true
  unfolding passed_of
  lines-speaks ls h =
      ap (λ es. list_all (lets_pass (replay limit P) t) (passed_of ls es)) s.asked
      ∙ all-kept (may_pass p) (lets_pass (replay limit P) t) pass-speaks (passes_next ls p) h

  pub legal-speaks : (ls : List Meaning) (a : Ask) (h : HistEntry) → list_any (removes t.system) P ≡ false
      → IsNext ls p a → answer_of h ≡ reply_of limit (replay limit P) h → ask_in h ≡ Some a → IsLegal limit t ls P h
  legal-speaks ls a h live i right asks = record {
    reply = right;
    live = live;
    next = next-speaks ls ∙ i.next ∙ sym asks;
    waited = free-speaks i.free;
    passed = lines-speaks ls i.passed;
  }

  -- the task was told control that it has
  pub speaks-control : (r : Res) → owns (list_of (replay limit P) r) t ≡ true → Speaks limit t (with_control r p) P
  speaks-control r
      own = record { own = s.own; owns = λ q e. owned q (p.owns q) (s.owns q) e; asked = s.asked; last = s.last }
    where
      owned : (q : Res) (a : Bool) → (a ≡ true → owns (list_of (replay limit P) q) t ≡ true)
          → (a || same_res q r) ≡ true → owns (list_of (replay limit P) q) t ≡ true
      owned q true f e = f refl
      owned q false f e = subst (λ z. owns (list_of (replay limit P) z) t ≡ true) (sym (same_res-exact q r e)) own
