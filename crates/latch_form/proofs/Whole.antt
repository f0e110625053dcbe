-- Calls that a text spells may come one behind the other.
use Rattle.std.proofs.Common.{◌≡◌, ◌≤◌, ◌<◌, ◌+◌, ℕ, List, [], ◌∷◌, ◌++◌, length, Result, Ok, Err, refl, sym, ap, subst, ◌∙◌}
use Rattle.std.proofs.Common.{arith}
use Rattle.std.specs.Prelude.{IfOk}
use Rattle.grs_base.specs.declared.fault.ReadError.{ReadError}
use Rattle.deck_scan.specs.declared.token.TokenLine.{TokenLine}
use Rattle.deck_scan.specs.Gives.{Gives}
use Rattle.grs_latch.specs.Calls.{Sets, MayCome, AllCome, after, after_all, made_by}
use Rattle.grs_latch.specs.Limits.{most_sets}
use Rattle.grs_latch.specs.declared.call.LatchCall.{LatchCall}
use Rattle.grs_latch.proofs.SetLemmas.{after-length, all_come-more, after_all-more}
use Rattle.latch_form.specs.declared.form.Ask.{Ask}
use Rattle.latch_form.specs.declared.form.Ask.TheVariants.{Make, Obtain, Release, Purge}
use Rattle.latch_form.specs.declared.form.GivenCall.{GivenCall}
use Rattle.latch_form.specs.declared.judge.Draft.{Draft}
use Rattle.latch_form.specs.Drafts.{no_draft, grow, makes, call_for}
use Rattle.latch_form.specs.Reading.{reading}
use Rattle.latch_form.specs.Spelled.{Spells, IsAsk, IsSized, HasRoom, Says}
use Rattle.latch_form.proofs.First.{reading_spells}
use Rattle.deck_scan.specs.declared.token.Token.{Token}

record IsWhole (d : Draft) : Type 0 where
  come : AllCome d.calls []
  few : length (after_all d.calls []) ≤ d.made

may_come : (n : List ℕ) (a : Ask) (ts : List Token) (ss : Sets) → IsAsk ts a → length ss + makes a ≤ most_sets
    → MayCome (call_for n a) ss
may_come n (Make k) ts ss h room = λ none. (h.3, h.4, omega (arith, room))
may_come n (Obtain l r c s) ts ss h room = tt
may_come n (Release l r) ts ss h room = tt
may_come n (Purge r) ts ss h room = tt

made_length : (n : List ℕ) (a : Ask) → length (made_by (call_for n a)) ≡ makes a
made_length n (Make k) = refl
made_length n (Obtain l r c s) = refl
made_length n (Release l r) = refl
made_length n (Purge r) = refl

grown : (d : Draft) (l : TokenLine) (c : GivenCall) → Spells l c → HasRoom d c → IsWhole d → IsWhole (grow d c)
grown d l c s room h =
    let more = call_for c.set c.ask in
    let ss = after_all d.calls [] in
    let fits : length ss + makes c.ask ≤ most_sets = omega (arith, room.1, h.few) in
    let grows : length (after more ss) ≤ length ss + makes c.ask =
    subst (λ (n : ℕ). length (after more ss) ≤ length ss + n) (made_length c.set c.ask) (after-length more ss) in
    let last : after_all (d.calls ++ more ∷ []) [] ≡ after more ss = after_all-more d.calls more [] in
    let long : length (after_all (d.calls ++ more ∷ []) []) ≡ length (after more ss) = ap length last in
    record {
      come = all_come-more d.calls more [] h.come (may_come c.set c.ask s.behind ss s.ask fits);
      few = omega (arith, long, grows, h.few);
    }

says_whole : (ls : List TokenLine) (d e : Draft) → Says d ls e → IsWhole d → IsWhole e
says_whole [] d e s h = subst IsWhole s h
says_whole (l ∷ ls) d e s h = says_whole ls (grow d s.0) e s.4 (grown d l s.0 s.1 s.3 h)

pub whole : (text : List ℕ) (r : Result (List LatchCall) ReadError) → Gives r (reading text)
    → IfOk r (λ cs. AllCome cs [])
whole text (Ok cs) h =
    let s = reading_spells text cs h in
    let start : IsWhole no_draft = record { come = tt; few = omega arith } in
    subst (λ (x : List LatchCall). AllCome x []) s.is (says_whole s.lines no_draft s.draft s.says start).come
whole text (Err e) h = tt
