-- How far a task is in its lines leads to where it stands in them.
use Rattle.std.proofs.Common.{◌≡◌, ◌<◌, ◌≤◌, ◌+◌, ◌-◌, ℕ, zero, suc, Bool, true, false, cond, ◌||◌, List, [], ◌∷◌, drop}
use Rattle.std.proofs.Common.{Option, Some, None, refl, ap, sym, ◌∙◌, subst, arith}
use Rattle.std.specs.Prelude.{slice_get, nat_lt}
use Rattle.std.specs.Map.{lookup}
use Rattle.std.proofs.lemmas.Bool.{ltb-false, le-ltb, lt-ltb}
use Rattle.grs_base.proofs.SameLaws.{same_task-exact}
use Rattle.grs_base.specs.Same.{same_task}
use Rattle.grs_base.specs.State.{State}
use Rattle.grs_base.specs.declared.line.Line.{Line}
use Rattle.grs_base.specs.declared.resource.TaskId.{TaskId}
use Rattle.grs_base.specs.declared.rnl.Lists.{Lists}
use Rattle.grs_legal.specs.Asks.{meaning_of}
use Rattle.grs_legal.specs.Legal.{lets_pass}
use Rattle.grs_wire.specs.declared.deck.Deck.{Deck}
use Rattle.grs_track.specs.Track.{Track, Kept, kept_in}
use Rattle.grs_track.specs.Tracks.{AreInLines, script_of}
use Rattle.grs_track.specs.Walk.{asks_count, stand, IsPast, IsInLines}
use Rattle.grs_track.specs.declared.walk.Stand.{Stand}
use Rattle.grs_track.specs.declared.walk.Stand.TheVariants.{At, Held}

-- one more entry
pub past-more : (ls : List Line) (asked place part : ℕ) → IsPast ls asked place part
    → IsPast ls (suc asked) place (suc part)
past-more ls asked zero part p = ap suc p
past-more [] asked (suc place) part p = p
past-more (l ∷ ls) asked (suc place) part p =
    let few : asks_count l ≤ asked = p.1 in
    let one : suc (asked - asks_count l) ≡ suc asked - asks_count l = omega (arith, few) in (
      omega arith,
      omega (arith, few),
      subst (λ n. IsPast ls n place (suc part)) one (past-more ls (asked - asks_count l) place part p.2),
    )

pub past-behind : (b : Bool) (ls : List Line) (asked place part n : ℕ) → IsPast ls asked place part
    → n ≡ cond b (suc part) part → IsPast ls (cond b (suc asked) asked) place n
past-behind true ls asked place part n p e =
    subst (λ k. IsPast ls (suc asked) place k) (sym e) (past-more ls asked place part p)
past-behind false ls asked place part n p e = subst (λ k. IsPast ls asked place k) (sym e) p

-- one more line, of which it has all entries, and one more or the last of which it has just asked
pub past-next : (ls : List Line) (asked place part : ℕ) (l : Line) → IsPast ls asked place part
    → slice_get ls place ≡ Some l → 0 < part → asks_count l ≤ part
    → IsPast ls asked (suc place) (part - asks_count l)
past-next [] asked zero part l p at some few = absurd (cc)
past-next (x ∷ ls) asked zero part l p at some few =
    let one : x ≡ l = cc in (
      subst (λ n. 0 < n) p some,
      subst (λ n. asks_count x ≤ n) p (subst (λ y. asks_count y ≤ part) (sym one) few),
      ap (λ n. n - asks_count l) p ∙ ap (λ y. asked - asks_count y) (sym one),
    )
past-next [] asked (suc place) part l p at some few = p
past-next (x ∷ ls) asked (suc place) part l p at some few =
    (p.0, p.1, past-next ls (asked - asks_count x) place part l p.2 at some few)

-- the same, as the code counts
pub past-on : (ls : List Line) (asked place part count : ℕ) (l : Line) → IsPast ls asked place part
    → slice_get ls place ≡ Some l → count ≡ asks_count l → 0 < part → count ≤ part
    → IsPast ls asked (place + 1) (part - count)
past-on ls asked place part count l p at is some few =
    let next : suc place ≡ place + 1 = omega arith in
    subst (λ n. IsPast ls asked n (part - count)) next
    (subst (λ n. IsPast ls asked (suc place) (part - n)) (sym is)
    (past-next ls asked place part l p at some (subst (λ n. n ≤ part) is few)))

module _ (s : State) (t : TaskId) (lists : Lists) where
  -- where it stands
  pub stand-past : (ls : List Line) (first asked place part at : ℕ) → IsPast ls asked place part → at ≡ place + first
      → stand s t lists ls first asked ≡ stand s t lists (drop place ls) at part
  stand-past ls first asked zero part at p e =
      let same : first ≡ at = omega (arith, e) in
      ap (stand s t lists ls first) (sym p) ∙ ap (λ n. stand s t lists ls n part) same
  stand-past [] first asked (suc place) part at p e = absurd p
  stand-past (l ∷ ls) first asked (suc place) part at p e =
      let some : nat_lt 0 asked ≡ true = lt-ltb 0 asked p.0 in
      let all : nat_lt asked (asks_count l) ≡ false = le-ltb asked (asks_count l) p.1 in
      ap (λ b. cond b (At first asked) (cond (nat_lt 0 asked || lets_pass s t (meaning_of lists t l))
      (stand s t lists ls (first + 1) (asked - asks_count l)) Held)) all
      ∙ ap (λ b. cond (b || lets_pass s t (meaning_of lists t l))
      (stand s t lists ls (first + 1) (asked - asks_count l)) Held) some
      ∙ stand-past ls (first + 1) (asked - asks_count l) place part at p.2 (omega (arith, e))

-- where it stands by what is kept
pub stand-kept : (s : State) (t : TaskId) (lists : Lists) (ls : List Line) (track : Track) (place part : ℕ) (k : Kept)
    → record { track = track; place = place; part = part } ≡ k → IsInLines ls k
    → stand s t lists ls 0 k.track.asked ≡ stand s t lists (drop place ls) place part
stand-kept s t lists ls track place part k e at =
    subst (λ (x : Kept). IsInLines ls x
    → stand s t lists ls 0 x.track.asked ≡ stand s t lists (drop place ls) place part) e
    (λ p. stand-past s t lists ls 0 track.asked place part place p (omega arith)) at

-- what is kept of all, where this was put there of one task
pub in_lines-put : (deck : Deck) (task : TaskId) (k : Kept) (es fs : List (TaskId × Kept)) → AreInLines deck es
    → IsInLines (script_of deck task) k
    → ((t : TaskId) → lookup (same_task t) fs ≡ cond (same_task task t) (Some k) (lookup (same_task t) es))
    → AreInLines deck fs
in_lines-put deck task k es fs all one put t = by_test (same_task task t) refl
  where
    by_test : (b : Bool) → same_task task t ≡ b → IsInLines (script_of deck t) (kept_in (lookup (same_task t) fs))
    by_test true e =
        subst (λ o. IsInLines (script_of deck t) (kept_in o))
        (sym (put t ∙ ap (λ b. cond b (Some k) (lookup (same_task t) es)) e))
        (subst (λ x. IsInLines (script_of deck x) k) (same_task-exact task t e) one)
    by_test false e =
        subst (λ o. IsInLines (script_of deck t) (kept_in o))
        (sym (put t ∙ ap (λ b. cond b (Some k) (lookup (same_task t) es)) e)) (all t)
