-- One step of the walk along the lines of a history: what its result says.
use Rattle.std.proofs.Common.{◌≡◌, ◌<◌, ◌≤◌, ◌+◌, ◌-◌, ◌^◌, ℕ, Bool, true, false, cond, List, [], ◌∷◌, ◌++◌, length, Bor}
use Rattle.std.proofs.Common.{Option, Some, None, Result, Ok, Err, refl, ap, sym, subst, ◌∙◌, arith, length-append}
use Rattle.std.specs.Prelude.{IfOk}
use Rattle.std.specs.Str.{bytes_eq}
use Rattle.std.proofs.lemmas.Slice.Eq.{bytes_eq-Decides}
use Rattle.grs_base.specs.declared.resource.SysId.{SysId}
use Rattle.grs_base.specs.declared.resource.TaskId.{TaskId}
use Rattle.grs_wire.specs.Decks.{IsDeck}
use Rattle.grs_wire.specs.declared.deck.Deck.{Deck}
use Rattle.grs_wire.specs.declared.deck.SystemDef.{SystemDef}
use Rattle.grs_wire.specs.declared.history.HistEntry.{HistEntry}
use Rattle.grs_wire.specs.declared.history.HistEntry.TheVariants.{Remove}
use Rattle.grs_deck.specs.Places.{system_at, task_in}
use Rattle.grs_display.specs.Names.{names_of}
use Rattle.grs_wire.specs.declared.seen.Names.{Names}
use Rattle.grs_report.specs.History.{history_line}
use Rattle.grs_track.specs.Tracks.{TracksView, IsBehind, GoesOn, MayCome, may_remove}
use Rattle.grs_track.proofs.Standing.{next_is_own}
use Rattle.grs_audit.specs.Compared.{Parts, AreCompared}
use Rattle.grs_audit.specs.Lines.{most_lines, lines_in, front, behind, holds}
use Rattle.grs_audit.specs.Found.{capped}
use Rattle.grs_audit.specs.Steps.{GoesBy, Steps, StepsBy, first_in, IsJudged}
use Rattle.grs_audit.specs.declared.compare.Compared.{Compared}
use Rattle.grs_audit.specs.Way.{IsOff, printed, told_word}
use Rattle.grs_audit.specs.Words.{next_by_line, next_by_system, next_of_task, removal_of, asker_word, behind_asker}
use Rattle.grs_audit.specs.declared.compare.Compared.TheVariants as compared
use Rattle.grs_audit.proofs.LineLaws.{lines-cut}
use Rattle.grs_audit.proofs.WayLaws.{entry_lines}
use Rattle.grs_audit.proofs.StepLaws.{IsAt, at-first, at-few, at-next, off-line, off-entry, off-told, yes-told}
use Rattle.grs_audit.proofs.StepLaws.{nothing-there, is-some}

-- ---- what a line says may come
next-may : (v : TracksView) (l : List ℕ) (h : HistEntry) → next_by_line v l ≡ Some h → MayCome v h
next-may v l h e = by_system (system_at v.deck.systems (front 46 (asker_word l))) e
  where
    by_task : (o : Option TaskId) → next_of_task v o ≡ Some h → MayCome v h
    by_task None f = absurd (cc)
    by_task (Some t) f = (next_is_own v t h f).1

    by_removal : (by target : SysId) (b : Bool) → may_remove v by target ≡ b
        → cond b (Some (Remove by target)) None ≡ Some h → MayCome v h
    by_removal by target false may f = absurd (cc)
    by_removal by target true may f =
        subst (MayCome v) (is-some (Remove by target) h f) (ap (λ c. cond c (Some (Remove by target)) None) may)

    by_target : (by : SysId) (o : Option (SysId × SystemDef)) → removal_of v by o ≡ Some h → MayCome v h
    by_target by None f = absurd (cc)
    by_target by (Some x) f = by_removal by x.0 (may_remove v by x.0) refl f

    by_point : (b : Bool) (by : SysId) (t : Option TaskId) (o : Option (SysId × SystemDef))
        → cond b (next_of_task v t) (removal_of v by o) ≡ Some h → MayCome v h
    by_point true by t o f = by_task t f
    by_point false by t o f = by_target by o f

    by_system : (o : Option (SysId × SystemDef)) → next_by_system v l o ≡ Some h → MayCome v h
    by_system None f = absurd (cc)
    by_system (Some x) f =
        by_point (holds 46 (asker_word l)) x.0
        (task_in x.0 x.1 (front 46 (behind 46 (asker_word l))) (behind 46 (behind 46 (asker_word l))))
        (system_at v.deck.systems (behind 32 (behind_asker l))) f

-- ---- one step of the walk
-- how many of these lines stand before the rest of them
abbrev pub before : List (List ℕ) → List (List ℕ) → ℕ
before all rest = length all - length rest

-- a walk has come as far as there are lines before the rest
at-before : (deck : Deck) (n : ℕ) (all rest : List (List ℕ)) (done far : ℕ) (v : TracksView)
    → IsAt deck n all rest done far v → IsAt deck n all rest done (before all rest) v
at-before deck n all rest done far v at =
    let lines = at.lines in
    let split = ap length at.split ∙ length-append (printed deck 1 at.hist) rest in
    let is : far ≡ before all rest = omega (arith, lines, split) in
    subst (λ x. IsAt deck n all rest done x v) is at

module _ (deck : Deck) (is : IsDeck deck) (n : ℕ) (all rest : List (List ℕ)) (done far : ℕ) (v : TracksView)
    (small : done + 2 < 2 ^ 64) (at : IsAt deck n all rest done far v) (less : done < n) where
  pub step-on : (m : ℕ) (r : Bor (List ℕ)) (v' : TracksView) → m ≡ 1 + done
      → Steps (names_of deck) m v rest (compared.All r) v'
      → IsAt deck n all (lines_in r.now) (done + 1) (before all (lines_in r.now)) v'
  step-on m r v' number s = go (next_by_line v (first_in rest)) refl s
    where
      go : (o : Option HistEntry) → next_by_line v (first_in rest) ≡ o
          → StepsBy (names_of deck) m v o rest (compared.All r) v'
          → IsAt deck n all (lines_in r.now) (done + 1) (before all (lines_in r.now)) v'
      go None e s = absurd s
      go (Some h) e s =
          at-before deck n all (lines_in r.now) (done + 1) (far + length (entry_lines (names_of deck) (1 + done) h)) v'
          (at-next deck is n all rest done far v small at h v' (lines_in r.now) less (next-may v (first_in rest) h e)
          s.1 (s.0 ∙ ap (λ x. entry_lines (names_of deck) x h ++ lines_in r.now) number))

  pub step-off : (m k : ℕ) (v' : TracksView) → m ≡ 1 + done
      → Steps (names_of deck) m v rest (compared.Some k) v' → IsOff deck n all (far + k)
  step-off m k v' number s = go (next_by_line v (first_in rest)) refl s
    where
      said : (y : List ℕ) (ys : List (List ℕ)) → rest ≡ y ∷ ys → next_by_line v y ≡ next_by_line v (first_in rest)
      said y ys e = ap (λ x. next_by_line v (first_in x)) (sym e)

      parted : (h : HistEntry) → next_by_line v (first_in rest) ≡ Some h
          → Parts (entry_lines (names_of deck) m h) rest k → (xs : List (List ℕ)) → rest ≡ xs
          → IsOff deck n all (far + k)
      parted h e p [] none =
          let l = ap length (sym none ∙ p.has) in
          let k0 : k ≡ 0 = let c = p.count in let t = length-append p.same p.behind in omega (arith, l, c, t) in
          subst (λ x. IsOff deck n all x) (omega (arith, k0))
          (off-line deck is n all rest done far v small at less
          (λ y ys f. absurd (nothing-there y ys (sym none ∙ f))))
      parted h e p (x ∷ xs) begins =
          subst (λ c. IsOff deck n all (far + c)) (sym p.count)
          (off-entry deck is n all rest done far v small at x xs h less begins (said x xs begins ∙ e)
          (next-may v (first_in rest) h e) p.same p.behind p.next p.more p.has
          (ap (λ c. entry_lines (names_of deck) c h) (sym number) ∙ p.wants) p.other)

      go : (o : Option HistEntry) → next_by_line v (first_in rest) ≡ o
          → StepsBy (names_of deck) m v o rest (compared.Some k) v' → IsOff deck n all (far + k)
      go None e s =
          subst (λ x. IsOff deck n all x) (omega (arith, s))
          (off-line deck is n all rest done far v small at less (λ y ys f. said y ys f ∙ e))
      go (Some h) e s = parted h e s rest refl

-- the first line
pub first-front : (xs : List ℕ) → front 10 xs ≡ first_in (lines_in xs)
first-front [] = refl
first-front (x ∷ xs) = ap first_in (sym (lines-cut x xs))

-- ---- what one step says
pub goes-all : (names : Names) (m : ℕ) (v : TracksView) (h : HistEntry) (ls : List (List ℕ)) (v' : TracksView)
    (wanted : List ℕ) (r : Bor (List ℕ)) → wanted ≡ history_line names m h
    → AreCompared (lines_in wanted) ls (compared.All r) → GoesOn v h v' → GoesBy names m v h ls (compared.All r) v'
goes-all names m v h ls v' wanted r e same goes =
    subst (λ (w : List ℕ). (ls ≡ lines_in w ++ lines_in r.now) × GoesOn v h v') e (same, goes)

pub goes-some : (names : Names) (m : ℕ) (v : TracksView) (h : HistEntry) (ls : List (List ℕ)) (v' : TracksView)
    (wanted : List ℕ) (n : ℕ) → wanted ≡ history_line names m h → AreCompared (lines_in wanted) ls (compared.Some n)
    → GoesBy names m v h ls (compared.Some n) v'
goes-some names m v h ls v' wanted n e parts = subst (λ (w : List ℕ). Parts (lines_in w) ls n) e parts

steps-by : (names : Names) (m : ℕ) (v : TracksView) (text line : List ℕ) (step : Compared) (v' : TracksView)
    (h : HistEntry) → line ≡ front 10 text → Some h ≡ next_by_line v line → GoesBy names m v h (lines_in text) step v'
    → Steps names m v (lines_in text) step v'
steps-by names m v text line step v' h e next goes =
    subst (λ o. StepsBy names m v o (lines_in text) step v')
    (next ∙ ap (next_by_line v) (e ∙ first-front text)) goes

pub steps-on : {E : Type 0} (names : Names) (m : ℕ) (v : TracksView) (text line : List ℕ) (v' : TracksView)
    (h : HistEntry) (r : Result Compared E) → line ≡ front 10 text → Some h ≡ next_by_line v line
    → IfOk r (λ step. GoesBy names m v h (lines_in text) step v')
    → IfOk r (λ step. Steps names m v (lines_in text) step v')
steps-on names m v text line v' h (Ok step) e next goes = steps-by names m v text line step v' h e next goes
steps-on names m v text line v' h (Err x) e next goes = goes

pub steps-none : (names : Names) (m : ℕ) (v : TracksView) (text line : List ℕ) (v' : TracksView)
    → line ≡ front 10 text → None ≡ next_by_line v line → Steps names m v (lines_in text) (compared.Some 0) v'
steps-none names m v text line v' e next =
    subst (λ o. StepsBy names m v o (lines_in text) (compared.Some 0) v')
    (next ∙ ap (next_by_line v) (e ∙ first-front text)) refl

-- the same step, of the names of the deck
pub stepped : (deck : Deck) (names : Names) (m : ℕ) (v : TracksView) (ls : List (List ℕ)) (v' : TracksView)
    (known : Compared) {step : Compared} → names ≡ names_of deck → step ≡ known → Steps names m v ls step v'
    → Steps (names_of deck) m v ls known v'
stepped deck names m v ls v' known of is s =
    subst (λ (x : Names). Steps x m v ls known v') of (subst (λ (c : Compared). Steps names m v ls c v') is s)

-- ---- as far as the walk came
-- So far lead the lines behind `HISTORY n`, where this number is n or the largest one.
pub record IsWalked (deck : Deck) (count : ℕ) (all rest : List (List ℕ)) (done far : ℕ) (v : TracksView) : Type 0 where
  pub within : done ≤ count
  pub few : far + length rest ≤ length all
  pub each : done ≤ far
  pub at : (n : ℕ) → count ≡ capped n → IsAt deck n all rest done far v

pub walked-none : (deck : Deck) (count : ℕ) (all : List (List ℕ)) (v : TracksView) → v.deck ≡ deck → IsBehind [] v
    → IsWalked deck count all all 0 (before all all) v
walked-none deck count all v of behind = record {
  within = omega arith;
  few = omega arith;
  each = omega arith;
  at = λ n e. at-before deck n all all 0 0 v (at-first deck n all v of behind);
}

capped-small : (n : ℕ) → capped n ≤ n
capped-small n = omega arith

count-capped : (count : ℕ) → count < 2 ^ 64 → count ≡ capped count
count-capped count small = omega (arith, small)

whole-small : (done n : ℕ) → done ≡ capped n → done < 2 ^ 64 - 1 → done ≡ n
whole-small done n e small = omega (arith, e, small)

module _ (deck : Deck) (is : IsDeck deck) (count : ℕ) (all rest : List (List ℕ)) (done far : ℕ) (v : TracksView)
    (bound : length all ≤ most_lines) (w : IsWalked deck count all rest done far v) where
  small : done + 2 < 2 ^ 64
  small = let f = w.few in let e = w.each in omega (arith, f, e, bound)

  less-of : (n : ℕ) → count ≡ capped n → done < count → done < n
  less-of n e less = let c = capped-small n in omega (arith, e, less, c)

  pub walked-on : (m : ℕ) (r : Bor (List ℕ)) (v' : TracksView) → count < 2 ^ 64 → done < count → m ≡ 1 + done
      → Steps (names_of deck) m v rest (compared.All r) v'
      → IsWalked deck count all (lines_in r.now) (done + 1) (before all (lines_in r.now)) v'
  walked-on m r v' wide less number s = record {
    within = omega (arith, less);
    few = let c = next.lines in let l = ap length next.split ∙ length-append (printed deck 1 next.hist) (lines_in r.now) in
        omega (arith, c, l);
    each = (at-few deck count all (lines_in r.now) (done + 1) (before all (lines_in r.now)) v' next).0;
    at = λ n e. step-on deck is n all rest done far v small (w.at n e) (less-of n e less) m r v' number s;
  }
    where
      next : IsAt deck count all (lines_in r.now) (done + 1) (before all (lines_in r.now)) v'
      next =
          step-on deck is count all rest done far v small (w.at count (count-capped count wide)) less m r v' number s

  pub off-few : (m k : ℕ) (v' : TracksView) → count < 2 ^ 64 → done < count → m ≡ 1 + done
      → Steps (names_of deck) m v rest (compared.Some k) v' → far + k ≤ length all
  off-few m k v' wide less number s =
      (step-off deck is count all rest done far v small (w.at count (count-capped count wide)) less m k v' number s).within

  pub walked-off : (m k : ℕ) (v' : TracksView) → done < count → m ≡ 1 + done
      → Steps (names_of deck) m v rest (compared.Some k) v' → (n : ℕ) → count ≡ capped n
      → IsJudged deck n all (Some (far + k))
  walked-off m k v' less number s n e =
      step-off deck is n all rest done far v small (w.at n e) (less-of n e less) m k v' number s

  whole-of : count ≤ done → (n : ℕ) → count ≡ capped n → done ≡ n
  whole-of all_done n e =
      let f = w.few in
      let g = w.each in
      let i = w.within in
      whole-small done n (omega (arith, all_done, i, e)) (omega (arith, f, g, bound))

  -- behind all entries: TOLD, or it is missing
  pub walked-told : count ≤ done → bytes_eq (first_in rest) told_word ≡ true → (n : ℕ) → count ≡ capped n
      → IsJudged deck n all None
  walked-told all_done told n e = go rest refl told
    where
      go : (xs : List (List ℕ)) → rest ≡ xs → bytes_eq (first_in xs) told_word ≡ true → IsJudged deck n all None
      go [] f t = absurd (cc)
      go (x ∷ xs) f t =
          yes-told deck is n all rest done far v small (w.at n e) (whole-of all_done n e) xs
          (f ∙ ap (λ y. y ∷ xs) ((bytes_eq-Decides x told_word).0 t))

  pub walked-untold : count ≤ done → bytes_eq (first_in rest) told_word ≡ false → (n : ℕ) → count ≡ capped n
      → IsJudged deck n all (Some far)
  walked-untold all_done other n e =
      off-told deck is n all rest done far v small (w.at n e) (whole-of all_done n e)
      (λ more f. differs (other_told more f))
    where
      other_told : (more : List (List ℕ)) → rest ≡ told_word ∷ more → true ≡ false
      other_told more f = ap (λ xs. bytes_eq (first_in xs) told_word) (sym f) ∙ other

      differs : true ≡ false → ⊥
      differs f = absurd (cc)
