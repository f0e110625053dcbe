-- What may stand behind a history is what may come by what is kept.
use Rattle.std.proofs.Common.{◌≡◌, ℕ, suc, Bool, true, false, cond, not, ◌&&◌, ◌||◌, List, [], ◌∷◌, ◌++◌, length}
use Rattle.std.proofs.Common.{Option, Some, None, refl, ap, sym, ◌∙◌, subst}
use Rattle.std.specs.Prelude.{◌≢◌, ◌==◌, filter, is_some, slice_get, IfSome, IsSomeAnd}
use Rattle.std.specs.List.{list_all, list_any, flat_map}
use Rattle.std.specs.Option.{option_map}
use Rattle.std.proofs.lemmas.Bool.{eq-eqb, eqb-true}
use Rattle.std.proofs.lemmas.Grind.{flat_map-append}
use Rattle.std.proofs.lemmas.List.Elements.{filter-append}
use Rattle.grs_base.specs.Lists.{owns}
use Rattle.grs_base.specs.State.{State, list_of, is_full, enq_code, deq_reply}
use Rattle.grs_base.specs.Looks.{look}
use Rattle.grs_base.proofs.SameLaws.{same_task-itself}
use Rattle.grs_base.specs.declared.decision.Code.{Code}
use Rattle.grs_base.specs.declared.decision.Code.TheVariants as codes
use Rattle.grs_base.specs.declared.resource.Res.{Res}
use Rattle.grs_base.specs.declared.resource.SysId.{SysId}
use Rattle.grs_base.specs.declared.resource.TaskId.{TaskId}
use Rattle.grs_wire.specs.History.{is_by, removes, code_of, answer_of, reply_of, step, replay}
use Rattle.grs_wire.specs.declared.history.HistEntry.{HistEntry}
use Rattle.grs_wire.specs.declared.history.HistEntry.TheVariants.{Enq, Deq, Release, Look, Remove}
use Rattle.grs_wire.proofs.HistoryLaws.{replay_from-append}
use Rattle.grs_legal.specs.Asks.{Ask, AsksEnq, AsksDeq, AsksRelease, AsksLook, lines_of}
use Rattle.grs_legal.specs.Legal.{ask_in, IsLegal, HasControl, MayRemove, MayStand, commands_removal, end_among, end_or}
use Rattle.grs_legal.specs.Legal.{entries_of, is_of_line, last_entry, lets_pass, line_entries}
use Rattle.grs_legal.specs.declared.meaning.Meaning.{Meaning}
use Rattle.grs_track.specs.Track.{Track, track_of, waited_for, waits_behind, waits_behind_last}
use Rattle.grs_track.specs.Track.{ask_next, passed_next, is_free, may_go_on, entry_for, entry_next}
use Rattle.grs_track.specs.Tracks.{TracksView, removed_by, removed_in, IsBehind, is_removed, next_in, next_of}
use Rattle.grs_track.specs.Tracks.{may_remove, next_removal, next_like, MayCome, StandsByTracks, NextIsOwn}
use Rattle.grs_track.specs.Tracks.{track_after, LongerByTracks, BeginsByTracks}

-- ---- tests
both : (a b : Bool) → a ≡ true → b ≡ true → (a && b) ≡ true
both true b e f = f
both false b e f = e

first_of : (a b : Bool) → (a && b) ≡ true → a ≡ true
first_of true b e = refl
first_of false b e = e

second_of : (a b : Bool) → (a && b) ≡ true → b ≡ true
second_of true b e = e
second_of false b e = absurd (cc)

denied : (a : Bool) → not a ≡ true → a ≡ false
denied true e = sym e
denied false e = refl

allowed : (a : Bool) → a ≡ false → not a ≡ true
allowed true e = sym e
allowed false e = refl

-- ---- who was removed
pub removed-in : (hist : List HistEntry) (s : SysId) → is_removed (removed_in hist) s ≡ list_any (removes s) hist
removed-in [] s = refl
removed-in (Enq t r c ret code ∷ hist) s = removed-in hist s
removed-in (Deq t r have code ∷ hist) s = removed-in hist s
removed-in (Release t r ∷ hist) s = removed-in hist s
removed-in (Look t place filter rows ∷ hist) s = removed-in hist s
removed-in (Remove by target ∷ hist) s = ap (λ b. (s.0 == target.0) || b) (removed-in hist s)

-- ---- who waits
module _ (s : State) (t : TaskId) where
  waits-code : (c : Code) (r : Res) → (c ≡ codes.Wait → owns (list_of s r) t ≡ true)
      → is_free s t (waited_for c r) ≡ true
  waits-code codes.Wait r f = f refl
  waits-code codes.C00 r f = refl
  waits-code codes.C04 r f = refl
  waits-code codes.C08 r f = refl
  waits-code codes.C14 r f = refl
  waits-code codes.C18 r f = refl
  waits-code (codes.End n) r f = refl

  code-waits : (c : Code) (r : Res) → is_free s t (waited_for c r) ≡ true → c ≡ codes.Wait
      → owns (list_of s r) t ≡ true
  code-waits codes.Wait r f e = f
  code-waits codes.C00 r f e = absurd (cc)
  code-waits codes.C04 r f e = absurd (cc)
  code-waits codes.C08 r f e = absurd (cc)
  code-waits codes.C14 r f e = absurd (cc)
  code-waits codes.C18 r f e = absurd (cc)
  code-waits (codes.End n) r f e = absurd (cc)

  free-last : (o : Option HistEntry) → IfSome o (HasControl s t) → is_free s t (waits_behind_last o) ≡ true
  free-last None h = refl
  free-last (Some (Enq u r c ret code)) h = waits-code code r h
  free-last (Some (Deq u r have code)) h = waits-code code r h
  free-last (Some (Release u r)) h = refl
  free-last (Some (Look u place filter rows)) h = refl
  free-last (Some (Remove by target)) h = refl

  last-free : (o : Option HistEntry) → is_free s t (waits_behind_last o) ≡ true → IfSome o (HasControl s t)
  last-free None h = tt
  last-free (Some (Enq u r c ret code)) h = code-waits code r h
  last-free (Some (Deq u r have code)) h = code-waits code r h
  last-free (Some (Release u r)) h = λ e. absurd (cc)
  last-free (Some (Look u place filter rows)) h = λ e. absurd (cc)
  last-free (Some (Remove by target)) h = λ e. absurd (cc)

-- ---- one task
module _ (limit : ℕ) (hist : List HistEntry) (t : TaskId) where
  -- what is legal is what comes next
  legal-next : (ls : List Meaning) (h : HistEntry) → IsLegal limit t ls hist h
      → option_map (entry_for limit (replay limit hist) t) (ask_in h) ≡ Some h
      → entry_next limit (replay limit hist) t ls (track_of t hist) ≡ Some h
  legal-next ls h l made =
      let goes : may_go_on (replay limit hist) t ls (track_of t hist) ≡ true =
      both (is_free (replay limit hist) t (track_of t hist).waits)
      (list_all (lets_pass (replay limit hist) t) (passed_next ls (track_of t hist)))
      (free-last (replay limit hist) t (last_entry (entries_of t hist)) l.waited) l.passed in
      ap (λ b. cond b (option_map (entry_for limit (replay limit hist) t)
      (ask_next (replay limit hist) t ls (track_of t hist))) None) goes
      ∙ ap (option_map (entry_for limit (replay limit hist) t)) l.next
      ∙ made

  -- what is made of an ask asks that, with the reply of the lists
  made-asks : (a : Ask) → ask_in (entry_for limit (replay limit hist) t a) ≡ Some a
  made-asks (AsksEnq r c ret) = refl
  made-asks (AsksDeq r have) = refl
  made-asks (AsksRelease r) = refl
  made-asks (AsksLook place filter) = refl

  made-reply : (a : Ask) → answer_of (entry_for limit (replay limit hist) t a)
      ≡ reply_of limit (replay limit hist) (entry_for limit (replay limit hist) t a)
  made-reply (AsksEnq r c ret) = refl
  made-reply (AsksDeq r have) = refl
  made-reply (AsksRelease r) = refl
  made-reply (AsksLook place filter) = refl

  -- what comes next is legal
  next-legal : (ls : List Meaning) (h : HistEntry) → list_any (removes t.system) hist ≡ false
      → entry_next limit (replay limit hist) t ls (track_of t hist) ≡ Some h → IsLegal limit t ls hist h
  next-legal ls h live e =
      by_test (may_go_on (replay limit hist) t ls (track_of t hist)) refl
      (ask_next (replay limit hist) t ls (track_of t hist)) refl e
    where
      by_test : (b : Bool) → may_go_on (replay limit hist) t ls (track_of t hist) ≡ b → (o : Option Ask)
          → ask_next (replay limit hist) t ls (track_of t hist) ≡ o
          → cond b (option_map (entry_for limit (replay limit hist) t) o) None ≡ Some h → IsLegal limit t ls hist h
      by_test false goes o asks f = absurd (cc)
      by_test true goes None asks f = absurd (cc)
      by_test true goes (Some a) asks f =
          let same : entry_for limit (replay limit hist) t a ≡ h = cc in
          record {
            reply =
                subst (λ x. answer_of x ≡ reply_of limit (replay limit hist) x) same (made-reply a);
            live = live;
            next = asks ∙ sym (made-asks a) ∙ ap ask_in same;
            waited =
                last-free (replay limit hist) t (last_entry (entries_of t hist))
                (first_of (is_free (replay limit hist) t (track_of t hist).waits)
                (list_all (lets_pass (replay limit hist) t) (passed_next ls (track_of t hist))) goes);
            passed =
                second_of (is_free (replay limit hist) t (track_of t hist).waits)
                (list_all (lets_pass (replay limit hist) t) (passed_next ls (track_of t hist))) goes;
          }

  -- the same by the lines that the deck has of the task
  abbrev next_behind : Option (List Meaning) → Option HistEntry
  next_behind o =
      cond (is_removed (removed_in hist) t.system) None (next_in limit (replay limit hist) t (track_of t hist) o)

  asks-next : (o : Option (List Meaning)) (h : HistEntry) → IsSomeAnd o (λ ls. IsLegal limit t ls hist h)
      → (answer_of h ≡ reply_of limit (replay limit hist) h
      → option_map (entry_for limit (replay limit hist) t) (ask_in h) ≡ Some h)
      → next_behind o ≡ Some h
  asks-next None h l made = absurd l
  asks-next (Some ls) h l made =
      ap (λ b. cond b None (entry_next limit (replay limit hist) t ls (track_of t hist)))
      (removed-in hist t.system ∙ l.live)
      ∙ legal-next ls h l (made l.reply)

  next-asks : (o : Option (List Meaning)) (h : HistEntry) → next_behind o ≡ Some h
      → IsSomeAnd o (λ ls. IsLegal limit t ls hist h)
  next-asks o h e = by_test (is_removed (removed_in hist) t.system) refl o e
    where
      by_test : (b : Bool) → is_removed (removed_in hist) t.system ≡ b → (o : Option (List Meaning))
          → cond b None (next_in limit (replay limit hist) t (track_of t hist) o) ≡ Some h
          → IsSomeAnd o (λ ls. IsLegal limit t ls hist h)
      by_test true gone o f = absurd (cc)
      by_test false live None f = absurd (cc)
      by_test false live (Some ls) f = next-legal ls h (sym (removed-in hist t.system) ∙ live) f

-- ---- all that is kept
module _ (hist : List HistEntry) (v : TracksView) (k : IsBehind hist v) where
  next-behind : (t : TaskId) → next_of v t ≡ next_behind v.deck.limit hist t (lines_of v.deck t)
  next-behind t =
      ap (λ x. cond (is_removed x t.system) None (next_in v.deck.limit v.lists t (v.tracks t) (lines_of v.deck t)))
      k.removed
      ∙ ap (λ x. cond (is_removed (removed_in hist) t.system) None
      (next_in v.deck.limit x t (v.tracks t) (lines_of v.deck t))) k.lists
      ∙ ap (λ x. cond (is_removed (removed_in hist) t.system) None
      (next_in v.deck.limit (replay v.deck.limit hist) t x (lines_of v.deck t))) (k.tracks t)

  removed-behind : (s : SysId) → is_removed v.removed s ≡ list_any (removes s) hist
  removed-behind s = ap (λ x. is_removed x s) k.removed ∙ removed-in hist s

  other-test : (a b : ℕ) → a ≢ b → not (a == b) ≡ true
  other-test a b d = go (a == b) refl
    where
      go : (c : Bool) → (a == b) ≡ c → not c ≡ true
      go true e = absurd (d (eqb-true a b e))
      go false e = refl

  test-other : (a b : ℕ) → not (a == b) ≡ true → a ≢ b
  test-other a b e same = let f : false ≡ true = sym (ap not (eq-eqb a b same)) ∙ e in absurd (cc)

  removal-comes : (by target : SysId) → MayRemove v.deck hist by target → may_remove v by target ≡ true
  removal-comes by target m =
      both (not (is_removed v.removed by) && not (is_removed v.removed target))
      (not (target.0 == by.0) && commands_removal target (slice_get v.deck.systems by.0))
      (both (not (is_removed v.removed by)) (not (is_removed v.removed target))
      (allowed (is_removed v.removed by) (removed-behind by ∙ m.live))
      (allowed (is_removed v.removed target) (removed-behind target ∙ m.first)))
      (both (not (target.0 == by.0)) (commands_removal target (slice_get v.deck.systems by.0))
      (other-test target.0 by.0 m.other) m.commanded)

  comes-removal : (by target : SysId) → may_remove v by target ≡ true → MayRemove v.deck hist by target
  comes-removal by target e =
      let l =
      first_of (not (is_removed v.removed by) && not (is_removed v.removed target))
      (not (target.0 == by.0) && commands_removal target (slice_get v.deck.systems by.0)) e in
      let r =
      second_of (not (is_removed v.removed by) && not (is_removed v.removed target))
      (not (target.0 == by.0) && commands_removal target (slice_get v.deck.systems by.0)) e in
      record {
        live =
            sym (removed-behind by)
            ∙ denied (is_removed v.removed by)
            (first_of (not (is_removed v.removed by)) (not (is_removed v.removed target)) l);
        first =
            sym (removed-behind target)
            ∙ denied (is_removed v.removed target)
            (second_of (not (is_removed v.removed by)) (not (is_removed v.removed target)) l);
        other =
            test-other target.0 by.0
            (first_of (not (target.0 == by.0)) (commands_removal target (slice_get v.deck.systems by.0)) r);
        commanded =
            second_of (not (target.0 == by.0)) (commands_removal target (slice_get v.deck.systems by.0)) r;
      }

  removal-stands : (by target : SysId) → next_removal v by target ≡ Some (Remove by target)
      → may_remove v by target ≡ true
  removal-stands by target e = go (may_remove v by target) e
    where
      go : (b : Bool) → cond b (Some (Remove by target)) None ≡ Some (Remove by target) → b ≡ true
      go true f = refl
      go false f = absurd (cc)

  comes : (h : HistEntry) → MayStand v.deck hist h → MayCome v h
  comes (Enq t r c ret code) m =
      next-behind t
      ∙ asks-next v.deck.limit hist t (lines_of v.deck t) (Enq t r c ret code) m
      (λ e. let same : enq_code (replay v.deck.limit hist) r t c ret (is_full v.deck.limit (replay v.deck.limit hist) t)
      ≡ code = cc in ap (λ x. Some (Enq t r c ret x)) same)
  comes (Deq t r have code) m =
      next-behind t
      ∙ asks-next v.deck.limit hist t (lines_of v.deck t) (Deq t r have code) m
      (λ e. let same : deq_reply (replay v.deck.limit hist) r t have ≡ code = cc in
      ap (λ x. Some (Deq t r have x)) same)
  comes (Release t r) m =
      next-behind t ∙ asks-next v.deck.limit hist t (lines_of v.deck t) (Release t r) m (λ e. refl)
  comes (Look t place filter rows) m =
      next-behind t
      ∙ asks-next v.deck.limit hist t (lines_of v.deck t) (Look t place filter rows) m
      (λ e. let same : look (replay v.deck.limit hist) place filter ≡ rows = cc in
      ap (λ x. Some (Look t place filter x)) same)
  comes (Remove by target) m =
      ap (λ b. cond b (Some (Remove by target)) None) (removal-comes by target m)

  stands : (h : HistEntry) → MayCome v h → MayStand v.deck hist h
  stands (Enq t r c ret code) m =
      next-asks v.deck.limit hist t (lines_of v.deck t) (Enq t r c ret code) (sym (next-behind t) ∙ m)
  stands (Deq t r have code) m =
      next-asks v.deck.limit hist t (lines_of v.deck t) (Deq t r have code) (sym (next-behind t) ∙ m)
  stands (Release t r) m =
      next-asks v.deck.limit hist t (lines_of v.deck t) (Release t r) (sym (next-behind t) ∙ m)
  stands (Look t place filter rows) m =
      next-asks v.deck.limit hist t (lines_of v.deck t) (Look t place filter rows) (sym (next-behind t) ∙ m)
  stands (Remove by target) m = comes-removal by target (removal-stands by target m)

pub stands_by_tracks : StandsByTracks
stands_by_tracks hist v h k = (comes hist v k h, stands hist v k h)

-- ---- what a task may ask next is its own
module _ (v : TracksView) (t : TaskId) where
  own-entry : (a : Ask)
      → (is_by t (entry_for v.deck.limit v.lists t a) ≡ true)
      × (next_like v (entry_for v.deck.limit v.lists t a) ≡ next_of v t)
  own-entry (AsksEnq r c ret) = (same_task-itself t, refl)
  own-entry (AsksDeq r have) = (same_task-itself t, refl)
  own-entry (AsksRelease r) = (same_task-itself t, refl)
  own-entry (AsksLook place filter) = (same_task-itself t, refl)

  own-made : (a : Ask) (h : HistEntry) → next_of v t ≡ Some h → entry_for v.deck.limit v.lists t a ≡ h
      → (is_by t h ≡ true) × MayCome v h
  own-made a h e same =
      subst (λ x. (is_by t x ≡ true) × (next_like v x ≡ Some h)) same
      ((own-entry a).0, (own-entry a).1 ∙ e)

  own-next : (gone : Bool) (o : Option (List Meaning)) (h : HistEntry) → next_of v t ≡ Some h
      → cond gone None (next_in v.deck.limit v.lists t (v.tracks t) o) ≡ Some h → (is_by t h ≡ true) × MayCome v h
  own-next true o h e f = absurd (cc)
  own-next false None h e f = absurd (cc)
  own-next false (Some ls) h e f =
      by_test (may_go_on v.lists t ls (v.tracks t)) (ask_next v.lists t ls (v.tracks t)) f
    where
      by_test : (b : Bool) (o : Option Ask) → cond b (option_map (entry_for v.deck.limit v.lists t) o) None ≡ Some h
          → (is_by t h ≡ true) × MayCome v h
      by_test false o g = absurd (cc)
      by_test true None g = absurd (cc)
      by_test true (Some a) g = own-made a h e (cc)

pub next_is_own : NextIsOwn
next_is_own v t h e = own-next v t (is_removed v.removed t.system) (lines_of v.deck t) h e e

-- ---- one more entry
last-push : (xs : List HistEntry) (h : HistEntry) → last_entry (xs ++ h ∷ []) ≡ Some h
last-push [] h = refl
last-push (x ∷ []) h = refl
last-push (x ∷ y ∷ ys) h = last-push (y ∷ ys) h

end-push : (xs : List HistEntry) (h : HistEntry)
    → is_some (end_among (xs ++ h ∷ [])) ≡ (is_some (end_among xs) || is_some (end_or (code_of h) None))
end-push [] h = refl
end-push (x ∷ xs) h = by_code (code_of x) (end-push xs h)
  where
    by_code : (c : Code)
        → is_some (end_among (xs ++ h ∷ [])) ≡ (is_some (end_among xs) || is_some (end_or (code_of h) None))
        → is_some (end_or c (end_among (xs ++ h ∷ [])))
        ≡ (is_some (end_or c (end_among xs)) || is_some (end_or (code_of h) None))
    by_code (codes.End n) e = refl
    by_code codes.C00 e = e
    by_code codes.C04 e = e
    by_code codes.C08 e = e
    by_code codes.C14 e = e
    by_code codes.C18 e = e
    by_code codes.Wait e = e

length-push : {X : Type 0} (xs : List X) (x : X) → length (xs ++ x ∷ []) ≡ suc (length xs)
length-push [] x = refl
length-push (y ∷ xs) x = ap suc (length-push xs x)

append-none : {X : Type 0} (xs : List X) → xs ++ [] ≡ xs
append-none [] = refl
append-none (x ∷ xs) = ap (λ ys. x ∷ ys) (append-none xs)

or-none : (b : Bool) → (b || false) ≡ b
or-none true = refl
or-none false = refl

same_track : (k k' : Track) → k.asked ≡ k'.asked → k.ended ≡ k'.ended → k.waits ≡ k'.waits → k ≡ k'
same_track k k' a e w =
    ap (λ x. record { asked = x; ended = k.ended; waits = k.waits }) a
    ∙ ap (λ x. record { asked = k'.asked; ended = x; waits = k.waits }) e
    ∙ ap (λ x. record { asked = k'.asked; ended = k'.ended; waits = x }) w

module _ (t : TaskId) (hist : List HistEntry) (h : HistEntry) where
  -- what the entries of its lines come to, and all its entries
  abbrev with_lines : List HistEntry → List HistEntry → Track
  with_lines asked all = record {
    asked = length asked;
    ended = is_some (end_among asked);
    waits = waits_behind_last (last_entry all);
  }

  grown : (b l : Bool)
      → cond b (record {
        asked = cond l (suc (track_of t hist).asked) (track_of t hist).asked;
        ended = (track_of t hist).ended || (l && is_some (end_or (code_of h) None));
        waits = waits_behind h;
      }) (track_of t hist)
      ≡ with_lines (line_entries t hist ++ cond (b && l) (h ∷ []) []) (entries_of t hist ++ cond b (h ∷ []) [])
  grown false l =
      sym (ap (λ xs. with_lines xs (entries_of t hist ++ [])) (append-none (line_entries t hist))
      ∙ ap (with_lines (line_entries t hist)) (append-none (entries_of t hist)))
  grown true true =
      same_track
      (record {
        asked = suc (track_of t hist).asked;
        ended = (track_of t hist).ended || is_some (end_or (code_of h) None);
        waits = waits_behind h;
      })
      (with_lines (line_entries t hist ++ h ∷ []) (entries_of t hist ++ h ∷ []))
      (sym (length-push (line_entries t hist) h)) (sym (end-push (line_entries t hist) h))
      (sym (ap waits_behind_last (last-push (entries_of t hist) h)))
  grown true false =
      same_track
      (record {
        asked = (track_of t hist).asked;
        ended = (track_of t hist).ended || false;
        waits = waits_behind h;
      })
      (with_lines (line_entries t hist ++ []) (entries_of t hist ++ h ∷ []))
      (sym (ap length (append-none (line_entries t hist))))
      (or-none (is_some (end_among (line_entries t hist)))
      ∙ sym (ap (λ xs. is_some (end_among xs)) (append-none (line_entries t hist))))
      (sym (ap waits_behind_last (last-push (entries_of t hist) h)))

  pub track-push : track_after t (track_of t hist) h ≡ track_of t (hist ++ h ∷ [])
  track-push =
      grown (is_by t h) (is_of_line h)
      ∙ sym (ap (λ xs. with_lines xs (entries_of t (hist ++ h ∷ [])))
      (filter-append (λ x. is_by t x && is_of_line x) hist (h ∷ []))
      ∙ ap (with_lines (line_entries t hist ++ cond (is_by t h && is_of_line h) (h ∷ []) []))
      (filter-append (is_by t) hist (h ∷ [])))

removed-one : (h : HistEntry) → flat_map removed_by (h ∷ []) ≡ removed_by h
removed-one h = append-none (removed_by h)

pub longer_by_tracks : LongerByTracks
longer_by_tracks hist v v' h k g = record {
  lists =
      g.lists
      ∙ ap (λ s. step v.deck.limit s h) k.lists
      ∙ sym (replay_from-append v.deck.limit [] hist (h ∷ []))
      ∙ ap (λ d. replay d.limit (hist ++ h ∷ [])) (sym g.deck);
  removed =
      g.removed
      ∙ ap (λ x. x ++ removed_by h) k.removed
      ∙ ap (λ x. removed_in hist ++ x) (sym (removed-one h))
      ∙ sym (flat_map-append removed_by hist (h ∷ []));
  tracks = λ t. g.tracks t ∙ ap (λ x. track_after t x h) (k.tracks t) ∙ track-push t hist h;
}

pub begins_by_tracks : BeginsByTracks
begins_by_tracks v lists removed tracks = record { lists = lists; removed = removed; tracks = tracks }
