-- What a task asks next, by what holds it and where it stands in its lines.
use Rattle.std.proofs.Common.{◌≡◌, ℕ, Bool, true, false, cond, ◌&&◌, List, [], Option, Some, None, refl, ap, sym, ◌∙◌}
use Rattle.std.specs.Prelude.{slice_get}
use Rattle.std.specs.List.{list_all}
use Rattle.std.specs.Option.{option_or, option_map}
use Rattle.grs_base.proofs.ListLaws.{is_owner-standing}
use Rattle.grs_base.specs.Lists.{owns, standing_of, is_owner, deq_code}
use Rattle.grs_base.specs.State.{State, queued_by}
use Rattle.grs_base.specs.declared.decision.Standing.{Standing}
use Rattle.grs_base.specs.declared.decision.Standing.TheVariants.{Exclusive, OnlyShared, AmongShared, Waits, Absent}
use Rattle.grs_base.specs.declared.resource.Elem.{Elem}
use Rattle.grs_base.specs.declared.resource.TaskId.{TaskId}
use Rattle.std.specs.Map.{lookup}
use Rattle.grs_base.specs.Same.{same_task}
use Rattle.grs_base.proofs.SameLaws.{same_task-exact, same_task-itself}
use Rattle.grs_base.specs.declared.line.Line.{Line}
use Rattle.grs_base.specs.declared.rnl.Lists.{Lists}
use Rattle.grs_legal.specs.Asks.{Ask, AsksRelease, asks_of, scripts_of, lines_in, lines_of, meanings}
use Rattle.grs_legal.specs.Legal.{lets_pass, passed_behind}
use Rattle.grs_legal.specs.declared.meaning.Meaning.{Meaning}
use Rattle.grs_wire.specs.declared.history.HistEntry.{HistEntry}
use Rattle.grs_track.specs.Track.{Track, Kept, track_in, track_behind, is_free, entry_for, entry_next}
use Rattle.grs_track.specs.Tracks.{TracksView, is_removed, next_in, next_of}
use Rattle.grs_track.specs.Walk.{is_granted, passes, meant}

-- who would be answered 00 owns, and nobody else
granted-code : (x : Standing) → is_owner x ≡ is_granted (deq_code x true)
granted-code Exclusive = refl
granted-code OnlyShared = refl
granted-code AmongShared = refl
granted-code Waits = refl
granted-code Absent = refl

pub granted-standing : (es : List Elem) (t : TaskId) → owns es t ≡ is_granted (deq_code (standing_of es t) true)
granted-standing es t = sym (is_owner-standing es t) ∙ granted-code (standing_of es t)

module _ (limit : ℕ) (s : State) (t : TaskId) (ls : List Meaning) (k : Track) where
  -- the release of what it has had longest
  abbrev pub release_next : Option HistEntry
  release_next = option_map (entry_for limit s t) (option_map AsksRelease (slice_get (queued_by s t) 0))

  -- by whether it was ended, and whether it owns what it waits for
  abbrev by_parts : Bool → Bool → Option HistEntry
  by_parts ended free =
      cond (free && list_all (lets_pass s t) (cond ended [] (passed_behind k.asked ls)))
      (option_map (entry_for limit s t)
      (option_or (cond ended None (slice_get (asks_of ls) k.asked))
      (option_map AsksRelease (slice_get (queued_by s t) 0)))) None

  -- by whether its lines let it pass, and what they ask
  abbrev by_lines : Bool → Option Ask → Option HistEntry
  by_lines free asks =
      cond free (option_map (entry_for limit s t)
      (option_or asks (option_map AsksRelease (slice_get (queued_by s t) 0)))) None

  pub next-waits : is_free s t k.waits ≡ false → entry_next limit s t ls k ≡ None
  next-waits f = ap (by_parts k.ended) f

  pub next-ended : is_free s t k.waits ≡ true → k.ended ≡ true → entry_next limit s t ls k ≡ release_next
  next-ended f e = ap (by_parts k.ended) f ∙ ap (λ b. by_parts b true) e

  module _ (f : is_free s t k.waits ≡ true) (e : k.ended ≡ false) where
    going : entry_next limit s t ls k ≡ by_lines (passes s t ls k.asked) (slice_get (asks_of ls) k.asked)
    going = ap (by_parts k.ended) f ∙ ap (λ b. by_parts b true) e

    pub next-held : passes s t ls k.asked ≡ false → entry_next limit s t ls k ≡ None
    next-held p = going ∙ ap (λ b. by_lines b (slice_get (asks_of ls) k.asked)) p

    pub next-behind : passes s t ls k.asked ≡ true → slice_get (asks_of ls) k.asked ≡ None
        → entry_next limit s t ls k ≡ release_next
    next-behind p n = going ∙ ap (λ b. by_lines b (slice_get (asks_of ls) k.asked)) p ∙ ap (by_lines true) n

    pub next-asks : (h : HistEntry) → passes s t ls k.asked ≡ true
        → option_map (entry_for limit s t) (slice_get (asks_of ls) k.asked) ≡ Some h
        → entry_next limit s t ls k ≡ Some h
    next-asks h p made =
        going ∙ ap (λ b. by_lines b (slice_get (asks_of ls) k.asked)) p ∙ some (slice_get (asks_of ls) k.asked) made
      where
        some : (o : Option Ask) → option_map (entry_for limit s t) o ≡ Some h → by_lines true o ≡ Some h
        some None m = absurd (cc)
        some (Some a) m = m

-- what a task asks next whose system wasn't removed, by its lines in the deck
pub next-lines : (v : TracksView) (t : TaskId) (ls : List Line) (lists : Lists) (k : Track)
    → is_removed v.removed t.system ≡ false → Some ls ≡ lines_in (scripts_of v.deck t.system.0) t
    → lists ≡ v.deck.lists → k ≡ v.tracks t
    → next_of v t ≡ entry_next v.deck.limit v.lists t (meant lists t ls) k
next-lines v t ls lists k live has same kept =
    ap (λ b. cond b None (next_in v.deck.limit v.lists t (v.tracks t) (lines_of v.deck t))) live
    ∙ ap (λ o. next_in v.deck.limit v.lists t (v.tracks t) (meanings v.deck.lists t o)) (sym has)
    ∙ ap (λ x. entry_next v.deck.limit v.lists t (meant x t ls) (v.tracks t)) (sym same)
    ∙ ap (λ x. entry_next v.deck.limit v.lists t (meant lists t ls) x) (sym kept)

-- what is kept of all, where this was put there of one task
pub kept-put : (task t : TaskId) (h : HistEntry) (k : Kept) (es fs : List (TaskId × Kept))
    → k.track ≡ track_behind (track_in (lookup (same_task task) es)) h
    → lookup (same_task t) fs ≡ cond (same_task task t) (Some k) (lookup (same_task t) es)
    → track_in (lookup (same_task t) fs)
    ≡ cond (same_task t task) (track_behind (track_in (lookup (same_task t) es)) h) (track_in (lookup (same_task t) es))
kept-put task t h k es fs made put = by_test (same_task task t) refl
  where
    turned : (b : Bool) → same_task task t ≡ b → same_task t task ≡ b
    turned true e =
        ap (λ x. same_task t x) (same_task-exact task t e) ∙ same_task-itself t
    turned false e = go (same_task t task) refl
      where
        go : (b : Bool) → same_task t task ≡ b → b ≡ false
        go false f = refl
        go true f =
            let both : true ≡ false =
            sym (same_task-itself t) ∙ ap (λ x. same_task x t) (same_task-exact t task f) ∙ e in
            both

    by_test : (b : Bool) → same_task task t ≡ b
        → track_in (lookup (same_task t) fs)
        ≡ cond (same_task t task) (track_behind (track_in (lookup (same_task t) es)) h)
        (track_in (lookup (same_task t) es))
    by_test true e =
        ap track_in (put ∙ ap (λ b. cond b (Some k) (lookup (same_task t) es)) e)
        ∙ made
        ∙ ap (λ x. track_behind (track_in (lookup (same_task x) es)) h) (same_task-exact task t e)
        ∙ sym (ap (λ b. cond b (track_behind (track_in (lookup (same_task t) es)) h)
        (track_in (lookup (same_task t) es))) (turned true e))
    by_test false e =
        ap track_in (put ∙ ap (λ b. cond b (Some k) (lookup (same_task t) es)) e)
        ∙ sym (ap (λ b. cond b (track_behind (track_in (lookup (same_task t) es)) h)
        (track_in (lookup (same_task t) es))) (turned false e))
