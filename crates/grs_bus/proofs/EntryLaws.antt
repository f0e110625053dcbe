-- A medium to which a journal leads has an inbox for each system, and its lock words name these as managers; so a call
-- is entered exactly where the medium differs, or its reply is acted on.
use Rattle.std.proofs.Common.{◌≡◌, ◌⊎◌, ◌<◌, ◌≤◌, ℕ, Bool, true, false, cond, ◌||◌, List, [], ◌∷◌, length, inl, inr}
use Rattle.std.proofs.Common.{refl, sym, ◌∙◌, subst, replicate}
use Rattle.std.specs.Prelude.{◌==◌, Option, Some, None}
use Rattle.std.specs.List.{All, list_all}
use Rattle.std.proofs.lemmas.List.{length-set, length-replicate}
use Rattle.grs_base.specs.Limits.{most_systems}
use Rattle.grs_base.specs.declared.resource.SysId.{SysId}
use Rattle.grs_wire.specs.LockWords.{leave_changes, leave_reply}
use Rattle.grs_wire.specs.Masks.{has}
use Rattle.grs_wire.specs.Unseen.{unseen}
use Rattle.grs_wire.specs.declared.medium.Act.{Act}
use Rattle.grs_wire.specs.declared.medium.Act.TheVariants as acts
use Rattle.grs_wire.specs.declared.medium.Call.{Call}
use Rattle.grs_wire.specs.declared.medium.JEntry.{JEntry}
use Rattle.grs_wire.specs.declared.medium.Mail.{Mail}
use Rattle.grs_wire.specs.declared.medium.Reply.{Reply}
use Rattle.grs_wire.specs.declared.medium.Reply.TheVariants.{Already, Purged, NoSuch, Stale, Removed}
use Rattle.grs_wire.specs.declared.request.Req.{Req}
use Rattle.lock_structure.proofs.WordLaws.{below-left_words, below-replicate, below-submitted_words}
use Rattle.lock_structure.proofs.Within.{below-purged_words, within-left_words, within-purged_words, within-replicate}
use Rattle.lock_structure.proofs.Within.{within-submitted_words, within-words}
use Rattle.lock_structure.specs.Words.{ManagerIsBelow, MaskIsBelow, left_words, route, word_fits}
use Rattle.lock_structure.specs.declared.word.Route.{Route}
use Rattle.lock_structure.specs.declared.word.Route.TheVariants as routes
use Rattle.rsa_message.specs.Message.{first_number}
use Rattle.grs_medium.proofs.ChangeLaws.{changes_what_it_says}
use Rattle.grs_medium.proofs.Differs.{names_there}
use Rattle.grs_medium.proofs.KeepLaws.{leaves_the_rest}
use Rattle.grs_medium.proofs.KeptSizes.{keeps_systems}
use Rattle.grs_medium.proofs.SpaceLaws.{length-posted}
use Rattle.grs_medium.proofs.SwitchLaws.{words-below}
use Rattle.grs_medium.specs.Apply.{ActFits, MayCall, apply, changes, is_live, is_noticed, joined, leave_row, mail_row}
use Rattle.grs_medium.specs.Apply.{manages, medium_after, moved_by, notice_reply, purge_row, reply_to, rest_row, row}
use Rattle.grs_medium.specs.Apply.{submit_on, submit_row, switch_ring, switch_row, take_from, take_row, turn_row}
use Rattle.grs_medium.specs.Apply.{without_in_star, without_system, without_target}
use Rattle.grs_medium.specs.Inboxes.{emptied}
use Rattle.grs_medium.specs.Medium.{MediumState, awake, first_medium, inbox, systems_of, word}
use Rattle.grs_bus.specs.Entered.{EntersJustThese, IsEnteredJust}
use Rattle.grs_bus.specs.Journal.{AreRight, after_all, is_acted_on, is_entered}

-- so many inboxes, and lock words that name systems below that number alone
abbrev Names : ℕ → MediumState → Type 0
Names n m = (length m.inboxes ≡ n) × (All (ManagerIsBelow n) m.words × All (MaskIsBelow n) m.words)

either : (n : ℕ) (b : Bool) (x y : MediumState) → Names n x → Names n y → Names n (cond b x y)
either n true x y p q = p
either n false x y p q = q

module _ (m : MediumState) (few : systems_of m ≤ most_systems) (h : Names (systems_of m) m) where
  turns : (c : SysId) (out : List Req) → Names (systems_of m) (turn_row m c out).1
  unfolding turn_row
  turns c out = h

  switches : (c : SysId) (words : List ℕ) → list_all (word_fits (systems_of m)) words ≡ true
      → Names (systems_of m) (switch_row m c words).1
  unfolding switch_row
  switches c words fits = go m.star (first_number (unseen c m.message.entries))
    where
      go : (b : Bool) (o : Option ℕ)
          → Names (systems_of m) (cond {A = Reply × MediumState} b (Already, m) (switch_ring m c words o)).1
      go true o = h
      go false None = (h.0, (words-below (systems_of m) words fits, within-words (systems_of m) words fits))
      go false (Some k) = h

  joins : (c : SysId) (e : ℕ) → c.0 < systems_of m → e < length m.words → Names (systems_of m) (joined m c e)
  joins c e here inside =
      either (systems_of m) (manages m c e) m _ h (
        h.0,
        (
          below-submitted_words (systems_of m) m.words e c few here inside h.1.0,
          within-submitted_words (systems_of m) m.words e c few here inside h.1.1,
        ),
      )

  submits : (c : SysId) (e : ℕ) (q : Req) → c.0 < systems_of m → e < length m.words
      → Names (systems_of m) (submit_row m c e q).1
  unfolding submit_row
  submits c e q here inside = by_notice (is_noticed m c e)
    where
      go : (r : Route) → Names (systems_of m) (submit_on m c e q r).1
      go routes.Sole = joins c e here inside
      go (routes.To s) = (length-set m.inboxes s.0 _ ∙ h.0, (joins c e here inside).1)

      by_notice : (b : Bool)
          → Names (systems_of m)
          (cond {A = Reply × MediumState} b (notice_reply m c e, m) (submit_on m c e q (route (word m e) c))).1
      by_notice true = h
      by_notice false = go (route (word m e) c)

  takes : (c : SysId) → Names (systems_of m) (take_row m c).1
  unfolding take_row
  takes c = go (inbox m c.0)
    where
      go : (mails : List Mail) → Names (systems_of m) (take_from m c mails).1
      go [] = h
      go (mail ∷ rest) = (length-set m.inboxes c.0 _ ∙ h.0, h.1)

  mails : (reply : Reply) (c to : SysId) (mail : Mail) → Names (systems_of m) (mail_row reply m c to mail).1
  unfolding mail_row
  mails reply c to mail = (length-set m.inboxes to.0 _ ∙ h.0, h.1)

  leaves : (c : SysId) (e : ℕ) → e < length m.words → Names (systems_of m) (leave_row m c e).1
  unfolding leave_row
  leaves c e inside = by_notice (is_noticed m c e)
    where
      left : MediumState
      left = cond (leave_changes (word m e) c) (record m { words = left_words m.words e c; rest = awake m c }) m

      by_notice : (b : Bool)
          → Names (systems_of m)
          (cond {A = Reply × MediumState} b (notice_reply m c e, m) (leave_reply (word m e) c, left)).1
      by_notice true = h
      by_notice false =
          either (systems_of m) (leave_changes (word m e) c) _ m (
            h.0,
            (
              below-left_words (systems_of m) m.words e c few inside h.1.0,
              within-left_words (systems_of m) m.words e c inside h.1.1,
            ),
          )
          h

  purges : (c t : SysId) → Names (systems_of m) (purge_row m c t).1
  unfolding purge_row
  purges c t = go (is_live m t)
    where
      departs : Names (systems_of m) (without_in_star m t)
      departs = (
        length-posted t (moved_by m.words (systems_of m) t) (emptied m.inboxes t.0)
            ∙ (length-set m.inboxes t.0 [] ∙ h.0),
        (
          below-purged_words (systems_of m) m.words t h.1.1 h.1.0,
          within-purged_words (systems_of m) m.words t h.1.1,
        ),
      )

      go : (b : Bool)
          → Names (systems_of m) (cond {A = Reply × MediumState} b (Purged, without_target m c t) (NoSuch, m)).1
      go true = either (systems_of m) m.star (without_in_star m t) (without_system m c t) departs h
      go false = h

  rows : (c : SysId) (act : Act) → c.0 < systems_of m → ActFits m c act → Names (systems_of m) (row m c act).1
  unfolding row rest_row
  rows c (acts.Turn out) here fits = turns c out
  rows c (acts.Switch words) here fits = switches c words fits.1
  rows c (acts.Submit e q) here fits = submits c e q here fits
  rows c acts.Take here fits = takes c
  rows c (acts.Settle to mail) here fits = mails _ c to mail
  rows c (acts.Tell to mail) here fits = mails _ c to mail
  rows c (acts.Leave e) here fits = leaves c e fits
  rows c (acts.Purge t) here fits = purges c t
  rows c acts.Rest here fits = h

  calls : (c : SysId) (call : Call) → MayCall m c call → Names (systems_of m) (medium_after m c call)
  unfolding apply
  calls c call may = go (has m.removed c.0) (call.known == m.removed)
    where
      go : (b d : Bool)
          → Names (systems_of m)
          (cond {A = Reply × MediumState} b (Removed, m) (cond d (row m c call.act) (Stale m.removed, m))).1
      go true d = h
      go false true = rows c call.act may.0 may.1
      go false false = h

-- behind any journal
abbrev IsWhole : MediumState → Type 0
IsWhole m = (systems_of m ≤ most_systems) × Names (systems_of m) m

behind : (m : MediumState) (journal : List JEntry) → AreRight m journal → IsWhole m → IsWhole (after_all m journal)
behind m [] right h = h
behind m (e ∷ es) right h =
    let may = right.0.0 in
    let same = keeps_systems m e.system e.call may.1 in
    behind (medium_after m e.system e.call) es right.1 (
      subst (λ (k : ℕ). k ≤ most_systems) (sym same) h.0,
      subst (λ (k : ℕ). Names k (medium_after m e.system e.call)) (sym same) (calls m h.0 h.1 e.system e.call may),
    )

first_words : (systems entries : ℕ)
    → All (ManagerIsBelow systems) (replicate entries 0) × All (MaskIsBelow systems) (replicate entries 0)
first_words systems entries = (below-replicate systems entries, within-replicate systems entries)

at_first : (systems entries : ℕ) (star : Bool) → systems ≤ most_systems → IsWhole (first_medium systems entries star)
at_first systems entries true few = (few, (length-replicate systems [], first_words systems entries))
at_first systems entries false few = (few, (length-replicate systems [], first_words systems entries))

-- a call of such a medium
just : (m : MediumState) → IsWhole m → (c : SysId) (call : Call) → MayCall m c call → IsEnteredJust m c call
unfolding is_entered
just m h c call may = by_test (changes m c call) refl (is_acted_on (reply_to m c call)) refl
  where
    by_test : (b : Bool) → changes m c call ≡ b → (d : Bool) → is_acted_on (reply_to m c call) ≡ d
        → (b || d ≡ true → (¬ (medium_after m c call ≡ m)) ⊎ (d ≡ true))
        × (b || d ≡ false → (medium_after m c call ≡ m) × (d ≡ false))
    by_test true is d acted = (
      λ yes. inl (changes_what_it_says m c call (names_there m c call.act h.1.0 h.1.1.0 may.1) is),
      λ no. absurd (cc),
    )
    by_test false is true acted = (λ yes. inr refl, λ no. absurd (cc))
    by_test false is false acted = (λ yes. absurd (cc), λ no. (leaves_the_rest m c call is, refl))

pub enters_just_these : EntersJustThese
enters_just_these systems entries star journal few right c call may =
    just (after_all (first_medium systems entries star) journal)
    (behind (first_medium systems entries star) journal right (at_first systems entries star few)) c call may
