-- When an event is answered what has to do with removals, and what a removal leaves of the history and of the lists.
use Rattle.grs_world.proofs.Common.{[], ◌++◌, ◌+◌, ◌∙◌, ◌∷◌, ◌≡◌, and_parts, ap, Bool, Call, call_at, call_in, cond}
use Rattle.grs_world.proofs.Common.{Deck, Event, false, filter, fixed_by, has, hist, history, is_live, is_systems}
use Rattle.grs_world.proofs.Common.{items, items-append, items_are_history, items_from, length, List, list_of, lists}
use Rattle.grs_world.proofs.Common.{nat_lt, ne_eqb, NodeState, None, not, not-true, Nothing, Option, owns, prepare}
use Rattle.grs_world.proofs.Common.{Prepared, Purged, Quiet, refl, remove_state, replay, reply_by, reply_to, run}
use Rattle.grs_world.proofs.Common.{same_Some, slice_get, Some, State, sym, SysId, true, World}
use Rattle.grs_world.specs.Removing.{IsAnswered, OthersStay, RemovalsAreEntries, RemovalsKeepOthers}
use Rattle.grs_base.specs.State.{is_of_other}
use Rattle.grs_wire.specs.History.{answered}
use Rattle.grs_wire.specs.declared.history.HistEntry.TheVariants.{Remove}
use Rattle.grs_wire.proofs.HistoryLaws.{replay_from-append}
use Rattle.grs_wire.proofs.RemoveLaws.{by_systems, list_of-remove, list_of-remove_other, owns-remove}
use Rattle.grs_known.proofs.known.Pasts.{history-append}
use Rattle.grs_world.specs.Fixing.{fixed_by_event, fixed_by_reply, fixed_more, when_purged}
use Rattle.grs_world.proofs.run.Fixing.{event_fixes}
use Rattle.grs_wire.specs.declared.medium.Reply.TheVariants as replies

-- ---- an event that is answered that a system was removed
module _ (deck : Deck) (es : List Event) (e : Event) (target : SysId)
    (is : IsAnswered deck es e target replies.Purged) where
  abbrev w : World
  w = run deck es

  by_prepared : (n : NodeState) (p : Prepared) → reply_by w.medium e.system (call_in p) ≡ Some replies.Purged
      → fixed_by_event deck w.medium e.system n e.choice p ≡ Purged target ∷ []
  by_prepared n Quiet h = absurd (cc)
  by_prepared n Nothing h = absurd (cc)
  by_prepared n (Call call) h =
      ap (fixed_by_reply n e.choice) (same_Some (reply_to w.medium e.system call) replies.Purged h)
      ∙ ap when_purged is.0

  by_node : (o : Option NodeState) → reply_by w.medium e.system (call_at deck w e o) ≡ Some replies.Purged
      → fixed_more deck w e (cond (has w.medium.removed e.system.0) None o) ≡ fixed_by e.system (Purged target ∷ [])
  by_node None h = absurd (cc)
  by_node (Some n) h = go (is_live w e.system) refl h
    where
      go : (b : Bool) → is_live w e.system ≡ b
          → reply_by w.medium e.system (cond b (call_in (prepare deck n e.choice)) None) ≡ Some replies.Purged
          → fixed_more deck w e (cond (has w.medium.removed e.system.0) None (Some n))
          ≡ fixed_by e.system (Purged target ∷ [])
      go false live k = absurd (cc)
      go true live k =
          let there : has w.medium.removed e.system.0 ≡ false =
          not-true _ (and_parts (nat_lt e.system.0 (length w.nodes)) (not (has w.medium.removed e.system.0)) live).1 in
          ap (λ b. fixed_more deck w e (cond b None (Some n))) there
          ∙ ap (fixed_by e.system) (by_prepared n (prepare deck n e.choice) k)

  fixed_now : (run deck (es ++ e ∷ [])).fixed ≡ w.fixed ++ fixed_by e.system (Purged target ∷ [])
  fixed_now =
      event_fixes deck es e ∙ ap (λ fs. w.fixed ++ fs) (by_node (slice_get w.nodes e.system.0) is.1)

  pub entry_now : hist deck (es ++ e ∷ []) ≡ hist deck es ++ Remove e.system target ∷ []
  entry_now =
      ap answered fixed_now ∙ (sym (items_are_history (w.fixed ++ fixed_by e.system (Purged target ∷ []))).0
      ∙ (ap history (items-append w.fixed (fixed_by e.system (Purged target ∷ [])))
      ∙ (history-append (items w.fixed) (items_from (lists (items w.fixed)) (fixed_by e.system (Purged target ∷ [])))
      ∙ ap (λ hs. hs ++ Remove e.system target ∷ []) (items_are_history w.fixed).0)))

  -- ---- the lists
  abbrev was : State
  was = replay deck.limit (hist deck es)

  lists_now : replay deck.limit (hist deck (es ++ e ∷ [])) ≡ remove_state was target.0
  lists_now =
      ap (replay deck.limit) entry_now ∙ replay_from-append deck.limit [] (hist deck es) (Remove e.system target ∷ [])

  pub others_stay : OthersStay deck es e target
  others_stay = record {
    lists = λ r.
        ap (λ s. list_of s r) lists_now
        ∙ by_systems r (list_of (remove_state was target.0) r
        ≡ cond (is_systems r) (filter (is_of_other target.0) (list_of was r)) (list_of was r))
        (λ wide.
        list_of-remove was target.0 r wide
        ∙ ap (λ b. cond b (filter (is_of_other target.0) (list_of was r)) (list_of was r)) (sym wide))
        (λ narrow.
        list_of-remove_other was target.0 r narrow
        ∙ ap (λ b. cond b (filter (is_of_other target.0) (list_of was r)) (list_of was r)) (sym narrow));
    owners = λ r t ne own.
        ap (λ s. owns (list_of s r) t) lists_now
        ∙ owns-remove was target.0 r t (ne_eqb target.0 t.system.0 (λ same. ne (sym same))) own;
  }

pub removal_entries : (deck : Deck) (es : List Event) (e : Event) → RemovalsAreEntries deck es e
removal_entries deck es e target is = entry_now deck es e target is

pub removals_keep : (deck : Deck) (es : List Event) (e : Event) → RemovalsKeepOthers deck es e
removals_keep deck es e target is = others_stay deck es e target is
