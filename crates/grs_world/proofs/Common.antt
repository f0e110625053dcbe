-- The names that most proofs of this crate cite, passed on from one place. Declares nothing.
pub use Rattle.std.proofs.Common.{[], ap, append-nil, append_assoc, arith, Bool, cond, drop, false, inl, inr, length}
pub use Rattle.std.proofs.Common.{length-append, List, map, None, not, Option, refl, Some, subst, suc, sym, take}
pub use Rattle.std.proofs.Common.{take-append-drop, true, zero, ℕ, ◌%◌, ◌&&◌, ◌*◌, ◌++◌, ◌+◌, ◌-◌, ◌<◌, ◌||◌, ◌∙◌, ◌∷◌}
pub use Rattle.std.proofs.Common.{◌≡◌, ◌≢◌, ◌≤◌, ◌⊎◌}
pub use Rattle.std.proofs.Math.Bool.{and-false, and-true, or-false}
pub use Rattle.std.proofs.Math.Seq.{drop-append_seam}
pub use Rattle.std.proofs.lemmas.Bool.{and_from, and_parts, and_right, cases_Bool, eq-eqb, eqb-false, eqb-true, lt-ltb}
pub use Rattle.std.proofs.lemmas.Bool.{ltb-true, ne_eqb, not-true, or_left, or_parts, or_right, true≢false}
pub use Rattle.std.proofs.lemmas.Bool.Decides.{nat_tests}
pub use Rattle.std.proofs.lemmas.List.{length-map, length-replicate, length-set, map-append}
pub use Rattle.std.proofs.lemmas.List.Elements.{filter-append}
pub use Rattle.std.proofs.lemmas.List.Folds.{list_all-append, list_any-append}
pub use Rattle.std.proofs.lemmas.Option.{same_Some, slice_get-get_or, slice_get_within}
pub use Rattle.std.specs.List.{All, list_all, list_any}
pub use Rattle.std.specs.Option.{option_map, option_map_or}
pub use Rattle.std.specs.Prelude.{filter, get_or, is_none, is_some, nat_le, nat_lt, replicate, set, slice_get}
pub use Rattle.std.specs.Prelude.{slice_index_or, slice_set, unwrap_or, ◌==◌}
pub use Rattle.contention_mgr.specs.LoseLaws.{is_without}
pub use Rattle.contention_mgr.specs.Manager.{after_request, after_telling, entry_wanted, items_of, kept_at, kept_for}
pub use Rattle.contention_mgr.specs.Manager.{Managed, managed_at, managed_of, ManagerView, no_elements, plain, Ranked}
pub use Rattle.contention_mgr.specs.Manager.{settled, with_entry}
pub use Rattle.freed_owners.specs.Freed.{freed}
pub use Rattle.grs_base.proofs.SameLaws.{same_res-exact, same_res-itself, same_task-exact, same_task-itself}
pub use Rattle.grs_base.specs.Limits.{last_number, most_additions, most_systems}
pub use Rattle.grs_base.specs.Lists.{has_task, owns, standing_of}
pub use Rattle.grs_base.specs.Looks.{look}
pub use Rattle.grs_base.specs.Rows.{rows_of}
pub use Rattle.grs_base.specs.Same.{same_res, same_task}
pub use Rattle.grs_base.specs.Slices.{entry_of, slice_of}
pub use Rattle.grs_base.specs.State.{is_systems, list_of, remove_state, State}
pub use Rattle.grs_base.specs.declared.decision.Code.{Code}
pub use Rattle.grs_base.specs.declared.decision.Code.TheVariants.{C00, C04, C08, C14, End, Wait}
pub use Rattle.grs_base.specs.declared.line.Line.{Line}
pub use Rattle.grs_base.specs.declared.line.Scope.TheVariants.{Systems}
pub use Rattle.grs_base.specs.declared.look.Filter.{Filter}
pub use Rattle.grs_base.specs.declared.look.Place.{Place}
pub use Rattle.grs_base.specs.declared.look.Place.TheVariants.{Local, Slice}
pub use Rattle.grs_base.specs.declared.resource.Ctl.{Ctl}
pub use Rattle.grs_base.specs.declared.resource.Ctl.TheVariants.{E, S}
pub use Rattle.grs_base.specs.declared.resource.Elem.{Elem}
pub use Rattle.grs_base.specs.declared.resource.Res.{Res}
pub use Rattle.grs_base.specs.declared.resource.Res.TheVariants.{System}
pub use Rattle.grs_base.specs.declared.resource.Ret.{Ret}
pub use Rattle.grs_base.specs.declared.resource.Ret.TheVariants.{RetEcb, RetNone}
pub use Rattle.grs_base.specs.declared.resource.Row.{Row}
pub use Rattle.grs_base.specs.declared.resource.SysId.{SysId}
pub use Rattle.grs_base.specs.declared.resource.TaskId.{TaskId}
pub use Rattle.grs_known.proofs.known.Blank.{blank}
pub use Rattle.grs_known.proofs.known.Histories.{a_look, a_removal, AllAsk, an_ask, asks-behind, AsksOrRemoves, follows}
pub use Rattle.grs_known.proofs.known.Histories.{IsAsk, IsHistory, items-append, made_item, MayFollow, OrdersFit}
pub use Rattle.grs_known.proofs.known.Histories.{owns-may, replayed}
pub use Rattle.grs_known.proofs.known.ItemLaws.{items_are_history, lists-push, replies_are_answers}
pub use Rattle.grs_known.proofs.known.Knowing.{one}
pub use Rattle.grs_known.proofs.known.Knows.{IsOutstanding, known-all, speaks-known}
pub use Rattle.grs_known.proofs.lists.Alike.{Alike}
pub use Rattle.grs_known.proofs.lists.All.{owns-has}
pub use Rattle.grs_known.proofs.lists.Facts.{all-behind, all-filter, all-kept, all-middle, any-last, any-more}
pub use Rattle.grs_known.proofs.lists.Facts.{filter-cons_kept, filter-cons_left, slice_get-past, slice_get-set}
pub use Rattle.grs_known.proofs.lists.Facts.{slice_get-set_other, some_of, take-none}
pub use Rattle.grs_known.proofs.lists.Owners.{is_among}
pub use Rattle.grs_known.proofs.lists.Parts.{is_res_of, list_of-part, part}
pub use Rattle.grs_known.proofs.lists.Placed.{put_here, put_other}
pub use Rattle.grs_known.proofs.lists.Rows.{AreLists, rows-lists}
pub use Rattle.grs_known.proofs.lists.Shows.{is_look}
pub use Rattle.grs_known.proofs.lists.Truths.{false_by, no_truth, or_other, task_swap}
pub use Rattle.grs_known.proofs.records.Control.{controlled, is_unmarked}
pub use Rattle.grs_known.proofs.records.Lists.{Matches}
pub use Rattle.grs_known.proofs.records.Marks.{is_marked}
pub use Rattle.grs_known.proofs.ring.Reading.{table-is}
pub use Rattle.grs_known.proofs.system.Askers.{among-front}
pub use Rattle.grs_known.proofs.system.Asking.{are_sent, IsAskedBy, IsAskedFor, IsLooks, IsLooksBy, IsOpenBy, IsReq}
pub use Rattle.grs_known.proofs.system.Asking.{line_asked, Opens, phase_seen, task-open, unasked_by}
pub use Rattle.grs_known.proofs.system.Did.{Did, did-line, did-none, did-outstanding, did-phase, did-rows, did-shown}
pub use Rattle.grs_known.proofs.system.Did.{did-telling}
pub use Rattle.grs_known.proofs.system.Events.{StaysGood}
pub use Rattle.grs_known.proofs.system.Good.{here-kept, here-other, IsGood}
pub use Rattle.grs_known.proofs.system.Ours.{IsHere, IsOurs, same_place}
pub use Rattle.grs_known.proofs.system.Says.{askers, is_home_at, is_line_of, none, own_asked, own_requests, stand_apart}
pub use Rattle.grs_known.proofs.system.Says.{ToldBy}
pub use Rattle.grs_known.proofs.system.Turns.{quiet_good}
pub use Rattle.grs_known.proofs.tasks.Invariant.{Each, has_res, is_distinct, is_unsent, IsRec, IsTask}
pub use Rattle.grs_known.proofs.tasks.UpToDate.{is_code_at, IsWanted, IsWantedBy}
pub use Rattle.grs_known.proofs.told.News.{still-told, told-news, ToldNews}
pub use Rattle.grs_known.specs.Items.{gives_back, goes_round, history, is_of, items, items_from, lists, mine}
pub use Rattle.grs_known.specs.Items.{removes_system_of, reply_in, rounds, RunItem, wants_round}
pub use Rattle.grs_known.specs.Known.{Coming, last_of, outstanding}
pub use Rattle.grs_known.specs.Parts.{put_at}
pub use Rattle.grs_known.specs.Passed.{has_code}
pub use Rattle.grs_known.specs.Past.{Past, past_of, Speaks}
pub use Rattle.grs_known.specs.Told.{entry_of_line, is_code_of, tells_control}
pub use Rattle.grs_legal.specs.Asks.{asks_in, asks_of, lines_of, meanings, scripts_of}
pub use Rattle.grs_legal.specs.Legal.{LegalFrom, line_entries}
pub use Rattle.grs_legal.specs.declared.meaning.Display.{Display}
pub use Rattle.grs_legal.specs.declared.meaning.Meaning.{Meaning}
pub use Rattle.grs_medium.proofs.LiveLaws.{has-live}
pub use Rattle.grs_medium.specs.Apply.{reply_to, without_in_star, without_system, without_target}
unfoldable pub use Rattle.grs_medium.specs.Apply.{apply, leave_row, mail_row, purge_row, rest_row, row, submit_row}
unfoldable pub use Rattle.grs_medium.specs.Apply.{switch_row, take_row, turn_row}
pub use Rattle.grs_medium.specs.GoesOn.{WaitsForLive}
pub use Rattle.grs_medium.specs.Inboxes.{inbox_of, with_mail, without_first}
pub use Rattle.grs_medium.specs.Medium.{awake, first_medium, inbox, live, MediumState, systems_of}
unfoldable pub use Rattle.grs_medium.specs.Medium.{medium_at_end}
pub use Rattle.grs_node.proofs.ChangeFits.{star-changed}
pub use Rattle.grs_node.proofs.Keeping.{stays-task, stays-turned}
pub use Rattle.grs_node.specs.Change.{one_by_one, part_by_table, with_first_look, with_list_ranks, with_rank_by}
pub use Rattle.grs_node.specs.Change.{with_ranks}
pub use Rattle.grs_node.specs.Log.{NodeView, told_in}
pub use Rattle.grs_node.specs.Names.{names_of}
pub use Rattle.grs_node.specs.Node.{goes_on, has_most, is_for_deck, is_item_of, is_of_deck, is_to_send, known_from}
pub use Rattle.grs_node.specs.Node.{look_around, look_home, looks_asked, losing_in, names_of_deck, next_order}
pub use Rattle.grs_node.specs.Node.{NodeState, only, own_words, posted, prepared_by, read_entry, Step, take_mail}
pub use Rattle.grs_node.specs.Node.{task_step, with_side, with_star, with_tasks}
unfoldable pub use Rattle.grs_node.specs.Node.{all_sent, ask, change_to_star, decide, desk_told, end_step, finish}
unfoldable pub use Rattle.grs_node.specs.Node.{finish_call, finish_quiet, finish_star, first_node, is_pending, losing}
unfoldable pub use Rattle.grs_node.specs.Node.{may_go, may_send, phase_step, post, prepare, purged, put_in}
unfoldable pub use Rattle.grs_node.specs.Node.{read_entries, ready_step, show, stale, star_call, switched, take_line}
unfoldable pub use Rattle.grs_node.specs.Node.{took_mail, wait}
pub use Rattle.grs_node.specs.Removal.{awaited, is_news, lose, lose_all, members, move_entry, sent_again, Standing}
pub use Rattle.grs_node.specs.Removal.{standing, take_up, take_up_all, with_role, without_those}
unfoldable pub use Rattle.grs_node.specs.Removal.{lose_each, members_below, move_each, take_up_below}
pub use Rattle.grs_node.specs.Star.{answer_for, begun, entry_for, first_held, first_part, fixing_none, gathers}
pub use Rattle.grs_node.specs.Star.{has_interest, is_busy_in, is_done_with, left_at, manages, may_settle, owed_to}
pub use Rattle.grs_node.specs.Star.{owners_by, rank_of, request_of, StarPart, StarStep, to_tell, with_interest}
unfoldable pub use Rattle.grs_node.specs.Star.{decide_own}
pub use Rattle.grs_node.specs.declared.prepared.Prepared.{Prepared}
pub use Rattle.grs_node.specs.declared.prepared.Prepared.TheVariants.{Call, Nothing, Quiet}
pub use Rattle.grs_wire.proofs.DeckLaws.{entries_some}
pub use Rattle.grs_wire.proofs.MaskLaws.{has-with_other, has-with_same, has-without_other, has-without_same, has-zero}
pub use Rattle.grs_wire.proofs.WantLaws.{by_test}
pub use Rattle.grs_wire.specs.History.{after_fixed, code_of, entries_for, fixed_entries, is_by, removes, replay}
pub use Rattle.grs_wire.specs.LockWords.{interest, is_manager}
unfoldable pub use Rattle.grs_wire.specs.LockWords.{leave_changes, leave_reply, left_word, lock_word, manager}
unfoldable pub use Rattle.grs_wire.specs.LockWords.{submitted}
pub use Rattle.grs_wire.specs.Masks.{lives}
unfoldable pub use Rattle.grs_wire.specs.Masks.{has, with_also, without}
pub use Rattle.grs_wire.specs.Notices.{noticed}
pub use Rattle.grs_wire.specs.Unseen.{is_unseen}
unfoldable pub use Rattle.grs_wire.specs.Unseen.{unseen}
pub use Rattle.grs_wire.specs.Wants.{after_want, answer_to, is_for_all, looks, new_owners, res_wanted}
pub use Rattle.grs_wire.specs.declared.deck.Choice.{Choice}
pub use Rattle.grs_wire.specs.declared.deck.Choice.TheVariants.{Turn}
pub use Rattle.grs_wire.specs.declared.deck.Deck.{Deck}
pub use Rattle.grs_wire.specs.declared.deck.Event.{Event}
pub use Rattle.grs_wire.specs.declared.deck.Order.{Order}
pub use Rattle.grs_wire.specs.declared.deck.SystemDef.{SystemDef}
pub use Rattle.grs_wire.specs.declared.gather.Moved.{Moved}
pub use Rattle.grs_wire.specs.declared.gather.PartRec.{PartRec}
pub use Rattle.grs_wire.specs.declared.history.HistEntry.{HistEntry}
pub use Rattle.grs_wire.specs.declared.medium.Act.{Act}
pub use Rattle.grs_wire.specs.declared.medium.Mail.{Mail}
pub use Rattle.grs_wire.specs.declared.medium.Mail.TheVariants.{Answered, Granted, Notice, Part}
pub use Rattle.grs_wire.specs.declared.medium.Reply.{Reply}
pub use Rattle.grs_wire.specs.declared.medium.RingBody.{RingBody}
pub use Rattle.grs_wire.specs.declared.medium.RingBody.TheVariants.{Remove, Request}
pub use Rattle.grs_wire.specs.declared.medium.RingEntry.{RingEntry}
pub use Rattle.grs_wire.specs.declared.request.Answer.{Answer}
pub use Rattle.grs_wire.specs.declared.request.Answer.TheVariants.{Rows}
pub use Rattle.grs_wire.specs.declared.request.Fixed.{Fixed}
pub use Rattle.grs_wire.specs.declared.request.Fixed.TheVariants.{LocalLook, Purged}
pub use Rattle.grs_wire.specs.declared.request.Req.{Req}
pub use Rattle.grs_wire.specs.declared.request.Want.{Want}
pub use Rattle.grs_wire.specs.declared.request.Want.TheVariants.{Deq, Enq, Look, Release}
pub use Rattle.grs_wire.specs.declared.told.Said.{Said}
pub use Rattle.grs_wire.specs.declared.told.Said.TheVariants.{StarDone, VaryDone}
pub use Rattle.grs_wire.specs.declared.told.Told.{Told}
pub use Rattle.grs_wire.specs.declared.told.ToldLine.{ToldLine}
pub use Rattle.grs_wire.specs.declared.told.ToldLine.TheVariants.{Coded, Desk, Ended}
pub use Rattle.grs_world.specs.Agree.{lines_of_told, Moment}
pub use Rattle.grs_world.specs.AtRest.{lists_after}
pub use Rattle.grs_world.specs.Decks.{FitsStar, may_be_star}
pub use Rattle.grs_world.specs.InStar.{is_purged, NoneInStar, removes_in_star}
pub use Rattle.grs_world.specs.Kept.{kept, places, without_gone}
pub use Rattle.grs_world.specs.Removing.{call_at, call_in, reply_by, reply_of}
pub use Rattle.grs_world.specs.Running.{is_live, node_at, nodes_of, units_of}
unfoldable pub use Rattle.grs_world.specs.Running.{at_rest}
pub use Rattle.grs_world.specs.Stopped.{cut, is_turned, lap, live_below, turn_of}
pub use Rattle.grs_world.specs.World.{counted, first_nodes, fixed_by, hist, run, run_from, told, told_by, Turnout}
pub use Rattle.grs_world.specs.World.{World}
unfoldable pub use Rattle.grs_world.specs.World.{carry_out, chosen, first_world, happens, happens_at, placed}
pub use Rattle.lock_structure.specs.Entries.{entry_of_res, is_entry}
pub use Rattle.lock_structure.specs.Laws.{is_interested, IsManaged, manager_at}
pub use Rattle.lock_structure.specs.RankedRows.{RankedRow}
pub use Rattle.lock_structure.specs.Words.{left_words, submitted_words, word_at}
unfoldable pub use Rattle.lock_structure.specs.Words.{route}
pub use Rattle.mode_migrate.specs.Laws.{are_within}
pub use Rattle.mode_migrate.specs.Migrate.{ranked_by}
pub use Rattle.ring_mode.specs.Ring.{side_of}
unfoldable pub use Rattle.ring_mode.specs.Ring.{answer_own, process, process_entry}
pub use Rattle.rsa_message.proofs.Stands.{Bodies}
pub use Rattle.rsa_message.specs.Message.{first_number, left_by, Message, never_opened, opened, stands_at}
pub use Rattle.rsa_message.specs.Message.{turned_closed, turned_open}
unfoldable pub use Rattle.rsa_message.specs.Message.{any_unseen, cleared, closed_by, departed, dropped, first_after}
unfoldable pub use Rattle.rsa_message.specs.Message.{rest_after_turn, stamped, turn_reply, turned, wakes}
pub use Rattle.star_client.specs.Client.{has_effect, tell_answer_any_ranked, unrecorded, with_rank_of}
unfoldable pub use Rattle.star_client.specs.Client.{after_mail, tell_answer_ranked}
pub use Rattle.star_client.specs.Owes.{owing}
pub use Rattle.system_purge.specs.Gather.{part_of}
pub use Rattle.system_purge.specs.Gathers.{awaiting, gathering_at}
unfoldable pub use Rattle.system_purge.specs.Purge.{tell_each, tell_freed}
pub use Rattle.system_purge.specs.declared.gathers.Gathering.{Gathering}
pub use Rattle.task_state.proofs.ViewLaws.{is_task-system, is_task-telling, state_of-telling, told-state, told-telling}
pub use Rattle.task_state.specs.Replies.{answered, gives_up, is_granted, is_held_for, is_leaving, looked}
unfoldable pub use Rattle.task_state.specs.Replies.{after_code, goes_on_looking, passes_wait, recalled, record_enq}
unfoldable pub use Rattle.task_state.specs.Replies.{replied, tell_all, tell_answer, tell_answer_any, tell_code}
unfoldable pub use Rattle.task_state.specs.Replies.{tell_control, tell_line, tell_new, tell_rows, tell_untold}
pub use Rattle.task_state.specs.View.{code_in, is_sent, is_task, new_task, new_tasks, on_record, record_of, TasksView}
unfoldable pub use Rattle.task_state.specs.View.{state_of, telling, with_exclusive, with_line, with_outstanding}
unfoldable pub use Rattle.task_state.specs.View.{with_phase, with_rank, with_record, with_rows, with_state, with_told}
unfoldable pub use Rattle.task_state.specs.View.{without_record, without_rows}
pub use Rattle.task_state.specs.declared.state.Asked.{Asked}
pub use Rattle.task_state.specs.declared.state.Phase.{Phase}
pub use Rattle.task_state.specs.declared.state.Rec.{Rec}
pub use Rattle.task_state.specs.declared.state.Showing.{Showing}
pub use Rattle.task_state.specs.declared.state.TaskState.{TaskState}
pub use native.Mathlib.Decide.{ℕ_discrete}
