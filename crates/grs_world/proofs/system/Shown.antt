-- A line that shows lists, of a task that goes on: it looks at its system's own lists, if the line asks for that, and
-- is told the rows at once, or waits to look at slices.
use Rattle.grs_world.proofs.Common.{[], ◌++◌, ◌+◌, ◌<◌, ◌∙◌, ◌∷◌, ◌≡◌, ap, append-nil, arith, Asked, Bool, cond, Deck}
use Rattle.grs_world.proofs.Common.{Did, did-rows, Display, false, here-kept, here-other, HistEntry, history, is_look}
use Rattle.grs_world.proofs.Common.{is_res_of, is_some, IsAskedBy, IsHistory, IsOutstanding, known-all, length, List}
use Rattle.grs_world.proofs.Common.{list_all, lists, Local, Look, look, look_around, look_home, looks_asked, made_item}
use Rattle.grs_world.proofs.Common.{Meaning, NodeState, None, one, Option, outstanding, part, Past, past_of, refl, Req}
use Rattle.grs_world.proofs.Common.{Row, RunItem, same_task, same_task-itself, show, slice_get, Some, StarPart}
use Rattle.grs_world.proofs.Common.{state_of, subst, suc, sym, SysId, TaskId, TaskState, TasksView, tell_rows, ToldBy}
use Rattle.grs_world.proofs.Common.{true, Want, with_line, with_outstanding, with_phase, with_rows, with_tasks, zero, ℕ}
use Rattle.grs_known.specs.Items.{rows_in}
use Rattle.grs_known.proofs.lists.Shows.{look-own}
use Rattle.grs_known.proofs.known.Histories.{live-push}
use Rattle.grs_known.proofs.known.Knows.{looks-decided}
use Rattle.grs_legal.specs.Asks.{home_asks}
use Rattle.grs_known.proofs.known.Following.{may_look}
use Rattle.grs_known.proofs.tasks.Looks.{next-home}
use Rattle.grs_world.proofs.system.AtNode.{Seen, MayFix, own_look, QuietStep, keeps, fixes, fix-history, part-look}
use Rattle.grs_known.proofs.system.Displays.{looks-begun, shown-at_once}
use Rattle.grs_known.proofs.system.Events.{Looks}
use Rattle.grs_world.proofs.system.Meant.{IsHome, lines_own}
use Rattle.grs_world.proofs.system.Free.{IsFree, is_ready, taken, here, none_open, speaks, free, free_out, box, os_with}
use Rattle.grs_world.proofs.system.Free.{box-asked, box-others, box-homes, box-apart, os}
use Rattle.grs_legal.specs.declared.meaning.Meaning.TheVariants as lines
use Rattle.grs_wire.specs.declared.history.HistEntry.TheVariants as entries
use Rattle.grs_wire.specs.declared.request.Fixed.TheVariants as fixing
use Rattle.task_state.specs.declared.state.Phase.TheVariants as phases

module _ {deck : Deck} {s : ℕ} {c : SysId} {P before later : List RunItem} {out : List Req} {n : NodeState} {t : TaskId}
    {ls : List Meaning} (me : IsFree deck s c P before later out n t ls) where
  open me use {right, seen, ours, closed}

  abbrev p : Past
  p = past_of t (here me).known P

  module _ (ready : (state_of n.tasks t).phase ≡ phases.Ready) where
    -- ---- A line that shows lists. The task has looked at its system's own lists, if the line asks for that: these
    -- are the items then, hs what it saw, and v1 the tasks when it has the line and those rows.
    module _ (d : Display) (at : slice_get ls (state_of n.tasks t).line ≡ Some (lines.Shows d)) (Q : List RunItem)
        (hs : List HistEntry)
        (looks : (qs : List Req) →
        ((u : TaskId) (o : Option Asked) → same_task u t ≡ false → IsAskedBy u o (out ++ n.outbox)
        → IsAskedBy u o qs)
        → Looks deck (os me) (record { later = later; out = out; all = qs }) P Q t p hs)
        (all : list_all is_look hs ≡ true) (home : length hs ≡ length (home_asks d.home d.filter))
        (own : n.own ≡ part (is_res_of s) (lists Q)) (v1 : TasksView)
        (did :
        Did n.tasks v1 t (record {
          line = suc (state_of n.tasks t).line;
          phase = phases.Ready;
          code = (state_of n.tasks t).code;
          records = (state_of n.tasks t).records;
          outstanding = None;
          rows = (state_of n.tasks t).rows ++ rows_in hs;
        })
        n.tasks.told) where
      abbrev Around : NodeState → Type 0
      Around m =
          Seen deck s Q before later out m
          × ToldBy deck s (out ++ m.outbox) (history Q) n.tasks.told m.tasks.told

      -- it is told the rows at once
      told_all : d.count ≡ 0 → Around (with_tasks n (tell_rows v1 t d.verb))
      told_all none_more =
          let x : TaskState = state_of n.tasks t in
          let z =
          shown-at_once deck s (os me) (os me) P Q n.tasks seen.good t ls ours p x.line x.code x.records x.rows
          (is_ready me ready) d at hs
          (looks (out ++ n.outbox) (λ u o apart j. j)) all home v1 did none_more (free me) (free_out me) in (
            record {
              good = z.good;
              own = own;
              shared = seen.shared;
              homes = seen.homes;
              apart = seen.apart;
            },
            z.told,
          )

      -- or looks at slices, at so many first
      looks_more : (count left : ℕ) → 0 < count → count + left ≡ d.count → (star : Bool) →
          Around (record n {
            tasks =
                with_outstanding (with_phase v1 t phases.ToSend) t
                (Some (record {
                  req = record { task = t; want = Look d.first count d.filter };
                  unit = None;
                  showing = Some (record { verb = d.verb; left = left });
                }));
            outbox = box me star (Look d.first count d.filter);
          })
      looks_more count left some total star =
          let x : TaskState = state_of n.tasks t in
          let w : Want = Look d.first count d.filter in
          let z =
          looks-begun deck s (os me) (os_with me star w) P Q n.tasks seen.good t ls ours p x.line x.code x.records
          x.rows
          (is_ready me ready) d at hs (looks (out ++ box me star w) (box-others me star w)) all home v1 did count left
          None some total
          (box-asked me star w None (Some (record { verb = d.verb; left = left }))) (free_out me) in (
            record {
              good = z.good;
              own = own;
              shared = seen.shared;
              homes = box-homes me star w;
              apart = box-apart me star w;
            },
            z.told,
          )

      around : (k : ℕ) → d.count ≡ k → Around (look_around (with_tasks n v1) t d k)
      around zero e = told_all e
      around (suc rest) e = by_star n.star
        where
          by_star : (o : Option StarPart) →
              Around (record n {
                tasks =
                    with_outstanding (with_phase v1 t phases.ToSend) t (Some (looks_asked t d rest o));
                outbox = cond (is_some o) n.outbox (n.outbox ++ (looks_asked t d rest o).req ∷ []);
              })
          by_star None = looks_more (suc rest) 0 (omega arith) (omega (arith, e)) false
          by_star (Some part_of_star) = looks_more 1 rest (omega arith) (omega (arith, e)) true

    pub show_outcome : (d : Display) → slice_get ls (state_of n.tasks t).line ≡ Some (lines.Shows d)
        → QuietStep deck s c P before later out n (show (with_tasks n (with_line n.tasks t)) t d)
    unfolding show
    show_outcome d at =
        by_home d.home refl
        (lines_own deck t ls (state_of n.tasks t).line (lines.Shows d) ours.lines at)
      where
        -- the system's own lists, as the task sees them
        rows : List Row
        rows = look (lists P) (Local t.system) d.filter

        h : HistEntry
        h = entries.Look t (Local t.system) d.filter rows

        x : RunItem
        x = made_item c P (fixing.LocalLook t d.filter)

        seen_rows : TasksView
        seen_rows = with_rows (with_line n.tasks t) t (look n.own (Local t.system) d.filter)

        same_rows : look n.own (Local t.system) d.filter ≡ rows ++ []
        same_rows =
            ap (λ z. look z (Local t.system) d.filter)
            (seen.own ∙ ap (λ z. part (is_res_of z) (lists P)) (sym ours.home))
            ∙ look-own (lists P) t.system d.filter
            ∙ sym (append-nil rows)

        fix : (u : SysId) → d.home ≡ Some u → u.0 ≡ t.system.0 → MayFix deck s c P (fixing.LocalLook t d.filter)
        fix u e own_system =
            let y : TaskState = state_of n.tasks t in
            own_look t d.filter ours.home
            (may_look deck P right t p (speaks me) ls ours.lines (here me).knows.live c d.filter
            (next-home ls n.tasks.told (λ q. false) t y.code y.records None p y.line y.rows d t.system
            (is_ready me ready) at
            (e ∙ ap (λ k. Some (record { 0 = k })) own_system)))

        by_home : (o : Option SysId) → d.home ≡ o → IsHome t.system.0 o → QuietStep deck s c P before later out n
            (record {
              node = look_around (look_home (with_tasks n (with_line n.tasks t)) t d o).node t d d.count;
              fixed = (look_home (with_tasks n (with_line n.tasks t)) t d o).fixed;
            })
        by_home None e own_system =
            let y : TaskState = state_of n.tasks t in
            let z =
            around d at P []
            (λ qs others. record {
              right = right;
              learns = record {
                known = (here me).known;
                knows = record {
                  right = (here me).knows.right;
                  request = subst (IsOutstanding None) (sym (none_open me)) tt;
                  live = (here me).knows.live;
                };
                past = refl;
              };
              due = (here me).due ∙ ap one (none_open me);
              leaves = λ u ms T T' w apart told k.
                  here-kept deck (os me) (record { later = later; out = out; all = qs }) P T T' u ms w refl
                  (others u w.outstanding apart) (λ a. a) told k;
            })
            refl (ap (λ o. length (home_asks o d.filter)) (sym e)) seen.own (with_line n.tasks t)
            (subst (λ ws.
            Did n.tasks (with_line n.tasks t) t (record {
              line = suc y.line;
              phase = phases.Ready;
              code = y.code;
              records = y.records;
              outstanding = None;
              rows = ws;
            })
            n.tasks.told)
            (sym (append-nil y.rows)) (taken me ready))
            d.count refl in
            keeps refl z.0 z.1
        by_home (Some u) e own_system =
            let y : TaskState = state_of n.tasks t in
            let may : MayFix deck s c P (fixing.LocalLook t d.filter) = fix u e own_system in
            let whole : IsHistory deck (P ++ x ∷ []) = fix-history right may in
            let z =
            around d at (P ++ x ∷ []) (h ∷ [])
            (λ qs others. record {
              right = whole;
              learns =
                  looks-decided P x t (here me).known (same_task-itself t) refl
                  (live-push t P x (here me).knows.live refl)
                  (here me).knows.right (known-all P t (here me).known (here me).knows.right (none_open me)) refl;
              due = (here me).due ∙ ap one (none_open me);
              leaves = λ k ms T T' w apart told j.
                  here-kept deck (os me) (record { later = later; out = out; all = qs }) (P ++ x ∷ []) T T' k ms w refl
                  (others k w.outstanding apart) (λ a. a) told (here-other deck (os me) P x T k ms w apart refl j);
            })
            refl (ap (λ o. length (home_asks o d.filter)) (sym e))
            (seen.own ∙ part-look (is_res_of s) P x t d.filter refl) seen_rows
            (subst (λ ws.
            Did n.tasks seen_rows t (record {
              line = suc y.line;
              phase = phases.Ready;
              code = y.code;
              records = y.records;
              outstanding = None;
              rows = y.rows ++ ws;
            })
            n.tasks.told)
            same_rows
            (did-rows n.tasks (with_line n.tasks t) t _ n.tasks.told ours.here (taken me ready)
            (look n.own (Local t.system) d.filter)))
            d.count refl in
            fixes (fixing.LocalLook t d.filter) refl refl may z.0 z.1
