-- A task takes a line that shows lists: it is told the rows of its system's own lists, or looks at slices behind them.
use Rattle.std.proofs.Common.{◌≡◌, ◌<◌, ◌-◌, ◌+◌, ℕ, suc, true, false, List, ◌++◌, length, take, Option, Some, None}
use Rattle.std.proofs.Common.{refl, ap, sym, ◌∙◌, arith, add-one, length-append}
use Rattle.std.specs.Prelude.{slice_get}
use Rattle.std.specs.List.{list_all}
use Rattle.grs_base.specs.declared.resource.Row.{Row}
use Rattle.grs_base.specs.declared.resource.TaskId.{TaskId}
use Rattle.grs_legal.specs.Asks.{asks_of, home_asks, looks_in, slice_asks}
use Rattle.grs_legal.specs.declared.meaning.Display.{Display}
use Rattle.grs_legal.specs.declared.meaning.Meaning.{Meaning}
use Rattle.grs_legal.specs.declared.meaning.Meaning.TheVariants as lines
use Rattle.grs_wire.specs.declared.deck.Deck.{Deck}
use Rattle.grs_wire.specs.declared.history.HistEntry.{HistEntry}
use Rattle.grs_wire.specs.declared.request.Want.TheVariants.{Look}
use Rattle.task_state.specs.Replies.{tell_rows}
use Rattle.task_state.specs.View.{TasksView, with_outstanding, with_phase}
use Rattle.task_state.specs.declared.state.Phase.TheVariants as phases
use Rattle.task_state.specs.declared.state.Rec.{Rec}
use Rattle.grs_known.specs.Items.{RunItem, rows_in}
use Rattle.grs_known.specs.Past.{Past}
use Rattle.grs_known.proofs.lists.Lines.{asks-take, length-slice_asks}
use Rattle.grs_known.proofs.lists.Owners.{is_among}
use Rattle.grs_known.proofs.lists.Shows.{is_look, looked}
use Rattle.grs_known.proofs.tasks.Invariant.{IsTask}
use Rattle.grs_known.proofs.tasks.Looks.{asked-looked, task-begins, task-looked}
use Rattle.grs_known.proofs.system.Asking.{Opens, IsAskedBy}
use Rattle.grs_known.proofs.system.Did.{Did}
use Rattle.grs_known.proofs.system.Events.{StaysGood, Looks, shown-good, looks-good}
use Rattle.grs_known.proofs.system.Good.{IsGood}
use Rattle.grs_known.proofs.system.Ours.{IsOurs}
use Rattle.grs_known.proofs.system.Says.{askers}

-- Task t of ours, ready at line n, takes the line e. It has looked at its system's own lists, if the line asks for
-- that; v1 are the tasks when it has the line and their rows.
module _ (deck : Deck) (s : ℕ) (os os' : Opens) (P P' : List RunItem) (v : TasksView) (good : IsGood deck s os P v)
    (t : TaskId) (ls : List Meaning) (ours : IsOurs deck s v t ls) (p : Past) (n code : ℕ) (xs : List Rec)
    (ws : List Row)
    (k :
    IsTask ls p v.told (λ q. false) t
    (record { line = n; phase = phases.Ready; code = code; records = xs; outstanding = None; rows = ws }))
    (e : Display) (at : slice_get ls n ≡ Some (lines.Shows e))
    (hs : List HistEntry) (d : Looks deck os os' P P' t p hs) (all : list_all is_look hs ≡ true)
    (home : length hs ≡ length (home_asks e.home e.filter))
    (v1 : TasksView) (did :
    Did v v1 t (record {
      line = suc n;
      phase = phases.Ready;
      code = code;
      records = xs;
      outstanding = None;
      rows = ws ++ rows_in hs;
    })
    v.told) where
  -- what the lines up to this one ask
  asked-by : length (asks_of (take (suc n) ls)) ≡ length (asks_of (take n ls)) + (length hs + e.count)
  asked-by =
      ap (λ m. length (asks_of (take m ls))) (sym (add-one n))
      ∙ ap length (asks-take ls n (lines.Shows e) at)
      ∙ length-append (asks_of (take n ls)) (looks_in e)
      ∙ ap (λ m. length (asks_of (take n ls)) + m) (length-append (home_asks e.home e.filter)
      (slice_asks e.first e.count e.filter)
      ∙ ap (λ m. m + length (slice_asks e.first e.count e.filter)) (sym home)
      ∙ ap (λ m. length hs + m) (length-slice_asks e.first e.count e.filter))

  looking :
      IsTask ls (looked hs p) v.told (λ q. false) t (record {
        line = suc n;
        phase = phases.ToSend;
        code = code;
        records = xs;
        outstanding = None;
        rows = ws ++ rows_in hs;
      })
  looking =
      task-looked ls v.told (λ q. false) t code xs None hs p (suc n) ws all
      (task-begins ls v.told (λ q. false) t code xs None p n ws e k at) (omega (arith, k.count refl, asked-by))

  here-at : slice_get ls (suc n - 1) ≡ Some (lines.Shows e)
  here-at = ap (slice_get ls) (omega (arith)) ∙ at

  -- it is told all rows where the line asks no more,
  pub shown-at_once : e.count ≡ 0 → is_among t (askers os'.all) ≡ false → is_among t (askers os'.out) ≡ false
      → StaysGood deck s os' P' v.told (tell_rows v1 t e.verb)
  shown-at_once none away away_out =
      shown-good deck s os os' P P' v good t ls ours p hs d (suc n) code xs (ws ++ rows_in hs) v1 did looking away
      away_out e here-at (omega (arith, asked-looked hs p, k.count refl, asked-by, none))

  -- else it looks at the first slices, with so many left
  pub looks-begun : (count left : ℕ) (unit : Option ℕ) → 0 < count → count + left ≡ e.count →
      IsAskedBy t (Some (record {
        req = record { task = t; want = Look e.first count e.filter };
        unit = unit;
        showing = Some (record { verb = e.verb; left = left });
      }))
      os'.all
      → is_among t (askers os'.out) ≡ false →
      StaysGood deck s os' P' v.told (with_outstanding (with_phase v1 t phases.ToSend) t
      (Some (record {
        req = record { task = t; want = Look e.first count e.filter };
        unit = unit;
        showing = Some (record { verb = e.verb; left = left });
      })))
  looks-begun count left unit some total asked away_out =
      looks-good deck s os os' P P' v good t ls ours p hs d (suc n) code xs (ws ++ rows_in hs) v1 did looking e.first
      count e.filter unit (Some (record { verb = e.verb; left = left }))
      (record {
        display = e;
        at = here-at;
        left = left;
        is = refl;
        filter = refl;
        some = some;
        from = omega arith;
        to = omega (arith, total);
        all = omega (arith, asked-looked hs p, k.count refl, asked-by, total);
      })
      asked away_out
