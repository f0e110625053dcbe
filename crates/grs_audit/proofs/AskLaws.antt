-- Who asks by a line, as its parts were cut.
use Rattle.std.proofs.Common.{◌≡◌, ℕ, Bool, true, false, cond, List, Option, Some, None, Result, Ok, Err, ap, sym, ◌∙◌}
use Rattle.std.specs.Prelude.{IfOk}
use Rattle.grs_base.specs.declared.resource.SysId.{SysId}
use Rattle.grs_base.specs.declared.resource.TaskId.{TaskId}
use Rattle.grs_deck.specs.Places.{system_at, task_in}
use Rattle.grs_track.specs.Tracks.{TracksView, next_removal}
use Rattle.grs_wire.specs.declared.deck.SystemDef.{SystemDef}
use Rattle.grs_wire.specs.declared.history.HistEntry.{HistEntry}
use Rattle.grs_audit.specs.Lines.{front, behind, holds}
use Rattle.grs_audit.specs.Words.{asker_word, behind_asker, next_of_task, removal_of, next_by_system, next_by_line}

-- what holds of a result's value holds by whatever it is the same as
pub as_next : {E : Type 0} (r : Result (Option HistEntry) E) (x y : Option HistEntry) → IfOk r (λ n. n ≡ x) → x ≡ y
    → IfOk r (λ n. n ≡ y)
as_next (Ok n) x y is same = is ∙ same
as_next (Err e) x y is same = is

-- ---- a removal
module _
    (v : TracksView) (by : SysId) (systems lent : List SystemDef) (name text : List ℕ) (same : lent ≡ systems)
    (cut : name ≡ behind 32 text)
  where
    there : system_at lent name ≡ system_at systems (behind 32 text)
    there = ap (λ xs. system_at xs name) same ∙ ap (system_at systems) cut

    pub removal-some : (target : SysId) (found : SystemDef) (r : Option HistEntry) → r ≡ next_removal v by target
        → Some (target, found) ≡ system_at lent name → r ≡ removal_of v by (system_at systems (behind 32 text))
    removal-some target found r is at = is ∙ ap (removal_of v by) (at ∙ there)

    pub removal-none : None ≡ system_at lent name → None ≡ removal_of v by (system_at systems (behind 32 text))
    removal-none at = ap (removal_of v by) (at ∙ there)

-- ---- a line
pub word-of : (line a b w : List ℕ) → a ≡ behind 32 line → b ≡ behind 32 a → w ≡ front 32 b → w ≡ asker_word line
word-of line a b w ea eb ew = ew ∙ ap (front 32) (eb ∙ ap (behind 32) ea)

pub rest-of : (line a b r : List ℕ) → a ≡ behind 32 line → b ≡ behind 32 a → r ≡ behind 32 b → r ≡ behind_asker line
rest-of line a b r ea eb er = er ∙ ap (behind 32) (eb ∙ ap (behind 32) ea)

module _
    (v : TracksView) (line word name : List ℕ) (lent : List SystemDef) (same : lent ≡ v.deck.systems)
    (is : word ≡ asker_word line) (cut : name ≡ front 46 word)
  where
    at_name : system_at lent name ≡ system_at v.deck.systems (front 46 (asker_word line))
    at_name = ap (λ xs. system_at xs name) same ∙ ap (system_at v.deck.systems) (cut ∙ ap (front 46) is)

    pub by-none : None ≡ system_at lent name → None ≡ next_by_line v line
    by-none at = ap (next_by_system v line) (at ∙ at_name)

    module _ (id : SysId) (found : SystemDef) (at : Some (id, found) ≡ system_at lent name) where
      told : next_by_system v line (Some (id, found)) ≡ next_by_line v line
      told = ap (next_by_system v line) (at ∙ at_name)

      pub by-task : (h : Bool) (t : Option TaskId) → h ≡ holds 46 word → h ≡ true
          → t ≡ task_in id found (front 46 (behind 46 word)) (behind 46 (behind 46 word))
          → next_of_task v t ≡ next_by_line v line
      by-task h t has is_true of =
          ap (next_of_task v)
          (of ∙ ap (λ w. task_in id found (front 46 (behind 46 w)) (behind 46 (behind 46 w))) is)
          ∙ ap (λ b. cond b
          (next_of_task v
          (task_in id found (front 46 (behind 46 (asker_word line))) (behind 46 (behind 46 (asker_word line)))))
          (removal_of v id (system_at v.deck.systems (behind 32 (behind_asker line)))))
          (sym is_true ∙ has ∙ ap (holds 46) is)
          ∙ told

      pub by-removal : (h : Bool) (rest : List ℕ) → h ≡ holds 46 word → h ≡ false → rest ≡ behind_asker line
          → removal_of v id (system_at v.deck.systems (behind 32 rest)) ≡ next_by_line v line
      by-removal h rest has is_false left =
          ap (λ r. removal_of v id (system_at v.deck.systems (behind 32 r))) left
          ∙ ap (λ b. cond b
          (next_of_task v
          (task_in id found (front 46 (behind 46 (asker_word line))) (behind 46 (behind 46 (asker_word line)))))
          (removal_of v id (system_at v.deck.systems (behind 32 (behind_asker line)))))
          (sym is_false ∙ has ∙ ap (holds 46) is)
          ∙ told
