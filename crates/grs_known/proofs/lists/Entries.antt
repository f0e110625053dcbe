-- The entries of a task, and of its lines, in a history that grows.
use Rattle.std.proofs.Common.{◌≡◌, ℕ, Bool, true, false, cond, List, [], ◌∷◌, ◌++◌, Option, Some, None, refl, arith}
use Rattle.std.specs.Prelude.{filter, slice_get}
use Rattle.grs_base.specs.declared.resource.TaskId.{TaskId}
use Rattle.grs_base.specs.declared.decision.Code.{Code}
use Rattle.grs_base.specs.declared.decision.Code.TheVariants as codes
use Rattle.grs_legal.specs.declared.meaning.Meaning.{Meaning}
use Rattle.grs_wire.specs.declared.history.HistEntry.{HistEntry}
use Rattle.grs_wire.specs.History.{code_of}
use Rattle.grs_legal.specs.Asks.{is_silent}
use Rattle.grs_legal.specs.Legal.{entries_of, is_of_line, line_entries, end_or, end_among, last_entry}
use Rattle.grs_known.specs.Told.{asked_at}
use Rattle.grs_known.proofs.lists.Facts.{slice_get-append}

-- the entries of a task's lines are among its entries
pub line_entries-from : (t : TaskId) (P : List HistEntry) → line_entries t P ≡ filter is_of_line (entries_of t P)
line_entries-from t [] = refl
line_entries-from t (h ∷ P) = grind (arith, line_entries-from t P)

-- one entry goes last
pub last_entry-push : (xs : List HistEntry) (h : HistEntry) → last_entry (xs ++ h ∷ []) ≡ Some h
last_entry-push [] h = refl
last_entry-push (x ∷ []) h = refl
last_entry-push (x ∷ y ∷ ys) h = last_entry-push (y ∷ ys) h

-- an entry that is no end changes nothing, one that is an end counts where there was none
pub end_among-push : (xs : List HistEntry) (h : HistEntry) → end_among xs ≡ None
    → end_among (xs ++ h ∷ []) ≡ end_or (code_of h) None
end_among-push [] h none = refl
end_among-push (x ∷ xs) h none = by_code (code_of x) (end_among-push xs h) none
  where
    by_code : (c : Code) → (end_among xs ≡ None → end_among (xs ++ h ∷ []) ≡ end_or (code_of h) None)
        → end_or c (end_among xs) ≡ None → end_or c (end_among (xs ++ h ∷ [])) ≡ end_or (code_of h) None
    by_code (codes.End n) more e = cc
    by_code codes.C00 more e = more e
    by_code codes.C04 more e = more e
    by_code codes.C08 more e = more e
    by_code codes.C14 more e = more e
    by_code codes.C18 more e = more e
    by_code codes.Wait more e = more e

-- an entry of a line keeps its place when the history grows
pub asked_at-grows : (l : Option Meaning) (xs ys : List HistEntry) (i : ℕ) (e : HistEntry)
    → asked_at l (slice_get xs i) ≡ Some e → asked_at l (slice_get (xs ++ ys) i) ≡ Some e
asked_at-grows None xs ys i e h = cc
asked_at-grows (Some l) xs ys i e h = cases (is_silent l) h
  where
    cases : (b : Bool) → cond b None (slice_get xs i) ≡ Some e → cond b None (slice_get (xs ++ ys) i) ≡ Some e
    cases true k = cc
    cases false k = slice_get-append xs ys i e k
