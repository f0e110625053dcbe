-- What each call keeps of all entries of a manager.
use Rattle.std.proofs.Common.{◌≡◌, ℕ, zero, suc, List, [], ◌∷◌, length, replicate, Option, Some, None, refl, subst}
use Rattle.std.specs.Prelude.{slice_set}
use Rattle.std.specs.Option.{option_map_or}
use Rattle.contention_mgr.specs.Manager.{Managed, ManagerView, no_elements, settled, told, kept_at, kept_for}
use Rattle.contention_mgr.specs.Manager.{with_entry, entry_wanted}
use Rattle.lock_structure.specs.Entries.{entry_of_res}
use Rattle.contention_mgr.specs.Loads.{loaded}
use Rattle.contention_mgr.specs.Laws.{IsWellKept, AreWellKept, WellKeptBegins, EntriesAreWellKept, RequestsKeepWell}
use Rattle.contention_mgr.specs.Laws.{TellingKeepsWell}
use Rattle.contention_mgr.proofs.LawProofs.{ranks_begin, loaded_ranks_rise, ranks_rise, telling_keeps_ranks}
use Rattle.contention_mgr.proofs.OwnLemmas.{untold_own_begins, loaded_untold_own, untold_stay_owners}
use Rattle.contention_mgr.proofs.OwnLemmas.{telling_keeps_untold_own}

-- what is kept of an entry once one of the entries became another
kept-put : {P : Type 0} (es : List (Option Managed)) (i : ℕ) (o : Option Managed) (e : ℕ) (m : Managed)
    → kept_at (slice_set es i o) e ≡ Some m → (o ≡ Some m → P) → (kept_at es e ≡ Some m → P) → P
kept-put [] i o e m at here there = there at
kept-put (x ∷ es) zero o zero m at here there = here at
kept-put (x ∷ es) zero o (suc e) m at here there = there at
kept-put (x ∷ es) (suc i) o zero m at here there = there at
kept-put (x ∷ es) (suc i) o (suc e) m at here there = kept-put es i o e m at here there

pub with-well : (v : ManagerView) (i : ℕ) (m : Managed) → AreWellKept v → IsWellKept v.system.0 m
    → AreWellKept (with_entry v (Some i) (Some m))
with-well v i m all well e n at =
    kept-put v.entries i (Some m) e n at (λ same. let one : m ≡ n = cc in subst (IsWellKept v.system.0) one well)
    (all e n)

without-well : (v : ManagerView) (i : ℕ) → AreWellKept v → AreWellKept (with_entry v (Some i) None)
without-well v i all e n at = kept-put v.entries i None e n at (λ same. absurd cc) (all e n)

-- an entry that is managed becomes another
step-well : (v : ManagerView) (at : Option ℕ) (f : Managed → Managed)
    → ((m : Managed) → IsWellKept v.system.0 m → IsWellKept v.system.0 (f m)) → AreWellKept v
    → AreWellKept (option_map_or (λ m. with_entry v at (Some (f m))) (kept_for v.entries at) v)
step-well v None f keeps all = all
step-well v (Some i) f keeps all = by_kept (kept_at v.entries i) refl
  where
    by_kept : (o : Option Managed) → kept_at v.entries i ≡ o
        → AreWellKept (option_map_or (λ m. with_entry v (Some i) (Some (f m))) o v)
    by_kept None is = all
    by_kept (Some m) is = with-well v i (f m) all (keeps m (all i m is))

none-kept : (n e : ℕ) (m : Managed) → kept_at (replicate n None) e ≡ Some m → ⊥
none-kept zero e m at = cc
none-kept (suc n) zero m at = cc
none-kept (suc n) (suc e) m at = none-kept n e m at

pub well_kept_begins : WellKeptBegins
well_kept_begins system entries e m at = absurd (none-kept entries e m at)

pub entries_are_well_kept : EntriesAreWellKept
entries_are_well_kept v e all = (
  with-well v e no_elements all (record { ranked = ranks_begin; untold = untold_own_begins v.system.0 }),
  without-well v e all,
  λ xs loadable.
      with-well v e (loaded xs) all (record {
        ranked = loaded_ranks_rise (length v.entries) e xs loadable;
        untold = loaded_untold_own v.system.0 xs;
      }),
)

pub requests_keep_well : RequestsKeepWell
requests_keep_well v t w all = step-well v (entry_wanted (length v.entries) w) (λ m. settled v.system.0 m t w)
    (λ m well. record {
      ranked = ranks_rise v.system.0 m t w well.ranked;
      untold = untold_stay_owners v.system.0 m t w well.untold;
    })
    all

pub telling_keeps_well : TellingKeepsWell
telling_keeps_well v t r all = step-well v (entry_of_res (length v.entries) r) (told t r)
    (λ m well. record {
      ranked = telling_keeps_ranks t r m well.ranked;
      untold = telling_keeps_untold_own v.system.0 t r m well.untold;
    })
    all
