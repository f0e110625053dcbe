-- What the loops over slices, entries and what was fixed have come to.
use Rattle.std.proofs.Common.{◌≡◌, ◌<◌, ◌≤◌, ◌+◌, ◌-◌, ℕ, suc, List, [], ◌∷◌, ◌++◌, length, drop, ap, sym, ◌∙◌, arith}
use Rattle.std.proofs.Common.{append_assoc}
use Rattle.std.proofs.Math.ListN.{drop_of_length-le}
use Rattle.grs_base.specs.State.{State}
use Rattle.grs_base.specs.Looks.{look}
use Rattle.grs_base.specs.declared.look.Filter.{Filter}
use Rattle.grs_base.specs.declared.look.Place.TheVariants.{Slice}
use Rattle.grs_base.specs.declared.resource.TaskId.{TaskId}
use Rattle.grs_wire.specs.History.{look_entries, replay_from}
use Rattle.grs_wire.specs.declared.history.HistEntry.{HistEntry}
use Rattle.grs_wire.specs.declared.history.HistEntry.TheVariants.{Look}

entries-next : (s : State) (t : TaskId) (slice n : ℕ) (f : Filter) (hist more all : List HistEntry)
    → hist ++ look_entries s t slice (suc n) f ≡ all
    → more ≡ hist ++ Look t (Slice slice) f (look s (Slice slice) f) ∷ []
    → more ++ look_entries s t (suc slice) n f ≡ all
entries-next s t slice n f hist more all h is =
    rw is (append_assoc hist (Look t (Slice slice) f (look s (Slice slice) f) ∷ []) (look_entries s t (suc slice) n f)
    ∙ h)

-- a slice more
pub entries-more : (s : State) (t : TaskId) (slice last : ℕ) (f : Filter) (hist more all : List HistEntry)
    → slice < last → hist ++ look_entries s t slice (last - slice) f ≡ all
    → more ≡ hist ++ Look t (Slice slice) f (look s (Slice slice) f) ∷ []
    → more ++ look_entries s t (slice + 1) (last - (slice + 1)) f ≡ all
entries-more s t slice last f hist more all b h is =
    let n : ℕ = last - suc slice in
    let room : last - slice ≡ suc n = omega arith in
    let step : more ++ look_entries s t (suc slice) n f ≡ all =
    entries-next s t slice n f hist more all (ap (λ (k : ℕ). hist ++ look_entries s t slice k f) (sym room) ∙ h) is in
    let next : slice + 1 ≡ suc slice = omega arith in
    rw next step

-- when all entries are passed
pub replay-end : (limit : ℕ) (s all : State) (hs : List HistEntry) (i : ℕ) → length hs ≤ i
    → replay_from limit s (drop i hs) ≡ all → s ≡ all
replay-end limit s all hs i past h = ap (replay_from limit s) (sym (drop_of_length-le hs past)) ∙ h
