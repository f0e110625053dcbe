-- Laws of histories.
use Rattle.std.proofs.Common.{◌≡◌, ℕ, Bool, true, false, cond, List, [], ◌∷◌, ◌++◌, refl, subst, sym}
use Rattle.grs_base.specs.Same.{same_res}
use Rattle.grs_base.specs.Lists.{is_apart, is_owner, standing_of, list_without}
use Rattle.grs_base.specs.State.{State, list_of, is_full, without}
use Rattle.grs_base.specs.declared.resource.Res.{Res}
use Rattle.grs_base.proofs.SameLaws.{same_res-exact}
use Rattle.grs_base.proofs.StateLaws.{list_at-without, res_equality, list_of-effect}
use Rattle.grs_wire.specs.History.{step, replay_from}
use Rattle.grs_wire.specs.Laws.{list_stepped, KeepsOtherLists, StepsByLists, KeepsOwners, NoneTwice}
use Rattle.grs_wire.specs.declared.history.HistEntry.{HistEntry}
use Rattle.grs_wire.specs.declared.history.HistEntry.TheVariants.{Enq, Deq, Release, Look, Remove}
use Rattle.grs_wire.specs.declared.request.Want.TheVariants as wants
use Rattle.grs_wire.proofs.WantLaws.{list_of-want_other, owns-want, apart-want}
use Rattle.grs_wire.proofs.RemoveLaws.{list_of-remove, list_of-remove_other, owns-remove, apart-remove}

pub keeps_other_lists : KeepsOtherLists
keeps_other_lists limit s (Enq t r c ret code) q h = list_of-want_other s t (wants.Enq r c ret (is_full limit s t)) q h
keeps_other_lists limit s (Deq t r have code) q h = list_of-want_other s t (wants.Deq r have) q h
keeps_other_lists limit s (Release t r) q h = list_of-want_other s t (wants.Release r) q h
keeps_other_lists limit s (Look t place f rows) q h = refl
keeps_other_lists limit s (Remove by target) q h = list_of-remove_other s target.0 q h

-- what is said of an entry's own resource is said of each that is the same
at_its_own : (P : Res → Type 0) (q r : Res) → same_res q r ≡ true → P r → P q
at_its_own P q r h p = subst P (sym (same_res-exact q r h)) p

pub steps_by_lists : StepsByLists
steps_by_lists limit s (Enq t r c ret code) q h =
    at_its_own (λ x.
    list_of (step limit s (Enq t r c ret code)) x ≡ list_stepped (is_full limit s) (list_of s x) (Enq t r c ret code))
    q r h (list_of-effect s r t c _)
steps_by_lists limit s (Deq t r have code) q h =
    at_its_own (λ x.
    list_of (step limit s (Deq t r have code)) x ≡ list_stepped (is_full limit s) (list_of s x) (Deq t r have code))
    q r h (cases (is_owner (standing_of (list_of s r) t)))
  where
    cases : (b : Bool)
        → list_of (cond b (without same_res s r t) s) r ≡ cond b (list_without (list_of s r) t) (list_of s r)
    cases true = list_at-without same_res res_equality s r t
    cases false = refl
steps_by_lists limit s (Release t r) q h =
    at_its_own (λ x.
    list_of (step limit s (Release t r)) x ≡ list_stepped (is_full limit s) (list_of s x) (Release t r))
    q r h (list_at-without same_res res_equality s r t)
steps_by_lists limit s (Look t place f rows) q h = refl
steps_by_lists limit s (Remove by target) q h = list_of-remove s target.0 q h

pub keeps_owners : KeepsOwners
keeps_owners limit s (Enq u r c ret code) q t apart own =
    owns-want s u (wants.Enq r c ret (is_full limit s u)) q t apart own
keeps_owners limit s (Deq u r have code) q t apart own = owns-want s u (wants.Deq r have) q t apart own
keeps_owners limit s (Release u r) q t apart own = owns-want s u (wants.Release r) q t apart own
keeps_owners limit s (Look u place f rows) q t apart own = own
keeps_owners limit s (Remove by target) q t apart own = owns-remove s target.0 q t apart own

-- no task comes to stand twice
pub apart-step : (limit : ℕ) (s : State) (h : HistEntry) (q : Res) → ((r : Res) → is_apart (list_of s r) ≡ true)
    → is_apart (list_of (step limit s h) q) ≡ true
apart-step limit s (Enq u r c ret code) q all = apart-want s u (wants.Enq r c ret (is_full limit s u)) q all
apart-step limit s (Deq u r have code) q all = apart-want s u (wants.Deq r have) q all
apart-step limit s (Release u r) q all = apart-want s u (wants.Release r) q all
apart-step limit s (Look u place f rows) q all = all q
apart-step limit s (Remove by target) q all = apart-remove s target.0 q (all q)

apart-replay : (limit : ℕ) (hs : List HistEntry) (s : State) → ((r : Res) → is_apart (list_of s r) ≡ true) → (r : Res)
    → is_apart (list_of (replay_from limit s hs) r) ≡ true
apart-replay limit [] s all r = all r
apart-replay limit (h ∷ hs) s all r = apart-replay limit hs (step limit s h) (λ q. apart-step limit s h q all) r

pub none_twice : NoneTwice
none_twice limit hs r = apart-replay limit hs [] (λ q. refl) r

pub replay_from-append : (limit : ℕ) (s : State) (hs gs : List HistEntry)
    → replay_from limit s (hs ++ gs) ≡ replay_from limit (replay_from limit s hs) gs
replay_from-append limit s [] gs = refl
replay_from-append limit s (h ∷ hs) gs = replay_from-append limit (step limit s h) hs gs
