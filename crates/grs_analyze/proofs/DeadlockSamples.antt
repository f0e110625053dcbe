-- Worked rows of deadlocks.
use Rattle.std.proofs.Common.{◌≡◌, ℕ, true, false, List, [], ◌∷◌, ◌++◌, refl, inl, inr}
use Rattle.grs_base.specs.declared.resource.Ctl.TheVariants.{E}
use Rattle.grs_base.specs.declared.resource.Ret.TheVariants.{RetNone, RetEcb}
use Rattle.grs_base.specs.declared.decision.Code.{Code}
use Rattle.grs_base.specs.declared.decision.Code.TheVariants.{C00, C04, Wait}
use Rattle.grs_base.specs.declared.line.Line.{Line}
use Rattle.grs_base.specs.declared.line.Line.TheVariants as lines
use Rattle.grs_base.specs.declared.line.Scope.TheVariants as scopes
use Rattle.grs_base.specs.declared.resource.Ret.{Ret}
use Rattle.grs_base.specs.declared.rnl.Which.TheVariants as which
use Rattle.grs_base.specs.Rnl.{no_entries}
use Rattle.grs_wire.specs.declared.deck.Deck.{Deck}
use Rattle.grs_wire.specs.declared.history.HistEntry.{HistEntry}
use Rattle.grs_wire.specs.declared.history.HistEntry.TheVariants.{Enq, Deq}
use Rattle.grs_base.specs.State.{list_of}
use Rattle.grs_wire.specs.History.{replay}
use Rattle.grs_analyze.specs.Depends.{waits_for}
use Rattle.grs_analyze.specs.Greatest.{is_among}
use Rattle.grs_analyze.specs.Deadlocks.{IsHeldFor, IsStuck}
use Rattle.grs_analyze.proofs.Samples.{task, res}

-- a deck whose tasks have no lines, so none is held by a WAIT line
abbrev deck : Deck
deck = record {
  star = false;
  entries = 1;
  limit = 9;
  lists = record { incl = no_entries which.Incl; excl = no_entries which.Excl; con = no_entries which.Con };
  systems = [];
  events = [];
}

-- each of two tasks has what the other was left waiting for
abbrev crossing : List HistEntry
crossing =
    Enq (task 0) (res 88) E RetNone C00 ∷ Enq (task 1) (res 89) E RetNone C00 ∷ Enq (task 0) (res 89) E RetNone Wait
    ∷ Enq (task 1) (res 88) E RetNone Wait ∷ []

first_is_stuck : IsStuck deck crossing (task 0 ∷ task 1 ∷ []) (task 0)
first_is_stuck = record { res = res 89; held = inl (refl, refl); waits = refl }

second_is_stuck : IsStuck deck crossing (task 0 ∷ task 1 ∷ []) (task 1)
second_is_stuck = record { res = res 88; held = inl (refl, refl); waits = refl }

-- it isn't stuck for the sake of itself alone
not_by_itself : waits_for (is_among (task 0 ∷ [])) (task 0) (list_of (replay 9 crossing) (res 89)) ≡ false
not_by_itself = refl

codes_differ : C04 ≡ Wait → ⊥
codes_differ e = cc

-- who asked by ECB isn't held by that
asked_by_ecb : IsHeldFor deck (Enq (task 1) (res 88) E RetNone C00 ∷ Enq (task 0) (res 88) E RetEcb C04 ∷ []) (task 0) (res 88)
    → ⊥
asked_by_ecb (inl left) = codes_differ left.1
asked_by_ecb (inr line) = line

-- Lines that ask for (A, r) of the system, give it back, and wait for it; and a deck of two tasks, each of which asks for
-- what it has to itself, by ECB for what the other has, and waits for that. The second one is there to give up.
abbrev asks : ℕ → Ret → Line
asks r ret = lines.Enq (record { ctl = E; scope = scopes.System; q = 65 ∷ []; r = r ∷ [] } ∷ []) ret true

abbrev waits : ℕ → Line
waits r = lines.Wait (65 ∷ []) (r ∷ []) scopes.System true

abbrev waiting : Deck
waiting = record {
  star = false;
  entries = 1;
  limit = 9;
  lists = record { incl = no_entries which.Incl; excl = no_entries which.Excl; con = no_entries which.Con };
  systems = record {
    name = 65 ∷ [];
    desk = [];
    jobs = record {
      name = 74 ∷ [];
      tasks = record { name = 48 ∷ []; lines = asks 88 RetNone ∷ asks 89 RetEcb ∷ waits 89 ∷ [] }
          ∷ record { name = 49 ∷ []; lines = asks 89 RetNone ∷ asks 88 RetEcb ∷ waits 88 ∷ [] }
          ∷ record { name = 50 ∷ []; lines = asks 88 RetEcb ∷ waits 90 ∷ waits 88 ∷ [] }
          ∷ [];
    } ∷ [];
  } ∷ [];
  events = [];
}

abbrev enq : ℕ → ℕ → Ret → Code → HistEntry
enq n r ret code = Enq (task n) (res r) E ret code

-- each of two tasks has what the other waits for by ECB, and comes to its WAIT line
abbrev posted : List HistEntry
posted = enq 0 88 RetNone C00 ∷ enq 1 89 RetNone C00 ∷ enq 0 89 RetEcb C04 ∷ enq 1 88 RetEcb C04 ∷ []

first_is_held_by_its_line : IsStuck waiting posted (task 0 ∷ task 1 ∷ []) (task 0)
first_is_held_by_its_line = record { res = res 89; held = inr refl; waits = refl }

second_is_held_by_its_line : IsStuck waiting posted (task 0 ∷ task 1 ∷ []) (task 1)
second_is_held_by_its_line = record { res = res 88; held = inr refl; waits = refl }

granted_differs : C00 ≡ Wait → ⊥
granted_differs e = cc

line_is_there : false ≡ true → ⊥
line_is_there e = cc

-- before it asked by ECB the first one isn't
not_held_before : IsHeldFor waiting (enq 0 88 RetNone C00 ∷ []) (task 0) (res 89) → ⊥
not_held_before (inl left) = granted_differs left.1
not_held_before (inr line) = line_is_there line

-- it is held for the resource of its line, and for no other one
not_held_for_its_own : IsHeldFor waiting posted (task 0) (res 88) → ⊥
not_held_for_its_own (inl left) = codes_differ left.1
not_held_for_its_own (inr line) = line_is_there line

-- with several WAIT lines next, it is held for the resource of each
both_lines_hold : IsHeldFor waiting (enq 0 88 RetNone C00 ∷ enq 2 88 RetEcb C04 ∷ []) (task 2) (res 88)
both_lines_hold = inr refl

-- who got control waits behind nobody any more
control_came : waits_for (is_among (task 0 ∷ task 1 ∷ [])) (task 0)
    (list_of (replay 9 (posted ++ Deq (task 1) (res 89) false C00 ∷ [])) (res 89)) ≡ false
control_came = refl
