-- The calls that were read so far, and the bounds of calls.
use Rattle.std.specs.Prelude.{ℕ, ◌+◌, List, [], ◌∷◌, ◌++◌}
use Rattle.grs_latch.specs.declared.call.LatchCall.{LatchCall}
use Rattle.grs_latch.specs.declared.call.LatchCall.TheVariants as calls
use Rattle.latch_form.specs.declared.form.Ask.{Ask}
use Rattle.latch_form.specs.declared.form.Ask.TheVariants.{Make, Obtain, Release, Purge}
use Rattle.latch_form.specs.declared.form.GivenCall.{GivenCall}
use Rattle.latch_form.specs.declared.judge.Draft.{Draft}

-- the greatest number of a requestor
abbrev pub most_requestor : ℕ
most_requestor = 65535

-- How many calls a text may have.
abbrev pub most_calls : ℕ
most_calls = 16384

-- How many sets a call makes, if they aren't there.
abbrev pub makes : Ask → ℕ
makes (Make n) = 1
makes _ = 0

abbrev pub call_for : List ℕ → Ask → LatchCall
call_for set (Make n) = calls.Crt set n
call_for set (Obtain l r c sync) = calls.Obt set l r c sync
call_for set (Release l r) = calls.Rel set l r
call_for set (Purge r) = calls.Prg set r

-- Nothing was read.
abbrev pub no_draft : Draft
no_draft = record { calls = []; made = 0 }

-- With one call more.
abbrev pub grow : Draft → GivenCall → Draft
grow d c = record { calls = d.calls ++ call_for c.set c.ask ∷ []; made = d.made + makes c.ask }
