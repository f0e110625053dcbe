-- How answers and numbers are written.
use Rattle.std.specs.Prelude.{ℕ, ◌+◌, ◌/◌, ◌%◌, Bool, List, [], ◌∷◌, codes, if◌then◌else◌}
use Rattle.std.specs.Fmt.{decimal}
use Rattle.grs_base.specs.declared.resource.Ret.{Ret}
use Rattle.grs_base.specs.declared.resource.Ret.TheVariants.{RetNone, RetUse, RetHave, RetTest, RetChng, RetEcb}
use Rattle.grs_base.specs.declared.decision.Code.{Code}
use Rattle.grs_base.specs.declared.decision.Code.TheVariants.{C00, C04, C08, C14, C18, Wait, End}
use Rattle.grs_wire.specs.declared.told.Verb.{Verb}
use Rattle.grs_wire.specs.declared.told.Verb.TheVariants as verbs
use Rattle.grs_wire.specs.declared.told.Said.{Said}
use Rattle.grs_wire.specs.declared.told.Said.TheVariants.{StarDone, StarAlready, VaryDone, VaryNoSuch}
use Rattle.grs_wire.specs.declared.seen.TaskEnd.{TaskEnd}
use Rattle.grs_wire.specs.declared.seen.TaskEnd.TheVariants as ends

abbrev pub ret_word : Ret → List ℕ
ret_word RetNone = codes "NONE"
ret_word RetUse = codes "USE"
ret_word RetHave = codes "HAVE"
ret_word RetTest = codes "TEST"
ret_word RetChng = codes "CHNG"
ret_word RetEcb = codes "ECB"

-- RET=HAVE or RET=NONE of a DEQ
abbrev pub have_word : Bool → List ℕ
have_word have = if have then codes "HAVE" else codes "NONE"

-- an answer
abbrev pub code_word : Code → List ℕ
code_word C00 = codes "00"
code_word C04 = codes "04"
code_word C08 = codes "08"
code_word C14 = codes "14"
code_word C18 = codes "18"
code_word Wait = codes "WAIT"
code_word (End n) = decimal n

abbrev pub verb_word : Verb → List ℕ
verb_word verbs.Enq = codes "ENQ"
verb_word verbs.Deq = codes "DEQ"
verb_word verbs.Wait = codes "WAIT"
verb_word verbs.Gqscan = codes "GQSCAN"
verb_word verbs.Display = codes "DISPLAY"

-- the order that was given at a desk
abbrev pub order_word : Said → List ℕ
order_word StarDone = codes "SETGRS"
order_word StarAlready = codes "SETGRS"
order_word VaryDone = codes "VARY"
order_word VaryNoSuch = codes "VARY"

-- what was said to an order
abbrev pub said_word : Said → List ℕ
said_word StarDone = codes "DONE"
said_word StarAlready = codes "ALREADY"
said_word VaryDone = codes "DONE"
said_word VaryNoSuch = codes "NOSUCH"

-- how a task stands at the end of a run
abbrev pub end_word : TaskEnd → List ℕ
end_word ends.Ended = codes "ENDED"
end_word ends.Removed = codes "REMOVED"
end_word ends.Waits = codes "WAITS"
end_word ends.Open = codes "OPEN"

-- the number of the event in which something was told
abbrev pub event_word : ℕ → List ℕ
event_word e = 64 ∷ decimal e

-- the last three digits of a number
abbrev pub three_digits : ℕ → List ℕ
three_digits n = (48 + (n / 100) % 10) ∷ (48 + (n / 10) % 10) ∷ (48 + n % 10) ∷ []
