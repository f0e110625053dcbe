-- Who asks at a system, and what the system tells.
use Rattle.std.proofs.Common.{◌≡◌, ℕ, Bool, true, false, not, ◌&&◌, List, [], ◌∷◌, ◌++◌, map, cond}
use Rattle.std.specs.Prelude.{◌==◌, is_some}
use Rattle.grs_base.specs.declared.resource.TaskId.{TaskId}
use Rattle.grs_legal.specs.Asks.{lines_of}
use Rattle.grs_wire.specs.declared.deck.Deck.{Deck}
use Rattle.grs_wire.specs.declared.history.HistEntry.{HistEntry}
use Rattle.grs_wire.specs.declared.request.Fixed.{Fixed}
use Rattle.grs_wire.specs.declared.request.Fixed.TheVariants.{Asked, LocalLook, Purged}
use Rattle.grs_wire.specs.declared.request.Req.{Req}
use Rattle.grs_wire.specs.declared.told.ToldLine.{ToldLine}
use Rattle.grs_wire.specs.declared.told.ToldLine.TheVariants as told
use Rattle.grs_known.specs.Items.{RunItem}
use Rattle.grs_known.specs.Told.{AgreesOf}
use Rattle.grs_known.proofs.lists.Owners.{is_among}

-- whether a task is of the deck and of this system
abbrev pub is_home_at : Deck → ℕ → TaskId → Bool
is_home_at deck s t = (t.system.0 == s) && is_some (lines_of deck t)

-- the tasks of these requests
abbrev pub askers : List Req → List TaskId
askers qs = map (λ q. q.task) qs

-- whether no task stands twice among these
abbrev pub stand_apart : List TaskId → Bool
stand_apart [] = true
stand_apart (t ∷ ts) = not (is_among t ts) && stand_apart ts

-- the requests of this system's tasks among these items
abbrev pub own_asked : ℕ → Fixed → List Req
own_asked s (Asked q) = cond (q.task.system.0 == s) (q ∷ []) []
own_asked s (LocalLook t f) = []
own_asked s (Purged target) = []

abbrev pub own_requests : ℕ → List RunItem → List Req
own_requests s [] = []
own_requests s (x ∷ xs) = own_asked s x.fixed ++ own_requests s xs

-- ---- lines told
-- a line that is told to a task agrees with a history, behind lines told before
abbrev pub AgreesBehind : Deck → List HistEntry → List ToldLine → ToldLine → Type 0
AgreesBehind deck P T (told.Coded t k part verb code) =
    (part ≡ 0) × AgreesOf deck.limit (lines_of deck t) P T (told.Coded t k part verb code)
AgreesBehind deck P T (told.Shown t k verb code rows) =
    AgreesOf deck.limit (lines_of deck t) P T (told.Shown t k verb code rows)
AgreesBehind deck P T (told.Post t k) = AgreesOf deck.limit (lines_of deck t) P T (told.Post t k)
AgreesBehind deck P T (told.Ended t code) = AgreesOf deck.limit (lines_of deck t) P T (told.Ended t code)
AgreesBehind deck P T (told.Desk k said) = ⊥

-- who is told an answer has none of these requests
abbrev pub Clears : List Req → ToldLine → Type 0
Clears opens (told.Coded t k part verb code) = is_among t (askers opens) ≡ false
Clears opens (told.Shown t k verb code rows) = is_among t (askers opens) ≡ false
Clears opens (told.Post t k) = Unit {0}
Clears opens (told.Ended t code) = Unit {0}
Clears opens (told.Desk k said) = Unit {0}

-- whether a line is told to a task of this system
abbrev pub is_line_of : ℕ → ToldLine → Bool
is_line_of s (told.Coded t k part verb code) = t.system.0 == s
is_line_of s (told.Shown t k verb code rows) = t.system.0 == s
is_line_of s (told.Post t k) = t.system.0 == s
is_line_of s (told.Ended t code) = t.system.0 == s
is_line_of s (told.Desk k said) = false

-- The lines that a system tells in a step: each is told to a task of this system, agrees with the history, and answers
-- only who has none of the open requests.
pub data ToldBy (deck : Deck) (s : ℕ) (opens : List Req) (P : List HistEntry) (T0 : List ToldLine) : List ToldLine
    → Type 0 where
  none : ToldBy deck s opens P T0 T0
  more : (T : List ToldLine) (l : ToldLine) → ToldBy deck s opens P T0 T → is_line_of s l ≡ true
      → AgreesBehind deck P T l → Clears opens l → ToldBy deck s opens P T0 (T ++ l ∷ [])
