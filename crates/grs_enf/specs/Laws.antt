-- Laws of notices.
use Rattle.std.specs.Prelude.{◌≡◌, ℕ, Bool, true, false, not, List, [], ◌∷◌}
use Rattle.std.specs.List.{list_any}
use Rattle.grs_base.specs.Same.{same_res}
use Rattle.grs_base.specs.State.{State, list_of, pick}
use Rattle.grs_base.specs.declared.resource.Res.{Res}
use Rattle.grs_wire.specs.History.{step, replay}
use Rattle.grs_wire.specs.declared.deck.Deck.{Deck}
use Rattle.grs_wire.specs.declared.history.HistEntry.{HistEntry}
use Rattle.grs_legal.specs.Legal.{Legal}
use Rattle.grs_enf.specs.declared.notice.Noted.{Noted}
use Rattle.grs_enf.specs.declared.notice.What.{What}
use Rattle.grs_enf.specs.declared.notice.What.TheVariants.{Begin, Change, End as Ends}
use Rattle.grs_enf.specs.Notices.{is_contended, resources_of, notices, told_notices}

-- The codes of a legal history tell its notices.
abbrev pub CodesTellNotices : Type 0
CodesTellNotices = (deck : Deck) (hist : List HistEntry) → Legal deck hist → told_notices hist ≡ notices deck.limit hist

-- An entry changes no list but those of the resources at which is looked, so no other list needs to be looked at.
abbrev pub OthersStay : Type 0
OthersStay =
    (limit : ℕ) (s : State) (h : HistEntry) (r : Res) → list_any (same_res r) (resources_of s h) ≡ false
    → list_of (step limit s h) r ≡ list_of s r

-- what is noticed of a resource, in order
abbrev pub whats_of : Res → List Noted → List What
whats_of r ns = pick (λ n. same_res r n.notice.res) (λ n. n.notice.what) ns

-- Whether notices lead from one state of a resource, contended or not, to another: it begins to be contended only where
-- it isn't, and changes and ends only where it is.
abbrev pub leads : Bool → List What → Bool → Bool
leads false [] to = not to
leads true [] to = to
leads false (Begin ∷ ws) to = leads true ws to
leads true (Begin ∷ ws) to = false
leads false (Change ∷ ws) to = false
leads true (Change ∷ ws) to = leads true ws to
leads false (Ends ∷ ws) to = false
leads true (Ends ∷ ws) to = leads false ws to

-- Of each resource BEGIN and END come by turns, BEGIN first, and CHANGE between them alone; and in the end the resource
-- is contended exactly where the last of BEGIN and END was BEGIN.
abbrev pub NoticesAlternate : Type 0
NoticesAlternate =
    (limit : ℕ) (hist : List HistEntry) (r : Res)
    → leads false (whats_of r (notices limit hist)) (is_contended (list_of (replay limit hist) r)) ≡ true
