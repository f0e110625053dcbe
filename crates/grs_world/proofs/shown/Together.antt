-- In a star that loses nobody each element is on record, with its rank, at its task's system once that has taken the
-- mail of its inbox.
use Rattle.grs_world.proofs.Common.{[], ◌∙◌, ◌∷◌, ◌≡◌, ◌⊎◌, Bool, Deck, has_res, has_task, inbox, inl, inr, is_home_at}
use Rattle.grs_world.proofs.Common.{is_systems, items, List, list_any, list_of, no_truth, NodeState, None, Option, Rec}
use Rattle.grs_world.proofs.Common.{record_of, refl, Res, Some, StarPart, state_of, sym, TaskId, true, World, ℕ}
use Rattle.grs_known.proofs.tasks.Records.{not_found}
use Rattle.grs_world.proofs.shown.CaughtUp.{AllTimely, CaughtBy, caught-up}
use Rattle.grs_world.proofs.run.Site.{Site}
use Rattle.grs_world.proofs.star.Heard.{IsHeard, IsInHands, is_timely, sent_by}
use Rattle.grs_world.proofs.star.Members.{all_lists}
use Rattle.grs_world.proofs.star.Worlds.{IsWhole}
use Rattle.grs_world.proofs.star.hearing.Elements.{IsDueOn, due-sent, recorded-or-due}
use Rattle.grs_world.proofs.star.hearing.Passing.{not-handed}
use Rattle.grs_world.proofs.star.ranks.Ranked.{AreShown, HasShown}
use Rattle.grs_world.proofs.star.ranks.Shows.{shows-record}
use Rattle.grs_world.specs.Kept.{taking}

-- what is on record is found
found-record : (xs : List Rec) (r : Res) → has_res r xs ≡ true → (y : Rec) × (record_of xs r ≡ Some y)
found-record xs r has_it = go (record_of xs r) refl
  where
    go : (o : Option Rec) → record_of xs r ≡ o → (y : Rec) × (record_of xs r ≡ Some y)
    go (Some y) e = (y, e)
    go None e = no_truth (has_res r xs) has_it (not_found xs r e)

module _ (deck : Deck) (w : World) (g : IsWhole deck w) (sent : ℕ → TaskId → Bool) (had : ℕ → TaskId → Res → Bool)
    (h : IsHeard deck w sent had) (s : ℕ) (n : NodeState) (at : Site w s n)
    (is : (t : TaskId) → is_home_at deck s t ≡ true → sent_by n t ≡ true → sent s t ≡ true) where
  -- each item that is still to come has an answer that comes in time
  timely-all : AllTimely deck w.medium.words (items w.fixed) g.right s (g.later s) (inbox w.medium s)
  timely-all t home x due =
      let asked =
      due-sent deck w.medium.words (items w.fixed) g.right s n (inbox w.medium s) (g.later s) (g.out s)
      (g.system s n at) t home x due in
      go (h.requests s n t at home (is t home asked.1))
    where
      go : IsInHands w.medium w.nodes t ⊎ (list_any (is_timely t) (inbox w.medium s) ≡ true)
          → list_any (is_timely t) (inbox w.medium s) ≡ true
      go (inl i) = absurd (not-handed deck w g s t x home due i)
      go (inr e) = e

  -- So it catches up.
  pub caught : (p : StarPart) → n.star ≡ Some p
      → CaughtBy deck w.medium.words (items w.fixed) g.right s n (inbox w.medium s)
  caught p star =
      caught-up deck w.medium.words (items w.fixed) g.right s (inbox w.medium s) n p star (g.later s) (g.out s)
      (g.system s n at) timely-all

  -- and has each element of its tasks on record, with its rank
  module _ (ranked : AreShown deck w) (p : StarPart) (star : n.star ≡ Some p) (t : TaskId) (r : Res)
      (home : is_home_at deck s t ≡ true) (wide : is_systems r ≡ true)
      (stands : has_task (list_of (all_lists w) r) t ≡ true) where
    abbrev later_node : NodeState
    later_node = taking deck n (inbox w.medium s)

    on-record : has_res r (state_of later_node.tasks t).records ≡ true
    on-record =
        let c = (caught p star).0 in
        go (recorded-or-due deck w.medium.words (items w.fixed) g.right s later_node [] c.later c.out c.system t home r
        stands)
      where
        go : (has_res r (state_of later_node.tasks t).records ≡ true)
            ⊎ IsDueOn deck w.medium.words s later_node ((caught p star).0).later t r
            → has_res r (state_of later_node.tasks t).records ≡ true
        go (inl e) = e
        go (inr d) =
            absurd (let none : [] ≡ d.item ∷ [] = sym (((caught p star).0).idle t home) ∙ d.due in cc)

    pub its-record : (y : Rec) × (record_of (state_of later_node.tasks t).records r ≡ Some y)
        × (y.rank ≡ (ranked s n t r at home wide stands).rank)
    its-record =
        let found = found-record (state_of later_node.tasks t).records r on-record in
        let k : HasShown w s n t r = ranked s n t r at home wide stands in (
          found.0,
          found.1,
          shows-record r t k.rank (state_of later_node.tasks t).records []
              ((caught p star).1 t r k.rank home wide stands k.shown) found.0 found.1,
        )
