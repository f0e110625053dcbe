-- What the systems keep is the history's state.
use Rattle.grs_world.proofs.Common.{◌∙◌, ◌≡◌, ap, arith, Bool, Deck, Event, false, has, is_live, is_systems, items}
use Rattle.grs_world.proofs.Common.{items_are_history, List, list_of, lists, NodeState, None, Option, places}
use Rattle.grs_world.proofs.Common.{read_entries, refl, replay, replayed, Res, rounds, run, slice_get, slice_get-past}
use Rattle.grs_world.proofs.Common.{Some, sym, SysId, table-is, true, unseen, World}
use Rattle.grs_world.specs.Kept.{in_table, kept_in}
use Rattle.grs_known.proofs.ring.Parts.{list_of-systems}
use Rattle.grs_medium.specs.Medium.{live as live_of}
use Rattle.grs_world.proofs.run.InRing.{IsRing, live-is}
use Rattle.grs_world.proofs.run.Messages.{given-later}
use Rattle.grs_world.proofs.run.Outcomes.{turn_table}
use Rattle.grs_world.proofs.run.Runs.{GoodWorld}

module _ (deck : Deck) (es : List Event) (r : Res) (all : is_systems r ≡ true) (ring : IsRing deck (run deck es))
    (g : GoodWorld deck es (run deck es)) (mode : (run deck es).medium.star ≡ false) where
  abbrev w : World
  w = run deck es

  -- The history's list is that of the items which went with the message.
  by_rounds : list_of (lists (rounds (items w.fixed))) r ≡ places deck es r
  by_rounds =
      ap (λ s. list_of s r) (table-is (items w.fixed)) ∙ list_of-systems (lists (items w.fixed)) r all
      ∙ ap (λ s. list_of s r)
      (replayed deck (items w.fixed) g.history ∙ ap (replay deck.limit) (items_are_history w.fixed).0)

  -- A system that processes what it hasn't seen has processed all of them.
  in_ring : (s : SysId) (n : NodeState) → slice_get w.nodes s.0 ≡ Some n → has (live_of w.medium) s.0 ≡ true
      → list_of (read_entries deck n (unseen s w.medium.message.entries)).shared r ≡ places deck es r
  in_ring s n at alive =
      let given = given-later w.medium s g.before (g.later s.0) (items w.fixed) (g.whole s.0) alive g.message in
      ap (λ t. list_of t r) (turn_table deck s (items w.fixed) (g.before s.0) (g.later s.0) g.history (g.whole s.0) n
      (g.systems s.0 n at alive) (unseen s w.medium.message.entries) given)
      ∙ by_rounds

  pub kept_is : (s : SysId) → is_live w s ≡ true → (star : Bool) → w.medium.star ≡ star
      → kept_in star deck w s r ≡ places deck es r
  kept_is s live true is = let no : true ≡ false = sym is ∙ mode in absurd (cc)
  kept_is s live false is = go (slice_get w.nodes s.0) refl
    where
      go : (o : Option NodeState) → slice_get w.nodes s.0 ≡ o → in_table deck w s o r ≡ places deck es r
      go None at = let past = slice_get-past w.nodes s.0 at in absurd (grind (arith, live, past))
      go (Some n) at = in_ring s n at (live-is deck w ring s.0 ∙ live)
