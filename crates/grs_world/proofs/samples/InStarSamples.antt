-- Which systems a run removes while the complex is in star mode, told by hand.
use Rattle.grs_world.proofs.Common.{[], ◌++◌, ◌∷◌, ◌≡◌, all_sent, any_unseen, apply, at_rest, carry_out, change_to_star}
use Rattle.grs_world.proofs.Common.{chosen, cleared, closed_by, Deck, departed, desk_told, dropped, Event, false}
use Rattle.grs_world.proofs.Common.{finish, finish_call, finish_quiet, finish_star, first_after, first_node}
use Rattle.grs_world.proofs.Common.{first_world, happens, happens_at, has, is_pending, Line, List, lock_word, lose_each}
use Rattle.grs_world.proofs.Common.{losing, manager, map, medium_at_end, members_below, NoneInStar, placed, prepare}
use Rattle.grs_world.proofs.Common.{process, process_entry, purge_row, purged, put_in, read_entries, refl}
use Rattle.grs_world.proofs.Common.{removes_in_star, rest_after_turn, rest_row, row, run, stale, stamped, StarDone}
use Rattle.grs_world.proofs.Common.{switch_row, switched, SystemDef, take_up_below, tell_each, tell_freed, telling}
use Rattle.grs_world.proofs.Common.{told, true, turn_reply, turn_row, turned, unseen, VaryDone, wakes, with_also}
use Rattle.grs_world.proofs.Common.{without, ℕ}
use Rattle.grs_node.specs.Node.{turned as system_turned}
use Rattle.lock_structure.specs.Purge.{purged_word}
use Rattle.grs_world.specs.InStar.{NoneTakesEntries, have_changed, removals_in_star, takings_from}
use Rattle.grs_wire.specs.declared.told.Said.TheVariants.{StarAlready, VaryNoSuch}
use Rattle.grs_wire.specs.declared.deck.Desk.{Desk}
use Rattle.grs_wire.specs.declared.told.ToldLine.TheVariants.{Desk as AtDesk}
use Rattle.grs_world.specs.Decks.{may_remove}
use Rattle.grs_world.proofs.samples.Samples.{at, deck_of, rest, system, turn}
use Rattle.grs_world.proofs.samples.RemovalSamples.{purges}
use Rattle.grs_world.proofs.samples.StarSamples.{star_of}
use Rattle.grs_world.proofs.samples.SwitchSamples.{switches}
use Rattle.grs_wire.specs.declared.deck.Order.TheVariants as orders

-- Four systems without tasks; the desk of each has these commands.
abbrev idle : List (List (List Line))
idle = [] ∷ [] ∷ [] ∷ [] ∷ []

abbrev commanded : List Desk → Deck → Deck
commanded desk deck = record deck { systems = map (λ (s : SystemDef). record s { desk = desk }) deck.systems }

abbrev vary : ℕ → Desk
vary target = record { at = 0; order = orders.Vary (system target) }

abbrev change : Desk
change = record { at = 0; order = orders.Star }

-- which were removed already where one is removed in star mode
abbrev removed_at : Deck → List Event → List ℕ
removed_at deck es = map (λ m. m.removed) (removals_in_star deck es)

-- and where one is removed in star mode that manages a lock entry, or before all have changed
abbrev taken_at : Deck → List Event → List ℕ
taken_at deck es = map (λ m. m.removed) (takings_from deck (first_world deck) es)

-- In star mode the first system removes the third (1). The second doesn't know it (2), and then finds no such system
-- (3), which removes nobody; then it removes the fourth (4).
abbrev star : Deck
star = commanded (vary 2 ∷ vary 3 ∷ []) (star_of idle)

abbrev twice : List Event
twice = purges 0 2 ∷ purges 1 2 ∷ purges 1 2 ∷ purges 1 3 ∷ []

-- The same in ring mode, where a removal isn't one of these.
abbrev ring : Deck
ring = commanded (vary 2 ∷ vary 3 ∷ []) (deck_of idle)

-- Here the first system removes the fourth in ring mode (1), processes that at its Turn (2), and changes the complex
-- (3).
-- The second system doesn't know of the removal (4), and finds no such system in star mode (5); it is told that the
-- complex has changed (6), and then removes the third, which has yet to change, as it has itself (7).
abbrev changing : Deck
changing = commanded (vary 3 ∷ change ∷ vary 2 ∷ []) (deck_of idle)

abbrev changed : List Event
changed = purges 0 3 ∷ turn 0 ∷ switches 0 ∷ []

abbrev behind : List Event
behind = purges 1 3 ∷ purges 1 3 ∷ switches 1 ∷ []

abbrev last : List Event
last = purges 1 2 ∷ []

-- Or the second has its Turn first (7), and so has the third, once it is told who was removed (9): by these they change
-- too, and then the second removes the third (10).
abbrev all_change : List Event
all_change = turn 1 ∷ turn 2 ∷ turn 2 ∷ []

-- ---- which decks may remove a system
-- One does of which a desk orders a removal; the change to star mode is none.
pub ordered :
    (may_remove ring ≡ true)
    × (may_remove (deck_of idle) ≡ false)
    × (may_remove (commanded (change ∷ []) (deck_of idle)) ≡ false)
ordered = (refl, refl, refl)

-- ---- at rest
-- Of a star of three the first system removes the second. The world isn't at rest before the third was told of that, at
-- its next call.
abbrev by_first : List SystemDef → List SystemDef
by_first [] = []
by_first (s ∷ ss) = record s { desk = vary 1 ∷ [] } ∷ ss

abbrev alone : Deck
alone = let deck : Deck = star_of ([] ∷ [] ∷ [] ∷ []) in record deck { systems = by_first deck.systems }

pub rests_knowing :
    (at_rest alone (run alone []) ≡ false)
    × (at_rest alone (run alone (purges 0 1 ∷ [])) ≡ false)
    × (at_rest alone (run alone (purges 0 1 ∷ rest 0 ∷ [])) ≡ false)
    × (at_rest alone (run alone (purges 0 1 ∷ rest 2 ∷ [])) ≡ true)
    × (map (λ n. n.known) (run alone (purges 0 1 ∷ rest 2 ∷ [])).nodes ≡ 2 ∷ 0 ∷ 2 ∷ [])
unfolding telling is_pending all_sent change_to_star prepare finish_quiet finish_call finish finish_star first_node
    read_entries put_in switched desk_told purged system_turned process process_entry manager lock_word has without
    with_also purge_row switch_row turn_row row apply unseen any_unseen cleared stamped turn_reply
    wakes rest_after_turn dropped departed turned closed_by first_after first_world carry_out chosen placed happens_at
    happens losing members_below lose_each take_up_below stale tell_each rest_row medium_at_end at_rest
rests_knowing = (refl, refl, refl, refl, refl)

pub samples :
    (removed_at star twice ≡ 0 ∷ 4 ∷ [])
    × (told star twice
    ≡ at 1 0 (AtDesk 1 VaryDone) ∷ at 3 1 (AtDesk 1 VaryNoSuch) ∷ at 4 1 (AtDesk 2 VaryDone) ∷ [])
    × (removes_in_star star (run star []) (purges 0 2) ≡ true)
    × (removes_in_star star (run star (purges 0 2 ∷ [])) (purges 1 2) ≡ false)
    × (NoneInStar star [])
    × (NoneInStar star (rest 0 ∷ purges 3 3 ∷ []))
    -- in ring mode
    × (NoneInStar ring twice)
    × (told ring twice
    ≡ at 1 0 (AtDesk 1 VaryDone) ∷ at 3 1 (AtDesk 1 VaryNoSuch) ∷ at 4 1 (AtDesk 2 VaryDone) ∷ [])
    -- over a change of mode
    × (NoneInStar changing (changed ++ behind))
    × (removed_at changing (changed ++ behind ++ last) ≡ 8 ∷ [])
    × (map (λ m. m.message.still) (removals_in_star changing (changed ++ behind ++ last)) ≡ 6 ∷ [])
    -- of whom none manages an entry; but two systems have still to change where the last removes one
    × (NoneTakesEntries star twice)
    × (NoneTakesEntries changing (changed ++ behind))
    × (taken_at changing (changed ++ behind ++ last) ≡ 8 ∷ [])
    × (have_changed 8 0 (run changing (changed ++ behind)).nodes ≡ false)
    -- once they have, the removal of a system in star mode is no such one, though the fourth, which was removed in ring
    -- mode, never changes
    × (removed_at changing (changed ++ behind ++ all_change ++ last) ≡ 8 ∷ [])
    × (NoneTakesEntries changing (changed ++ behind ++ all_change ++ last))
    × (have_changed 8 0 (run changing (changed ++ behind ++ all_change)).nodes ≡ true)
    × (have_changed 0 0 (run changing (changed ++ behind ++ all_change)).nodes ≡ false)
    × (told changing (changed ++ behind ++ last)
    ≡ at 1 0 (AtDesk 1 VaryDone) ∷ at 3 0 (AtDesk 2 StarDone) ∷ at 5 1 (AtDesk 1 VaryNoSuch)
    ∷ at 6 1 (AtDesk 2 StarAlready) ∷ at 7 1 (AtDesk 3 VaryDone) ∷ [])
    × (told changing (changed ++ behind ++ all_change ++ last)
    ≡ at 1 0 (AtDesk 1 VaryDone) ∷ at 3 0 (AtDesk 2 StarDone) ∷ at 5 1 (AtDesk 1 VaryNoSuch)
    ∷ at 6 1 (AtDesk 2 StarAlready) ∷ at 10 1 (AtDesk 3 VaryDone) ∷ [])
unfolding telling is_pending all_sent change_to_star prepare finish_quiet finish_call finish finish_star first_node
    read_entries put_in switched desk_told purged system_turned process process_entry manager lock_word has without
    with_also purged_word purge_row switch_row turn_row row apply unseen any_unseen cleared stamped turn_reply
    wakes rest_after_turn dropped departed turned closed_by first_after first_world carry_out chosen placed happens_at
    happens losing members_below lose_each take_up_below stale tell_each tell_freed
samples = (
  refl,
  refl,
  refl,
  refl,
  refl,
  refl,
  refl,
  refl,
  refl,
  refl,
  refl,
  refl,
  refl,
  refl,
  refl,
  refl,
  refl,
  refl,
  refl,
  refl,
  refl,
)
