-- What any event comes to in star mode, and that the first world of a deck in star mode is as it should be.
use Rattle.grs_world.proofs.Common.{[], ◌++◌, ◌<◌, ◌∙◌, ◌≡◌, ap, Choice, chosen, cond, Deck, first_medium, first_node}
use Rattle.grs_world.proofs.Common.{first_nodes, first_part, first_world, inbox, length, List, Mail, most_systems}
use Rattle.grs_world.proofs.Common.{NodeState, None, refl, replicate, same_Some, slice_index_or, Some, StarPart, subst}
use Rattle.grs_world.proofs.Common.{suc, sym, SysId, true, Turnout, World, zero, ℕ}
use Rattle.grs_world.proofs.run.Sound.{first_history}
use Rattle.grs_world.proofs.run.First.{first_is}
use Rattle.grs_world.proofs.system.Begun.{first_seen}
use Rattle.grs_world.proofs.star.Ghosts.{without-box}
use Rattle.grs_world.proofs.star.Systems.{IsSystem}
use Rattle.grs_world.proofs.star.Worlds.{IsWhole, Hands, are_live, in_hands}
use Rattle.grs_world.proofs.star.Runs.{first_star}
use Rattle.grs_world.proofs.star.steps.Desk.{outcome-already, outcome-no_such}
use Rattle.grs_world.proofs.star.steps.Leave.{outcome-leave}
use Rattle.grs_world.proofs.star.steps.Outcome.{Comes, comes-known, comes-nothing, part}
use Rattle.grs_world.proofs.star.steps.Send.{outcome-away, outcome-began, outcome-own}
use Rattle.grs_world.proofs.star.steps.Settle.{outcome-settle}
use Rattle.grs_world.proofs.star.steps.Take.{outcome-take}
use Rattle.grs_world.proofs.star.steps.Task.{outcome-task}
use Rattle.grs_world.proofs.star.steps.Tell.{outcome-tell}
use Rattle.grs_world.proofs.run.Came.{ChoiceRemovesNone}
use Rattle.grs_world.proofs.star.Plain.{Acts, Came, acted, already, began, decided, informed, left, no_such, nothing}
use Rattle.grs_world.proofs.star.Plain.{came-usual, sent, settled, told, took, went_on}
use Rattle.grs_world.proofs.star.Usual.{usual}
use Rattle.grs_world.proofs.run.Knowing.{KnowsRemoved}
use Rattle.grs_world.proofs.run.Removals.{GoneAreRemoved}
use Rattle.grs_world.proofs.run.Chosen.{came}
use Rattle.grs_world.proofs.run.Site.{Site, IsThere}

-- ---- one event
-- what an event of a system comes to, whichever it chooses
module _ (deck : Deck) (some : 0 < deck.entries) (w : World) (g : IsWhole deck w) (c : SysId)
    (inside : c.0 < most_systems) (n : NodeState) (at : Site w c.0 n) where
  abbrev p : StarPart
  p = part deck w g c n at

  acts-outcome : (o : Turnout) → Acts deck w.medium c n p o → Comes deck w g c n o
  acts-outcome o (decided t a x asked mine) =
      outcome-own deck some w g c inside n at t asked.may a asked.asks x asked.entry mine
  acts-outcome o (began t a x asked other none) =
      outcome-began deck some w g c inside n at t asked.may a asked.asks x asked.entry other none
  acts-outcome o (sent t a x asked other to is apart) =
      outcome-away deck some w g c inside n at t asked.may a asked.asks x asked.entry other to is apart
  acts-outcome o (took mail rest is) = outcome-take deck w g c n at mail rest is
  acts-outcome o (settled q first serving) = outcome-settle deck w g c n at q first
  acts-outcome o (told e x first) = outcome-tell deck w g c n at e x first
  acts-outcome o (left x flags free by) = outcome-leave deck some w g c inside n at x free by flags

  pub came-outcome : GoneAreRemoved deck w → (o : Turnout) → Came deck w.medium c n p o → Comes deck w g c n o
  came-outcome removed o (nothing flags) = comes-nothing deck w g c n at flags
  came-outcome removed o (informed known) = comes-known deck w g c n at known
  came-outcome removed o (went_on t may) = outcome-task deck w g c n at t may
  came-outcome removed o (already next) = outcome-already deck w g c n at next
  came-outcome removed o (no_such target next gone) = outcome-no_such deck w g c n at removed target next gone
  came-outcome removed o (acted x acts) = acts-outcome o acts

  pub outcome : GoneAreRemoved deck w → KnowsRemoved w.medium n → (choice : Choice)
      → ChoiceRemovesNone deck w.medium c n choice → Comes deck w g c n (chosen deck w.medium c n choice)
  outcome removed known choice kept =
      came-outcome removed _ (came-usual deck w.medium c n p (usual deck w g c n at known) g.roles.mode choice _ _ kept
      (came deck w.medium c n at.live choice))

-- ---- the first world
pub no_mail : (k s : ℕ) → slice_index_or (replicate {A = List Mail} k []) s [] ≡ []
no_mail zero s = refl
no_mail (suc k) zero = refl
no_mail (suc k) (suc s) = no_mail k s

pub first_inbox : (deck : Deck) (s : ℕ) → inbox (first_medium (length deck.systems) deck.entries deck.star) s ≡ []
first_inbox deck s = no_mail (length deck.systems) s

first_system : (deck : Deck) (s : ℕ) → IsSystem deck (replicate deck.entries 0) [] s (first_node deck s) [] [] []
first_system deck s = record {
  at = without-box deck s [] [] [] (first_node deck s) (first_seen deck s);
  late = tt;
  sent = λ t h. refl;
  near = refl;
  coming = λ t home. tt;
  answered = λ t x home due gave. absurd (cc);
  fits = tt;
}

none_held : (deck : Deck) → deck.star ≡ true → (m : ℕ) (n : NodeState) (p : StarPart) → n ≡ first_node deck m
    → n.star ≡ Some p → p.held ≡ []
unfolding first_node
none_held deck star m n p same is =
    let part : StarPart = first_part (record { 0 = m }) deck.entries in
    let named : Some part ≡ Some p =
    sym (ap (λ b. cond b (Some part) None) star) ∙ (ap (λ (k : NodeState). k.star) (sym same) ∙ is) in
    ap (λ (z : StarPart). z.held) (sym (same_Some part p named))

pub first_whole : (deck : Deck) → deck.star ≡ true → IsWhole deck (first_world deck)
unfolding first_world
first_whole deck star = record {
  roles = first_star deck star;
  right = first_history deck;
  later = λ s. [];
  out = λ s. [];
  near = refl;
  system = λ s n v.
      subst (λ ms. IsSystem deck (replicate deck.entries 0) [] s n ms [] []) (sym (first_inbox deck s))
      (subst (λ (k : NodeState). IsSystem deck (replicate deck.entries 0) [] s k [] [] [])
      (sym (first_is deck s n v.at))
      (first_system deck s));
  hands = first_hands;
}
  where
    first_hands : (m : ℕ) (n : NodeState) (p : StarPart) → IsThere (first_nodes deck 0 deck.systems) 0 m n
        → n.star ≡ Some p →
        Hands deck (replicate deck.entries 0) (are_live (first_world deck)) (λ s. []) (λ s. []) m
        (in_hands p (inbox (first_medium (length deck.systems) deck.entries deck.star) m))
    first_hands m n p v is =
        subst (λ ms.
        Hands deck (replicate deck.entries 0) (are_live (first_world deck)) (λ s. []) (λ s. []) m (in_hands p ms))
        (sym (first_inbox deck m))
        (subst (λ hs.
        Hands deck (replicate deck.entries 0) (are_live (first_world deck)) (λ s. []) (λ s. []) m (hs ++ []))
        (sym (none_held deck star m n p (first_is deck m n v.at) is)) (record { each = tt; apart = refl }))
