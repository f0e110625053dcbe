-- To whom a part is owed is one of as many systems as there may be.
use Rattle.std.proofs.Common.{◌≡◌, ◌<◌, ◌≤◌, ℕ, Bool, true, List, [], ◌∷◌, length, Option, Some, None, refl, subst}
use Rattle.std.proofs.Common.{arith}
use Rattle.std.proofs.lemmas.Bool.{and_parts, ltb-true}
use Rattle.std.proofs.lemmas.Bool.Decides.{nat_tests}
use Rattle.std.specs.List.{list_all}
use Rattle.std.specs.Option.{option_map_or}
use Rattle.std.specs.Prelude.{IfSome, nat_lt, ◌&&◌}
use Rattle.grs_base.specs.Limits.{most_systems}
use Rattle.grs_base.specs.declared.resource.SysId.{SysId}
use Rattle.grs_node.proofs.Orderly.{all-at}
use Rattle.grs_node.specs.Addressed.{AnyPartFits, is_owed_within}
use Rattle.grs_node.specs.Star.{StarPart, is_owed_named}
use Rattle.grs_wire.specs.declared.deck.Deck.{Deck}
use Rattle.star_client.specs.Owes.{OwesView, owed}

pub owed-named : (os : OwesView) (e : ℕ) (to : SysId) → list_all is_owed_named os ≡ true → owed os e ≡ Some to
    → to.0 < most_systems
owed-named os e to h is =
    ltb-true to.0 most_systems
    (subst (λ (o : Option SysId). is_owed_named o ≡ true) is (all-at is_owed_named os e h refl))

pub ruleset named = (owed-named)

-- so it is where the part fits a deck
module _ (deck : Deck) (few : length deck.systems ≤ most_systems) where
  one-named : (o : Option SysId) → is_owed_within deck o ≡ true → is_owed_named o ≡ true
  one-named None h = refl
  one-named (Some to) h =
      let below : to.0 < length deck.systems = ltb-true to.0 (length deck.systems) h in
      grind (arith, nat_tests, below, few)

  all-named : (os : OwesView) → list_all (is_owed_within deck) os ≡ true → list_all is_owed_named os ≡ true
  all-named [] h = refl
  all-named (o ∷ os) h =
      let parts = and_parts (is_owed_within deck o) (list_all (is_owed_within deck) os) h in
      joined _ _ (one-named o parts.0) (all-named os parts.1)
    where
      joined : (a b : Bool) → a ≡ true → b ≡ true → (a && b) ≡ true
      joined a b e f = rw (e, f) refl

  pub fits-owed : (home : ℕ) (o : Option StarPart) → AnyPartFits deck home o
      → IfSome o (λ p. list_all is_owed_named p.owes ≡ true)
  fits-owed home None h = tt
  fits-owed home (Some p) h = all-named p.owes h.gathering.owed
