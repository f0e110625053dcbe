-- The words change for one system alone: what is said of the others, and of the requests in a system's hands, stays.
use Rattle.grs_world.proofs.Common.{[], ◌∙◌, ◌∷◌, ◌≡◌, ◌≢◌, Bool, Deck, List, Req, RunItem, State, true, ℕ}
use Rattle.grs_world.proofs.star.Members.{Moves, has_manager}
use Rattle.grs_world.proofs.star.Systems.{Keeps}
use Rattle.grs_world.proofs.star.Worlds.{AllHands, Hands, IsHand}

-- what the words say of another system
pub others-keep : (deck : Deck) (c : ℕ) (words words' : List ℕ) (L L' : State) → Moves deck c words words' L L'
    → (s : ℕ) → s ≢ c → Keeps words words' s
others-keep deck c words words' L L' m s ne = record {
  away = λ e a. (m.managers e s ne ∙ a.0, m.interest e s ne ∙ a.1);
  near = λ e near. m.interest e s ne ∙ near;
}

-- The requests in the hands of a system, where it still manages the entry of each.
module _ (deck : Deck) (words words' : List ℕ) (live : ℕ → Bool) (later : ℕ → List RunItem) (out : ℕ → List Req) (m : ℕ)
    (still : (q : Req) (h : IsHand deck words live later out m q) → has_manager words' h.entry m ≡ true) where
  each-words : (qs : List Req) → AllHands deck words live later out m qs → AllHands deck words' live later out m qs
  each-words [] h = tt
  each-words (q ∷ qs) h = (
    record {
      apart = h.0.apart;
      below = h.0.below;
      among = h.0.among;
      idle = h.0.idle;
      entry = h.0.entry;
      at = h.0.at;
      managed = still q h.0;
    },
    each-words qs h.1,
  )

  pub hands-words : (qs : List Req) → Hands deck words live later out m qs → Hands deck words' live later out m qs
  hands-words qs h = record { each = each-words qs h.each; apart = h.apart }
