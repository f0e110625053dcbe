-- The removal of a system that manages no lock entry leaves each entry's manager, takes its interest out of the words,
-- and puts no notice into any inbox.
use Rattle.grs_world.proofs.Common.{[], ◌&&◌, ◌++◌, ◌<◌, ◌==◌, ◌∙◌, ◌∷◌, ◌≡◌, ◌≢◌, ◌≤◌, and-true, ap, append-nil, arith}
use Rattle.grs_world.proofs.Common.{Bool, cond, eq-eqb, false, filter, get_or, has, has-zero, inbox, inbox_of, interest}
use Rattle.grs_world.proofs.Common.{is_interested, is_manager, length, length-map, List, lt-ltb, ltb-true, Mail}
use Rattle.grs_world.proofs.Common.{manager, manager_at, map, MediumState, Moved, nat_lt, ne_eqb, no_truth, not, refl}
use Rattle.grs_world.proofs.Common.{subst, suc, sym, SysId, systems_of, true, without_in_star, word_at, zero, ℕ}
use Rattle.grs_medium.proofs.Removals.{inbox-left, told_to}
use Rattle.grs_medium.specs.Inboxes.{notices_to}
use Rattle.lock_structure.proofs.Purges.{purge_keeps_others, purge_takes_target}
use Rattle.lock_structure.specs.Purge.{made_known, moved_at, moved_for, purged_word, purged_words}
use Rattle.std.proofs.lemmas.List.{get_or-map}
use Rattle.std.specs.List.{flat_map, range_with_len}
use Rattle.grs_world.proofs.star.Runs.{word_past}

-- an inbox that isn't there is empty
pub box-past : (boxes : List (List Mail)) (i : ℕ) → length boxes ≤ i → inbox_of boxes i ≡ []
box-past [] i h = refl
box-past (b ∷ boxes) zero h = absurd (omega (arith, h))
box-past (b ∷ boxes) (suc i) h = box-past boxes i (omega (arith, h))

pub not-below : (n e : ℕ) → (e < n → ⊥) → n ≤ e
not-below n e h = omega (arith, h)

module _ (words : List ℕ) (t : SysId) (idle : (e : ℕ) → is_manager (manager_at words e) t ≡ false) where
  -- whether there is such an entry
  each-entry : (e : ℕ) (P : Type 0) → (e < length words → P) → (length words ≤ e → P) → P
  each-entry e P there past = go (nat_lt e (length words)) refl
    where
      go : (b : Bool) → nat_lt e (length words) ≡ b → P
      go true is = there (ltb-true e (length words) is)
      go false is =
          past (not-below (length words) e (λ l. no_truth (nat_lt e (length words)) (lt-ltb e (length words) l) is))

  word-there : (e : ℕ) → e < length words → word_at (purged_words words t) e ≡ purged_word (word_at words e) t
  word-there e there = get_or-map (λ (x : ℕ). purged_word x t) words e 0 0 there

  word-none : (e : ℕ) → length words ≤ e → word_at (purged_words words t) e ≡ word_at words e
  word-none e past =
      word_past (purged_words words t) e
      (subst (λ k. k ≤ e) (sym (length-map words (λ (x : ℕ). purged_word x t))) past)
      ∙ sym (word_past words e past)

  pub manager-same : (e : ℕ) → manager_at (purged_words words t) e ≡ manager_at words e
  manager-same e =
      each-entry e _
      (λ there. ap manager (word-there e there) ∙ (purge_keeps_others (word_at words e) t (idle e)).0)
      (λ past. ap manager (word-none e past))

  pub interest-less : (e s : ℕ)
      → is_interested (purged_words words t) e s ≡ (is_interested words e s && not (s == t.0))
  interest-less e s =
      each-entry e _
      (λ there. ap (λ x. has (interest x) s) (word-there e there) ∙ purge_takes_target (word_at words e) t s)
      (λ past.
      let none : is_interested words e s ≡ false =
      ap (λ x. has (interest x) s) (word_past words e past) ∙ has-zero s in
      ap (λ x. has (interest x) s) (word-none e past) ∙ (none ∙ sym (ap (λ b. b && not (s == t.0)) none)))

  pub interest-same : (e s : ℕ) → s ≢ t.0 → is_interested (purged_words words t) e s ≡ is_interested words e s
  interest-same e s ne =
      interest-less e s
      ∙ (ap (λ b. is_interested words e s && not b) (ne_eqb s t.0 ne) ∙ and-true (is_interested words e s))

  pub interest-gone : (e : ℕ) → is_interested (purged_words words t) e t.0 ≡ false
  interest-gone e =
      interest-less e t.0
      ∙ (ap (λ b. is_interested words e t.0 && not b) (eq-eqb t.0 t.0 refl) ∙ none (is_interested words e t.0))
    where
      none : (b : Bool) → (b && false) ≡ false
      none true = refl
      none false = refl

  -- nothing is made known
  none-moved : (es : List ℕ) → flat_map (λ e. moved_at e (word_at words e) t) es ≡ []
  none-moved [] = refl
  none-moved (e ∷ es) =
      ap (λ b. cond b (made_known e (manager (purged_word (word_at words e) t)) (purged_word (word_at words e) t)) []
      ++ flat_map (λ z. moved_at z (word_at words z) t) es) (idle e)
      ∙ none-moved es

  none-for : (s : SysId) → moved_for words t s ≡ []
  none-for s = ap (filter (λ (m : Moved). has m.mask s.0)) (none-moved (range_with_len 0 (length words)))

pub none-told : (m : MediumState) (t : SysId) → ((e : ℕ) → is_manager (manager_at m.words e) t ≡ false) → (s : SysId)
    → told_to m t s ≡ []
none-told m t idle s = go (range_with_len 0 (systems_of m)) s.0
  where
    go : (is : List ℕ) (k : ℕ) → get_or (map (λ u. moved_for m.words t (record { 0 = u })) is) k [] ≡ []
    go [] k = refl
    go (u ∷ is) zero = none-for m.words t idle (record { 0 = u })
    go (u ∷ is) (suc k) = go is k

pub inbox-same : (m : MediumState) (t : SysId) → ((e : ℕ) → is_manager (manager_at m.words e) t ≡ false) → (s : ℕ)
    → s < length m.inboxes → s ≢ t.0 → inbox (without_in_star m t) s ≡ inbox m s
inbox-same m t idle s inside ne =
    inbox-left m t (record { 0 = s }) inside ne
    ∙ (ap (λ ms. inbox m s ++ notices_to t ms) (none-told m t idle (record { 0 = s })) ∙ append-nil (inbox m s))
