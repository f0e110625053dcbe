-- Which mail is of the deck, and that the notices of a removal are.
use Rattle.grs_world.proofs.Common.{[], ◌&&◌, ◌++◌, ◌+◌, ◌<◌, ◌==◌, ◌∙◌, ◌∷◌, ◌≡◌, ◌≤◌, All, and_from, ap, arith, Bool}
use Rattle.grs_world.proofs.Common.{cond, Deck, false, has, interest, is_item_of, is_manager, length, length-map, List}
use Rattle.grs_world.proofs.Common.{list_all, list_all-append, lt-ltb, Mail, manager, Moved, nat_lt, None, Option, refl}
use Rattle.grs_world.proofs.Common.{Some, subst, suc, sym, SysId, true, word_at, zero, ℕ}
use Rattle.std.specs.Prelude.{◌%◌, ◌*◌, ◌/◌, ◌^◌}
use Rattle.std.specs.Int.{bit_at}
use Rattle.std.specs.List.{flat_map, range_with_len}
use Rattle.std.proofs.Common.{pow_pos, zero-mul}
use Rattle.std.proofs.lemmas.List.{get_or-map}
use Rattle.std.proofs.lemmas.Nat.{mod_below, shr-shr, shr_split}
use Rattle.std.proofs.lemmas.Nat.Bits.{bit_at-lt, bit_at-zero, same_from_bits}
use Rattle.grs_medium.specs.Inboxes.{notices_to}
use Rattle.grs_wire.specs.LockWords.{manager_number}
use Rattle.lock_structure.proofs.Ranges.{flat_map-range_more}
use Rattle.lock_structure.specs.Purge.{made_known, moved, moved_at, moved_for, purged_word, purged_words}
use Rattle.lock_structure.specs.Words.{ManagerIsBelow, MaskIsBelow}
use Rattle.system_purge.proofs.GatheredParts.{all-left}
use Rattle.grs_wire.specs.declared.medium.Mail.TheVariants as mails

-- of notices and parts
abbrev pub mail_fits : Deck → Mail → Bool
mail_fits deck (mails.Notice target moved) =
    nat_lt target.0 (length deck.systems) && list_all (is_item_of deck) moved
mail_fits deck (mails.Part e from records) = nat_lt e deck.entries && nat_lt from.0 (length deck.systems)
mail_fits deck mail = true

abbrev pub BoxFits : Deck → List Mail → Type 0
BoxFits deck ms = list_all (mail_fits deck) ms ≡ true

pub fits-more : (deck : Deck) (ms : List Mail) (y : Mail) → mail_fits deck y ≡ true → BoxFits deck ms
    → BoxFits deck (ms ++ y ∷ [])
fits-more deck ms y here h =
    list_all-append (mail_fits deck) ms (y ∷ []) ∙ and_from _ _ h (and_from (mail_fits deck y) true here refl)

zero-plus : (k : ℕ) → 0 + k ≡ k
zero-plus k = omega arith

-- a set of systems below a number is below its power of two
pub small-mask : (n m : ℕ) → ((s : ℕ) → has m s ≡ true → s < n) → m < 2 ^ n
unfolding has
small-mask n m few =
    let high : m / 2 ^ n ≡ 0 = same_from_bits (m / 2 ^ n) 0 (λ j. none j ∙ sym (bit_at-zero j)) in
    let low : m % 2 ^ n < 2 ^ n = mod_below m (2 ^ n) (pow_pos n) in
    let same : m % 2 ^ n ≡ m =
    sym (zero-plus (m % 2 ^ n))
    ∙ (sym (ap (λ q. q * 2 ^ n + m % 2 ^ n) high ∙ ap (λ q. q + m % 2 ^ n) (zero-mul (2 ^ n))) ∙ shr_split m n) in
    subst (λ k. k < 2 ^ n) same low
  where
    by-bit : (b : ℕ) → b < 2 → (b ≡ 1 → ⊥) → b ≡ 0
    by-bit zero less off = refl
    by-bit (suc zero) less off = absurd (off refl)
    by-bit (suc (suc b)) less off = absurd (omega (arith, less))

    none : (j : ℕ) → bit_at (m / 2 ^ n) j ≡ 0
    none j =
        by-bit (bit_at (m / 2 ^ n) j) (bit_at-lt (m / 2 ^ n) j)
        (λ one.
        let far : n + j < n = few (n + j) (ap (λ b. b == 1) (sym (ap (λ q. q % 2) (shr-shr m n j)) ∙ one)) in
        absurd (omega (arith, far)))

-- ---- the items of a notice
module _ (deck : Deck) (words : List ℕ) (t : SysId) (count : length words ≡ deck.entries)
    (within : All (MaskIsBelow (length deck.systems)) (purged_words words t))
    (below : All (ManagerIsBelow (length deck.systems)) (purged_words words t)) where
  module _ (e : ℕ) (inside : e < length words) where
    abbrev w : ℕ
    w = purged_word (word_at words e) t

    is-word : word_at (purged_words words t) e ≡ purged_word (word_at words e) t
    is-word = get_or-map (λ (x : ℕ). purged_word x t) words e 0 0 inside

    there : e < length (purged_words words t)
    there = subst (λ k. e < k) (sym (length-map words (λ x. purged_word x t))) inside

    mask-fits : (s : ℕ) → has (interest w) s ≡ true → s < length deck.systems
    mask-fits s h = within e 0 there s (ap (λ x. has (interest x) s) is-word ∙ h)

    manager-fits : manager_number (manager w) ≤ length deck.systems
    manager-fits = subst (λ x. manager_number (manager x) ≤ length deck.systems) is-word (below e 0 there)

    known-fit : (o : Option SysId) → manager_number o ≤ length deck.systems
        → list_all (is_item_of deck) (made_known e o w) ≡ true
    known-fit None h = refl
    known-fit (Some m) h =
        and_from _ true
        (and_from (nat_lt e deck.entries) _ (lt-ltb e deck.entries (omega (arith, inside, count)))
        (and_from (nat_lt m.0 (length deck.systems)) _ (lt-ltb m.0 (length deck.systems) (omega (arith, h)))
        (lt-ltb (interest w) (2 ^ length deck.systems) (small-mask (length deck.systems) (interest w) mask-fits))))
        refl

    at-fit : list_all (is_item_of deck) (moved_at e (word_at words e) t) ≡ true
    at-fit = go (is_manager (manager (word_at words e)) t)
      where
        go : (b : Bool) → list_all (is_item_of deck) (cond b (made_known e (manager w) w) []) ≡ true
        go true = known-fit (manager w) manager-fits
        go false = refl

  all-fit : (n : ℕ) → n ≤ length words
      → list_all (is_item_of deck) (flat_map (λ e. moved_at e (word_at words e) t) (range_with_len 0 n)) ≡ true
  all-fit zero few = refl
  all-fit (suc n) few =
      let next : suc n ≡ n + 1 = omega arith in
      ap (λ k. list_all (is_item_of deck) (flat_map (λ e. moved_at e (word_at words e) t) (range_with_len 0 k))) next
      ∙ (ap (list_all (is_item_of deck)) (flat_map-range_more (λ e. moved_at e (word_at words e) t) n)
      ∙ (list_all-append (is_item_of deck)
      (flat_map (λ e. moved_at e (word_at words e) t) (range_with_len 0 n)) (moved_at n (word_at words n) t)
      ∙ and_from _ _ (all-fit n (omega (arith, few))) (at-fit n (omega (arith, few)))))

  pub moved-fit : (s : SysId) → list_all (is_item_of deck) (moved_for words t s) ≡ true
  moved-fit s =
      all-left (is_item_of deck) (λ m. has m.mask s.0) (moved words t) (all-fit (length words) (omega arith))

  -- so the mail of s fits, and behind it the notice
  pub posted-fit : (s : SysId) → t.0 < length deck.systems → (ms : List Mail) (mvs : List Moved)
      → mvs ≡ moved_for words t s → BoxFits deck ms → BoxFits deck (ms ++ notices_to t mvs)
  posted-fit s low ms mvs are h =
      list_all-append (mail_fits deck) ms (notices_to t mvs)
      ∙ and_from _ _ h
      (go mvs (subst (λ (xs : List Moved). list_all (is_item_of deck) xs ≡ true) (sym are) (moved-fit s)))
    where
      go : (xs : List Moved) → list_all (is_item_of deck) xs ≡ true
          → list_all (mail_fits deck) (notices_to t xs) ≡ true
      go [] k = refl
      go (x ∷ xs) k =
          and_from _ true (and_from (nat_lt t.0 (length deck.systems)) _ (lt-ltb t.0 (length deck.systems) low) k) refl
