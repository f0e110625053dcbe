-- The places that searches find: of a byte, and of the end of a comment.
use Rattle.std.proofs.Common.{◌≡◌, ℕ, zero, suc, ◌+◌, ◌<◌, ◌≤◌, Bool, true, false, cond, not, eqb, List, [], ◌∷◌}
use Rattle.std.proofs.Common.{length, drop, Option, Some, None, slice_index, position, refl, sym, ◌∙◌, arith, le_refl}
use Rattle.std.proofs.Common.{lt_irrefl, zero-le}
use Rattle.std.specs.Prelude.{◌&&◌}
use Rattle.std.specs.List.{position_or_len}
use Rattle.std.proofs.lemmas.Bool.{eqb-true, and_parts, lt-ltb, le-ltb, false_from_ne_true, false≢true}
use Rattle.std.proofs.lemmas.List.Sums.{position_or_len_is}
use Rattle.bstr.specs.Find.{IsFirstByte, OccursAt, FindsNeedle, first_of, matches}
use Rattle.memchr.proofs.lemmas.MatchLemmas.{OccursAt-part, OccursAt-from_part}
use Rattle.memchr.proofs.lemmas.ValueLemmas.{FindsNeedle-value}
use Rattle.deck_scan.specs.Bytes.{begins}
use Rattle.deck_scan.specs.Pieces.{has_no_end}
use Rattle.deck_scan.specs.Rows.{ClosesComment}
use Rattle.deck_scan.proofs.Pieces.{closes_later}

-- ---- a byte

-- The first byte that passes a test is the first that doesn't fail it.
module _ (q : ℕ → Bool) (text : List ℕ) where
  abbrev twice : ℕ → Bool
  twice b = not (not (q b))

  at_place : (i : ℕ) → i ≤ length text → ((k : ℕ) → k < i → q (slice_index text k) ≡ true → ⊥)
      → (i < length text → q (slice_index text i) ≡ true) → position_or_len twice text ≡ i
  at_place i within before here =
      position_or_len_is twice text i 0 within
      (λ k l. rw (false_from_ne_true (q (slice_index text k)) (before k l)) refl) (λ l. rw (here l) refl)

  pub byte_position : (r : Option ℕ) → IsFirstByte q text r → r ≡ position twice text
  byte_position None h =
      let n =
      at_place (length text) (le_refl (length text)) (λ k l is. h k zero-le l is)
      (λ l. absurd (lt_irrefl (length text) l)) in
      rw (n, le-ltb (length text) (length text) (le_refl (length text))) refl
  byte_position (Some i) h =
      let high : i < length text = h.0.high in
      let n = at_place i (omega (arith, high)) (λ k l is. h.0.before k zero-le l is) (λ l. h.1) in
      rw (n, lt-ltb i (length text) high) refl

-- ---- the end of a comment

abbrev pub comment_end : List ℕ
comment_end = 42 ∷ 47 ∷ []

abbrev later : Option ℕ → Option ℕ
later None = None
later (Some n) = Some (suc n)

-- where a star and a slash stand first
abbrev end_of : List ℕ → Option ℕ
end_of [] = None
end_of (b ∷ bs) = cond (eqb b 42 && begins 47 bs) (Some 0) (later (end_of bs))

module _ (b : ℕ) where
  occurs_front : (bs : List ℕ) → (eqb b 42 && begins 47 bs) ≡ true → OccursAt (b ∷ bs) comment_end 0
  occurs_front [] h = absurd (false≢true (and_parts (eqb b 42) false h).1)
  occurs_front (c ∷ cs) h =
      let k = and_parts (eqb b 42) (eqb c 47) h in
      rw (eqb-true b 42 k.0, eqb-true c 47 k.1) (OccursAt-from_part (42 ∷ 47 ∷ cs) comment_end 0 (omega arith) refl)

  front_occurs : (bs : List ℕ) → OccursAt (b ∷ bs) comment_end 0 → (eqb b 42 && begins 47 bs) ≡ true
  front_occurs [] h = absurd (let f = h.fits in omega (arith, f))
  front_occurs (c ∷ cs) h =
      let first : b ≡ 42 = h.reads 0 (omega arith) in
      let second : c ≡ 47 = h.reads 1 (omega arith) in
      rw (first, second) refl

  module _ (bs : List ℕ) where
    occurs_later : (k : ℕ) → OccursAt bs comment_end k → OccursAt (b ∷ bs) comment_end (suc k)
    occurs_later k h =
        let f = h.fits in
        OccursAt-from_part (b ∷ bs) comment_end (suc k) (omega (arith, f)) (OccursAt-part bs comment_end k h)

    later_occurs : (k : ℕ) → OccursAt (b ∷ bs) comment_end (suc k) → OccursAt bs comment_end k
    later_occurs k h =
        let f = h.fits in
        OccursAt-from_part bs comment_end k (omega (arith, f)) (OccursAt-part (b ∷ bs) comment_end (suc k) h)

    module _ (other : (eqb b 42 && begins 47 bs) ≡ false) where
      not_before : (n : ℕ) → ((k : ℕ) → k < n → OccursAt bs comment_end k → ⊥) → (k : ℕ) → k < suc n
          → OccursAt (b ∷ bs) comment_end k → ⊥
      not_before n h zero l at = false≢true (sym other ∙ front_occurs bs at)
      not_before n h (suc k) l at = h k (omega (arith, l)) (later_occurs k at)

      found_later : (o : Option ℕ) → FindsNeedle bs comment_end 0 o → FindsNeedle (b ∷ bs) comment_end 0 (later o)
      found_later None
          h = λ k low high at. not_before (length bs + 1) (λ j l is. h j zero-le l is) k (omega (arith, high)) at
      found_later (Some n) h =
          let high : n < length bs + 1 = h.0.high in (
            record {
              low = zero-le;
              high = omega (arith, high);
              before = λ k low l at. not_before n (λ j m is. h.0.before j zero-le m is) k l at;
            },
            occurs_later n h.1,
          )

end_found : (text : List ℕ) → FindsNeedle text comment_end 0 (end_of text)
end_found [] = λ k low high at. let f = at.fits in omega (arith, f)
end_found (b ∷ bs) = go (eqb b 42 && begins 47 bs) refl (end_found bs)
  where
    go : (x : Bool) → (eqb b 42 && begins 47 bs) ≡ x → FindsNeedle bs comment_end 0 (end_of bs)
        → FindsNeedle (b ∷ bs) comment_end 0 (cond x (Some 0) (later (end_of bs)))
    go true e rest = (
      record { low = le_refl 0; high = omega arith; before = λ k low l at. omega (arith, l) },
      occurs_front b bs e,
    )
    go false e rest = found_later b bs e (end_of bs) rest

end_place : (text : List ℕ) → end_of text ≡ first_of (matches text comment_end 0)
end_place text = FindsNeedle-value text comment_end (end_of text) (end_found text)

ends_front : (b : ℕ) (bs : List ℕ) → (eqb b 42 && begins 47 bs) ≡ true → b ∷ bs ≡ 42 ∷ 47 ∷ drop 1 bs
ends_front b [] h = absurd (false≢true (and_parts (eqb b 42) false h).1)
ends_front b (c ∷ cs) h = let k = and_parts (eqb b 42) (eqb c 47) h in rw (eqb-true b 42 k.0, eqb-true c 47 k.1) refl

closes_at : (text : List ℕ) (k : ℕ) → end_of text ≡ Some k → ClosesComment text (drop (k + 2) text)
closes_at [] k h = absurd cc
closes_at (b ∷ bs) k h = go (eqb b 42 && begins 47 bs) refl (end_of bs) (λ n e. closes_at bs n e) h
  where
    go : (x : Bool) → (eqb b 42 && begins 47 bs) ≡ x → (o : Option ℕ)
        → ((n : ℕ) → o ≡ Some n → ClosesComment bs (drop (n + 2) bs)) → cond x (Some 0) (later o) ≡ Some k
        → ClosesComment (b ∷ bs) (drop (k + 2) (b ∷ bs))
    go true e o next is =
        let none : k ≡ 0 = cc in rw none (record { inside = []; parts = ends_front b bs e; first = refl })
    go false e None next is = absurd cc
    go false e (Some n) next is =
        let more : k ≡ suc n = cc in
        let far : suc n + 2 ≡ suc (n + 2) = omega arith in
        rw (more, far) (closes_later (b ∷ bs) b bs (drop (n + 2) bs) refl e (next n refl))

stays_at : (text : List ℕ) → end_of text ≡ None → has_no_end text ≡ true
stays_at [] h = refl
stays_at (b ∷ bs) h = go (eqb b 42 && begins 47 bs) (end_of bs) (stays_at bs) h
  where
    go : (x : Bool) (o : Option ℕ) → (o ≡ None → has_no_end bs ≡ true) → cond x (Some 0) (later o) ≡ None
        → (not x && has_no_end bs) ≡ true
    go true o next is = absurd cc
    go false None next is = next refl
    go false (Some n) next is = absurd cc

-- A text is cut behind the first end of a comment, or has none.
pub cut_closes : (text : List ℕ) (k : ℕ) → first_of (matches text comment_end 0) ≡ Some k
    → ClosesComment text (drop (k + 2) text)
cut_closes text k h = closes_at text k (end_place text ∙ h)

pub uncut_stays : (text : List ℕ) → first_of (matches text comment_end 0) ≡ None → has_no_end text ≡ true
uncut_stays text h = stays_at text (end_place text ∙ h)
