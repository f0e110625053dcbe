-- What stands in the message of all that was ever put in, whatever kind it is.
use Rattle.std.proofs.Common.{ℕ, suc, ◌≡◌, ◌≢◌, ◌+◌, ◌-◌, ◌<◌, ◌≤◌, Bool, true, false, cond, not, eqb, leb, ◌&&◌}
use Rattle.std.proofs.Common.{List, [], ◌∷◌, ◌++◌, length, drop, map, Option, Some, None, ap, sym, ◌∙◌, refl, subst}
use Rattle.std.proofs.Common.{arith, eqb-true, leb-true, leb-false, le-leb}
use Rattle.std.specs.Prelude.{filter, ◌==◌}
use Rattle.std.proofs.Math.Seq.{drop-nil}
use Rattle.std.proofs.lemmas.Bool.{eqb-false, lt-leb, and_right}
use Rattle.std.proofs.lemmas.Option.{same_Some}
use Rattle.grs_base.specs.declared.resource.SysId.{SysId}
use Rattle.grs_wire.specs.Masks.{has, without, only}
use Rattle.grs_wire.specs.declared.medium.RingBody.{RingBody}
use Rattle.grs_wire.specs.declared.medium.RingBody.TheVariants.{Request, Remove}
use Rattle.grs_wire.specs.declared.medium.RingEntry.{RingEntry}
use Rattle.grs_wire.specs.declared.request.Fixed.{Fixed}
use Rattle.grs_wire.specs.declared.request.Fixed.TheVariants.{Asked, LocalLook, Purged}
use Rattle.grs_wire.specs.declared.request.Req.{Req}
use Rattle.grs_wire.proofs.MaskLaws.{has-without_same, has-without_other, has-zero, has-with_other}
use Rattle.grs_wire.proofs.WantLaws.{by_test}
use Rattle.rsa_message.specs.Message.{cleared, left_by, stamped, first_number}
use Rattle.grs_wire.specs.Unseen.{unseen}

-- what was fixed, as an entry of the message
abbrev pub body_of : Fixed → Option RingBody
body_of (Asked q) = Some (Request q)
body_of (LocalLook t f) = None
body_of (Purged target) = Some (Remove target)

-- Stands U k qs es: of what went with the message, the first of which has place k, that which a system has still to
-- process stands in es, in order. U j s says that s has still to process what has place j.
pub data Stands (U : ℕ → ℕ → Bool) : ℕ → List Fixed → List RingEntry → Type 0 where
  none : {k : ℕ} → Stands U k [] []
  gone : {k : ℕ} {q : Fixed} {qs : List Fixed} {es : List RingEntry} → ((s : ℕ) → U k s ≡ false)
      → Stands U (suc k) qs es → Stands U k (q ∷ qs) es
  kept : {k : ℕ} {e : RingEntry} {q : Fixed} {qs : List Fixed} {es : List RingEntry} → e.number ≡ suc k
      → body_of q ≡ Some e.body → ((s : ℕ) → has e.mask s ≡ U k s) → Stands U (suc k) qs es
      → Stands U k (q ∷ qs) (e ∷ es)

module _ (U V : ℕ → ℕ → Bool) (c : SysId) (n : ℕ) (at_c : (j : ℕ) → j < n → V j c.0 ≡ false)
    (apart : (j s : ℕ) → j < n → s ≢ c.0 → V j s ≡ U j s) where
  same_mask : (m j : ℕ) → j < n → ((s : ℕ) → has m s ≡ U j s) → (s : ℕ) → has (without m c.0) s ≡ V j s
  same_mask m j in_n h s = go (eqb s c.0) refl
    where
      go : (b : Bool) → eqb s c.0 ≡ b → has (without m c.0) s ≡ V j s
      go true e = rw (eqb-true s c.0 e) (has-without_same m c.0 ∙ sym (at_c j in_n))
      go false e =
          let ne : s ≢ c.0 = eqb-false s c.0 e in has-without_other m c.0 s ne ∙ (h s ∙ sym (apart j s in_n ne))

  still_none : (j : ℕ) → j < n → ((s : ℕ) → s ≢ c.0 → U j s ≡ false) → (s : ℕ) → V j s ≡ false
  still_none j in_n h s = go (eqb s c.0) refl
    where
      go : (b : Bool) → eqb s c.0 ≡ b → V j s ≡ false
      go true e = rw (eqb-true s c.0 e) (at_c j in_n)
      go false e = let ne : s ≢ c.0 = eqb-false s c.0 e in apart j s in_n ne ∙ h s ne

  alone : (m j : ℕ) → m ≡ only c.0 → ((s : ℕ) → has m s ≡ U j s) → (s : ℕ) → s ≢ c.0 → U j s ≡ false
  alone m j e h s ne = sym (h s) ∙ (ap (λ i. has i s) e ∙ (has-with_other 0 c.0 s ne ∙ has-zero s))

  clear : List RingEntry → List RingEntry
  clear es = map (left_by c) (filter (λ e. not (e.mask == only c.0)) es)

  -- c leaves all masks
  Stands-clear : {k : ℕ} {qs : List Fixed} {es : List RingEntry} → k + length qs ≤ n → Stands U k qs es
      → Stands V k qs (clear es)
  unfolding clear
  Stands-clear l none = none
  Stands-clear l (gone {k = k} h r) = gone (still_none k (omega arith) (λ s ne. h s)) (Stands-clear (omega arith) r)
  Stands-clear l (kept {k = k} {e = e} {q = q} {qs = qs} {es = es} number body h r) =
      let rest = Stands-clear (omega arith) r in
      go (e.mask == only c.0) refl rest
    where
      go : (b : Bool) → (e.mask == only c.0) ≡ b → Stands V (suc k) qs (clear es)
          → Stands V k (q ∷ qs) (map (left_by c)
          (cond (not b) (e ∷ filter (λ f. not (f.mask == only c.0)) es) (filter (λ f. not (f.mask == only c.0)) es)))
      go true t rest = gone (still_none k (omega arith) (alone e.mask k (eqb-true e.mask (only c.0) t) h)) rest
      go false t rest = kept number body (same_mask e.mask k (omega arith) h) rest

  pub Stands-cleared : {k : ℕ} {qs : List Fixed} {es : List RingEntry} → k + length qs ≤ n → Stands U k qs es
      → Stands V k qs (cleared c es)
  unfolding cleared clear
  Stands-cleared l h = Stands-clear l h

-- what is put in behind
pub Stands-append :
    {U : ℕ → ℕ → Bool} {k : ℕ} {ps : List Fixed} {es : List RingEntry} (j : ℕ) (qs : List Fixed) (fs : List RingEntry)
    → j ≡ k + length ps → Stands U k ps es → Stands U j qs fs → Stands U k (ps ++ qs) (es ++ fs)
Stands-append {U = U} {k = k} j qs fs e none t = subst (λ i. Stands U i qs fs) (omega arith) t
Stands-append j qs fs e (gone h r) t = gone h (Stands-append j qs fs (omega arith) r t)
Stands-append j qs fs e (kept number body h r) t = kept number body h (Stands-append j qs fs (omega arith) r t)

pub Stands-stamped : (U : ℕ → ℕ → Bool) (c : SysId) (mask : ℕ) (k : ℕ) (qs : List Req)
    → ((j s : ℕ) → k ≤ j → has mask s ≡ U j s) → Stands U k (map Asked qs) (stamped (suc k) c mask qs)
unfolding stamped
Stands-stamped U c mask k [] h = none
Stands-stamped U c mask k (q ∷ qs) h =
    kept refl refl (λ s. h k s (omega arith)) (Stands-stamped U c mask (suc k) qs (λ j s l. h j s (omega arith)))

-- these entries are these
pub data Bodies : List Fixed → List RingEntry → Type 0 where
  none : Bodies [] []
  more : {q : Fixed} {e : RingEntry} {qs : List Fixed} {es : List RingEntry} → body_of q ≡ Some e.body → Bodies qs es
      → Bodies (q ∷ qs) (e ∷ es)

-- what s has still to process is all that was put in behind what it has seen
pub unseen-drop : {U : ℕ → ℕ → Bool} {k : ℕ} {qs : List Fixed} {es : List RingEntry} (s : SysId) (seen : ℕ)
    → ((j : ℕ) → U j s.0 ≡ leb seen j) → Stands U k qs es → Bodies (drop (seen - k) qs) (unseen s es)
unfolding unseen
unseen-drop {k = k} s seen at none = subst (λ (z : List Fixed). Bodies z []) (sym (drop-nil (seen - k))) none
unseen-drop {k = k} s seen at (gone {q = q} {qs = qs} {es = es} h r) =
    let l : k < seen = leb-false seen k (sym (at k) ∙ h s.0) in
    let d : seen - k ≡ suc (seen - suc k) = omega arith in
    subst (λ i. Bodies (drop i (q ∷ qs)) (unseen s es)) (sym d) (unseen-drop s seen at r)
unseen-drop {k = k} s seen at (kept {e = e} {q = q} {qs = qs} {es = es} number body h r) =
    let ih = unseen-drop s seen at r in
    by_test (λ xs. Bodies (drop (seen - k) (q ∷ qs)) xs) (has e.mask s.0) (e ∷ unseen s es) (unseen s es)
    (λ t. let l : seen ≤ k = leb-true seen k (sym (at k) ∙ (sym (h s.0) ∙ t)) in
    let d : seen - k ≡ 0 = omega arith in
    let d' : seen - suc k ≡ 0 = omega arith in
    subst (λ i. Bodies (drop i (q ∷ qs)) (e ∷ unseen s es)) (sym d)
    (more body (subst (λ i. Bodies (drop i qs) (unseen s es)) d' ih)))
    (λ t. let l : k < seen = leb-false seen k (sym (at k) ∙ (sym (h s.0) ∙ t)) in
    let d : seen - k ≡ suc (seen - suc k) = omega arith in
    subst (λ i. Bodies (drop i (q ∷ qs)) (unseen s es)) (sym d) ih)

-- the number of the first entry that s has still to process is one above the count of those that it has seen
pub first_number-seen : {U : ℕ → ℕ → Bool} {k : ℕ} {qs : List Fixed} {es : List RingEntry} (s : SysId) (seen : ℕ)
    → ((j : ℕ) → U j s.0 ≡ leb seen j) → k ≤ seen → Stands U k qs es → (number : ℕ)
    → first_number (unseen s es) ≡ Some number → number ≡ suc seen
unfolding unseen
first_number-seen s seen at l none number f = cc
first_number-seen {k = k} s seen at l (gone h r) number f =
    let m : k < seen = leb-false seen k (sym (at k) ∙ h s.0) in first_number-seen s seen at m r number f
first_number-seen {k = k} s seen at l (kept {e = e} {q = q} {qs = qs} {es = es} is body h r) number f =
    by_test (λ xs. first_number xs ≡ Some number → number ≡ suc seen) (has e.mask s.0) (e ∷ unseen s es) (unseen s es)
    (λ t f. let m : seen ≤ k = leb-true seen k (sym (at k) ∙ (sym (h s.0) ∙ t)) in
    let same : e.number ≡ number = same_Some e.number number f in omega arith)
    (λ t f. let m : k < seen = leb-false seen k (sym (at k) ∙ (sym (h s.0) ∙ t)) in
    first_number-seen s seen at m r number f)
    f

-- ---- each of some systems has seen so many of the requests
abbrev pub waits_for : ℕ → (ℕ → ℕ) → ℕ → ℕ → Bool
waits_for live seen j s = has live s && leb (seen s) j

-- new entries are unseen by each live system
pub waits_new : (live : ℕ) (seen : ℕ → ℕ) (n : ℕ) → ((s : ℕ) → has live s ≡ true → seen s ≤ n) → (j s : ℕ) → n ≤ j
    → has live s ≡ waits_for live seen j s
waits_new live seen n within j s l = go (has live s) refl
  where
    go : (b : Bool) → has live s ≡ b → b ≡ (b && (leb (seen s) j))
    go true e = let h : seen s ≤ n = within s e in sym (le-leb (seen s) j (omega arith))
    go false e = refl

pub waits_seen : (live : ℕ) (seen : ℕ → ℕ) (j s : ℕ) → j < seen s → waits_for live seen j s ≡ false
waits_seen live seen j s h = and_right (has live s) (leb (seen s) j) (lt-leb (seen s) j h)

pub waits_live : (live : ℕ) (seen : ℕ → ℕ) (s : ℕ) → has live s ≡ true → (j : ℕ)
    → waits_for live seen j s ≡ leb (seen s) j
waits_live live seen s h j = rw h refl
