-- What is kept of an entry, read off and written into what is kept of all.
use Rattle.std.proofs.Common.{◌≡◌, ℕ, zero, suc, ◌<◌, ◌≤◌, true, List, [], ◌∷◌, Option, Some, None, length, get_or}
use Rattle.std.proofs.Common.{replicate, refl, ap, sym, ◌∙◌, subst, arith}
use Rattle.std.specs.Prelude.{Result, Ok, Err, OnOk, OnErr, slice_set, unwrap_or}
use Rattle.std.specs.Option.{option_map, option_map_or}
use Rattle.std.proofs.lemmas.List.{length-set, length-map, set-get_or}
use Rattle.std.proofs.lemmas.Option.{slice_get_past}
use Rattle.grs_base.specs.declared.resource.SysId.{SysId}
use Rattle.grs_wire.specs.declared.gather.PartRec.{PartRec}
use Rattle.system_purge.specs.Gathers.{GathersView, gathering_at, with_part, with_part_at, without_sender, behind_loss}
use Rattle.system_purge.specs.Gathers.{keeps_right, keep_right_from, keep_right}
use Rattle.system_purge.specs.declared.gathers.Gathering.{Gathering}
use Rattle.system_purge.proofs.GatheredParts.{all-lost-right, get-right, none-right, part-right, set-right}

pub got : (gs : GathersView) (e : ℕ) (x : Option Gathering) → e < length gs → x ≡ get_or gs e x → gathering_at gs e ≡ x
got [] e x h is = absurd (omega (arith, h))
got (y ∷ ys) zero x h is = sym is
got (y ∷ ys) (suc e) x h is = got ys e x (omega (arith, h)) is

pub none-past : (gs : GathersView) (e : ℕ) → length gs ≤ e → gathering_at gs e ≡ None
none-past gs e h = ap (λ (o : Option (Option Gathering)). unwrap_or o None) (slice_get_past gs e h)

set-same : (gs : GathersView) (e : ℕ) (x : Option Gathering) → x ≡ get_or gs e x → slice_set gs e x ≡ gs
set-same gs e x is = ap (slice_set gs e) is ∙ set-get_or gs e x

-- ---- a part that came
pub part-past : (gs : GathersView) (e : ℕ) (s : SysId) (recs : List PartRec) → length gs ≤ e
    → with_part_at gs e s recs ≡ gs
part-past gs e s recs h =
    ap (λ (o : Option Gathering). option_map_or (λ g. slice_set gs e (Some (with_part (length gs) e s recs g))) o gs)
    (none-past gs e h)

pub set-part : (gs : GathersView) (e n : ℕ) (s : SysId) (recs : List PartRec) (x z : Option Gathering) → length gs ≡ n
    → e < n → x ≡ get_or gs e x → z ≡ option_map (with_part n e s recs) x
    → slice_set gs e z ≡ with_part_at gs e s recs
set-part gs e n s recs x z long h is step =
    go x (got gs e x (omega (arith, long, h)) is) is
    (subst (λ (k : ℕ). z ≡ option_map (with_part k e s recs) x) (sym long) step)
  where
    at : Option Gathering → GathersView
    at o = option_map_or (λ g. slice_set gs e (Some (with_part (length gs) e s recs g))) o gs

    go : (y : Option Gathering) → gathering_at gs e ≡ y → y ≡ get_or gs e y
        → z ≡ option_map (with_part (length gs) e s recs) y → slice_set gs e z ≡ with_part_at gs e s recs
    go None there same new = ap (slice_set gs e) new ∙ (set-same gs e None same ∙ sym (ap at there))
    go (Some g) there same new = ap (slice_set gs e) new ∙ sym (ap at there)

-- ---- what is kept stays right
set-keeps : (gs : GathersView) (e : ℕ) (o : Option Gathering) → keep_right gs ≡ true
    → keeps_right (length gs) e o ≡ true → keep_right (slice_set gs e o) ≡ true
set-keeps gs e o h new =
    subst (λ (n : ℕ). keep_right_from n 0 (slice_set gs e o) ≡ true) (sym (length-set gs e o))
    (set-right (length gs) 0 e gs o h
    (subst (λ (k : ℕ). keeps_right (length gs) k o ≡ true) (omega arith) new))

pub get-keeps : (gs : GathersView) (e : ℕ) → keep_right gs ≡ true
    → keeps_right (length gs) e (gathering_at gs e) ≡ true
get-keeps gs e h =
    subst (λ (k : ℕ). keeps_right (length gs) k (gathering_at gs e) ≡ true) (omega arith) (get-right (length gs) 0 e gs h)

pub lost-keeps : (gs : GathersView) (s : SysId) → keep_right gs ≡ true → keep_right (behind_loss gs s) ≡ true
lost-keeps gs s h =
    subst (λ (n : ℕ). keep_right_from n 0 (behind_loss gs s) ≡ true)
    (sym (length-map gs (option_map (without_sender s)))) (all-lost-right (length gs) 0 s gs h)

pub none-keep : (n : ℕ) → keep_right (replicate n None) ≡ true
none-keep n = none-right (length (replicate n (let z : Option Gathering = None in z))) 0 n

option-right : (n e : ℕ) (s : SysId) (recs : List PartRec) (x : Option Gathering) → keeps_right n e x ≡ true
    → keeps_right n e (option_map (with_part n e s recs) x) ≡ true
option-right n e s recs None h = refl
option-right n e s recs (Some g) h = part-right n e s recs g h

-- what is kept of an entry by what is kept of all
slot-right : (gs : GathersView) (e : ℕ) (x : Option Gathering) → e < length gs → x ≡ get_or gs e x
    → keep_right gs ≡ true → keeps_right (length gs) e x ≡ true
slot-right gs e x h is right =
    subst (λ (o : Option Gathering). keeps_right (length gs) e o ≡ true) (got gs e x h is) (get-keeps gs e right)

-- behind a part, for which there was memory or not
part-keeps : {T E : Type 0} (n e : ℕ) (s : SysId) (recs : List PartRec) (r : Result T E) (x z : Option Gathering)
    → keeps_right n e x ≡ true → OnOk r (z ≡ option_map (with_part n e s recs) x) → OnErr r (z ≡ x)
    → keeps_right n e z ≡ true
part-keeps n e s recs (Ok u) x z h ok err =
    subst (λ (o : Option Gathering). keeps_right n e o ≡ true) (sym ok) (option-right n e s recs x h)
part-keeps n e s recs (Err u) x z h ok err = subst (λ (o : Option Gathering). keeps_right n e o ≡ true) (sym err) h

-- ---- the invariant, where one entry is written
abbrev pub IsKept : ℕ → GathersView → Type 0
IsKept n gs = (length gs ≡ n) × (keep_right gs ≡ true)

pub set-kept : (n : ℕ) (gs : GathersView) (e : ℕ) (o : Option Gathering) → IsKept n gs
    → keeps_right (length gs) e o ≡ true → IsKept n (slice_set gs e o)
set-kept n gs e o kept new = (length-set gs e o ∙ kept.0, set-keeps gs e o kept.1 new)

pub part-kept : {T E : Type 0} (n : ℕ) (gs : GathersView) (e : ℕ) (s : SysId) (recs : List PartRec) (r : Result T E)
    (x z : Option Gathering) → IsKept n gs → e < n → x ≡ get_or gs e x
    → OnOk r (z ≡ option_map (with_part n e s recs) x) → OnErr r (z ≡ x) → IsKept n (slice_set gs e z)
part-kept n gs e s recs r x z kept h is ok err = set-kept n gs e z kept (subst right (sym kept.0) new)
  where
    right : ℕ → Type 0
    right k = keeps_right k e z ≡ true

    new : keeps_right n e z ≡ true
    new =
        part-keeps n e s recs r x z
        (subst (λ (k : ℕ). keeps_right k e x ≡ true) kept.0
        (slot-right gs e x (omega (arith, kept.0, h)) is kept.1))
        ok err
