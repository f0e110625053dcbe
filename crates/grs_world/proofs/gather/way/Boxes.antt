-- What an inbox has of an entry: the last notice that names it, the parts of it that a system sent, and whether one of
-- them stands in front of a notice. What mail that comes last, and the loss of the first, leave of that.
use Rattle.grs_world.proofs.Common.{[], ◌&&◌, ◌++◌, ◌==◌, ◌||◌, ◌∙◌, ◌∷◌, ◌≡◌, ap, append-nil, Bool, cond, false}
use Rattle.grs_world.proofs.Common.{filter, is_some, List, list_any, Mail, Moved, None, noticed, Option, or_parts}
use Rattle.grs_world.proofs.Common.{or_right, PartRec, refl, slice_get, Some, sym, true, true≢false, ℕ}
use Rattle.std.proofs.lemmas.Grind.{flat_map-append}
use Rattle.grs_wire.specs.Notices.{names}
use Rattle.grs_world.proofs.gather.InBoxes.{none-named, noticed-more}
use Rattle.grs_world.specs.Noticed.{items_in}
use Rattle.grs_world.specs.OnTheWay.{last_item, or_else, parts_from, part_from}
use Rattle.grs_wire.specs.declared.medium.Mail.TheVariants as mails

-- ---- notices
some-filtered : (p : Moved → Bool) (xs : List Moved) → list_any p xs ≡ is_some (slice_get (filter p xs) 0)
some-filtered p [] = refl
some-filtered p (x ∷ xs) = go (p x) (some-filtered p xs)
  where
    go : (b : Bool) → list_any p xs ≡ is_some (slice_get (filter p xs) 0)
        → (b || list_any p xs) ≡ is_some (slice_get (cond b (x ∷ filter p xs) (filter p xs)) 0)
    go true more = refl
    go false more = more

pub names-some : (e : ℕ) (y : Mail) → names e y ≡ is_some (slice_get (items_in e y) 0)
names-some e (mails.Notice target moved) = some-filtered (λ m. m.entry == e) moved
names-some e (mails.Request x from q) = refl
names-some e (mails.Answered t answer rank) = refl
names-some e (mails.Granted t r) = refl
names-some e (mails.Part x from records) = refl

-- an inbox has a last notice where it has any
pub noticed-some : (e : ℕ) (ms : List Mail) → noticed e ms ≡ is_some (last_item e ms)
noticed-some e [] = refl
noticed-some e (y ∷ ms) =
    ap (λ b. b || noticed e ms) (names-some e y)
    ∙ (ap (λ b. is_some (slice_get (items_in e y) 0) || b) (noticed-some e ms)
    ∙ go (slice_get (items_in e y) 0) (last_item e ms))
  where
    go : (a o : Option Moved) → (is_some a || is_some o) ≡ is_some (or_else o a)
    go (Some x) (Some z) = refl
    go (Some x) None = refl
    go None (Some z) = refl
    go None None = refl

pub last-none : (e : ℕ) (ms : List Mail) → noticed e ms ≡ false → last_item e ms ≡ None
last-none e ms h = go (last_item e ms) refl (sym (noticed-some e ms) ∙ h)
  where
    go : (o : Option Moved) → last_item e ms ≡ o → is_some (last_item e ms) ≡ false → last_item e ms ≡ None
    go None is k = is
    go (Some x) is k = absurd (true≢false (sym (ap is_some is) ∙ k))

pub last-there : (e : ℕ) (ms : List Mail) → noticed e ms ≡ true → (x : Moved) × (last_item e ms ≡ Some x)
last-there e ms h = go (last_item e ms) refl (sym (noticed-some e ms) ∙ h)
  where
    go : (o : Option Moved) → last_item e ms ≡ o → is_some (last_item e ms) ≡ true
        → (x : Moved) × (last_item e ms ≡ Some x)
    go (Some x) is k = (x, is)
    go None is k = absurd (true≢false (sym k ∙ ap is_some is))

-- a mail that names it not
no-item : (e : ℕ) (y : Mail) → names e y ≡ false → slice_get (items_in e y) 0 ≡ None
no-item e y away = ap (λ (xs : List Moved). slice_get xs 0) (none-named e y away)

pub last-more : (e : ℕ) (ms : List Mail) (y : Mail) → names e y ≡ false
    → last_item e (ms ++ y ∷ []) ≡ last_item e ms
last-more e [] y away = no-item e y away
last-more e (z ∷ ms) y away = ap (λ o. or_else o (slice_get (items_in e z) 0)) (last-more e ms y away)

pub last-new : (e : ℕ) (ms : List Mail) (y : Mail) (x : Moved) → slice_get (items_in e y) 0 ≡ Some x
    → last_item e (ms ++ y ∷ []) ≡ Some x
last-new e [] y x is = is
last-new e (z ∷ ms) y x is = ap (λ o. or_else o (slice_get (items_in e z) 0)) (last-new e ms y x is)

-- the first one goes
pub last-left : (e : ℕ) (y : Mail) (ms : List Mail) → names e y ≡ false → last_item e (y ∷ ms) ≡ last_item e ms
last-left e y ms away = ap (or_else (last_item e ms)) (no-item e y away) ∙ same (last_item e ms)
  where
    same : (o : Option Moved) → or_else o None ≡ o
    same None = refl
    same (Some x) = refl

pub last-later : (e : ℕ) (y : Mail) (ms : List Mail) → noticed e ms ≡ true → last_item e (y ∷ ms) ≡ last_item e ms
last-later e y ms h =
    let x = last-there e ms h in
    ap (λ o. or_else o (slice_get (items_in e y) 0)) x.1 ∙ sym x.1

pub last-first : (e : ℕ) (y : Mail) (ms : List Mail) → noticed e ms ≡ false
    → last_item e (y ∷ ms) ≡ slice_get (items_in e y) 0
last-first e y ms h = ap (λ o. or_else o (slice_get (items_in e y) 0)) (last-none e ms h)

-- ---- parts
pub parts-more : (e : ℕ) (ms : List Mail) (y : Mail) (u : ℕ)
    → parts_from e (ms ++ y ∷ []) u ≡ parts_from e ms u ++ part_from e u y
parts-more e ms y u =
    flat_map-append (part_from e u) ms (y ∷ [])
    ∙ ap (λ (zs : List (List PartRec)). parts_from e ms u ++ zs) (append-nil (part_from e u y))

-- whether one stands in front of a notice
abbrev pub is_part : List (List PartRec) → Bool
is_part [] = false
is_part (p ∷ ps) = true

abbrev pub early : ℕ → ℕ → List Mail → Bool
early e u [] = false
early e u (y ∷ ms) = (is_part (part_from e u y) && noticed e ms) || early e u ms

pub early-none : (e u : ℕ) (ms : List Mail) → parts_from e ms u ≡ [] → early e u ms ≡ false
early-none e u [] h = refl
early-none e u (y ∷ ms) h = go (part_from e u y) h (early-none e u ms)
  where
    go : (ps : List (List PartRec)) → ps ++ parts_from e ms u ≡ []
        → (parts_from e ms u ≡ [] → early e u ms ≡ false) → ((is_part ps && noticed e ms) || early e u ms) ≡ false
    go [] k more = more k
    go (p ∷ ps) k more = absurd (cc)

pub early-more : (e u : ℕ) (ms : List Mail) (y : Mail) → names e y ≡ false
    → early e u (ms ++ y ∷ []) ≡ early e u ms
early-more e u [] y away = go (is_part (part_from e u y))
  where
    go : (b : Bool) → ((b && false) || false) ≡ false
    go true = refl
    go false = refl
early-more e u (z ∷ ms) y away =
    ap (λ b. (is_part (part_from e u z) && b) || early e u (ms ++ y ∷ [])) (noticed-more e ms y away)
    ∙ ap (λ b. (is_part (part_from e u z) && noticed e ms) || b) (early-more e u ms y away)

pub early-left : (e u : ℕ) (y : Mail) (ms : List Mail) → early e u ms ≡ true → early e u (y ∷ ms) ≡ true
early-left e u y ms h = or_right (is_part (part_from e u y) && noticed e ms) (early e u ms) h

-- behind a part that doesn't no notice stands
pub behind-part : (e u : ℕ) (y : Mail) (ms : List Mail) → is_part (part_from e u y) ≡ true
    → early e u (y ∷ ms) ≡ false → noticed e ms ≡ false
behind-part e u y ms here h =
    go (is_part (part_from e u y)) here
    (or_parts (is_part (part_from e u y) && noticed e ms) (early e u ms) h).0
  where
    go : (b : Bool) → b ≡ true → (b && noticed e ms) ≡ false → noticed e ms ≡ false
    go true is k = k
    go false is k = absurd (cc)
