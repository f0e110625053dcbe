-- An entry more.
use Rattle.std.proofs.Common.{◌≡◌, ◌<◌, ◌+◌, ℕ, zero, suc, List, [], ◌∷◌, ◌++◌, length, drop, get_or, ap, sym, ◌∙◌}
use Rattle.std.proofs.Common.{arith, append_assoc}
use Rattle.grs_base.specs.State.{State}
use Rattle.grs_wire.specs.declared.history.HistEntry.{HistEntry}
use Rattle.grs_enf.specs.declared.notice.Notice.{Notice}
use Rattle.grs_enf.specs.declared.notice.Noted.{Noted}
use Rattle.grs_enf.specs.Notices.{resources_of, notices_among, noted, notices_by, told_step}

drop_next : (hist : List HistEntry) (i : ℕ) (h : HistEntry) → i < length hist → h ≡ get_or hist i h
    → drop i hist ≡ h ∷ drop (i + 1) hist
drop_next [] i h lt is = absurd (omega (arith, lt))
drop_next (g ∷ hist) zero h lt is = grind (arith, is)
drop_next (g ∷ hist) (suc i) h lt is = grind (arith, drop_next hist i h (omega (arith, lt)) is)

pub notices-next : (s next : State) (i : ℕ) (h : HistEntry) (hist : List HistEntry) (ns : List Notice)
    (out new all : List Noted) → i < length hist → h ≡ get_or hist i h
    → ns ≡ notices_among s (told_step s h) (resources_of s h) → next ≡ told_step s h → new ≡ out ++ noted (i + 1) ns
    → out ++ notices_by told_step s (i + 1) (drop i hist) ≡ all
    → new ++ notices_by told_step next ((i + 1) + 1) (drop (i + 1) hist) ≡ all
notices-next s next i h hist ns out new all lt is told after more start =
    let rest : List Noted = notices_by told_step next (suc (i + 1)) (drop (i + 1) hist) in
    let number : (i + 1) + 1 ≡ suc (i + 1) = omega arith in
    ap (λ (n : ℕ). new ++ notices_by told_step next n (drop (i + 1) hist)) number
    ∙ ap (λ (xs : List Noted). xs ++ rest) more
    ∙ append_assoc out (noted (i + 1) ns) rest
    ∙ ap (λ (xs : List Notice). out ++ (noted (i + 1) xs ++ rest)) told
    ∙ ap (λ (x : State).
    out ++ (noted (i + 1) (notices_among s (told_step s h) (resources_of s h))
    ++ notices_by told_step x (suc (i + 1)) (drop (i + 1) hist))) after
    ∙ ap (λ (hs : List HistEntry). out ++ notices_by told_step s (i + 1) hs) (sym (drop_next hist i h lt is))
    ∙ start
