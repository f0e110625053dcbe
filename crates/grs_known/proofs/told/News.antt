-- What a system was told on the way, against the history.
use Rattle.std.proofs.Common.{◌≡◌, ℕ, true, false, List, [], ◌∷◌, ◌++◌, refl, ap, sym, ◌∙◌, subst, append-nil}
use Rattle.std.proofs.Common.{append_assoc}
use Rattle.std.specs.Prelude.{filter}
use Rattle.std.specs.List.{list_all}
use Rattle.std.proofs.lemmas.Bool.{and_parts, and_from}
use Rattle.std.proofs.lemmas.List.Elements.{filter-append}
use Rattle.grs_base.specs.declared.resource.TaskId.{TaskId}
use Rattle.grs_wire.specs.declared.deck.Deck.{Deck}
use Rattle.grs_wire.specs.declared.history.HistEntry.{HistEntry}
use Rattle.grs_wire.specs.declared.request.Req.{Req}
use Rattle.grs_wire.specs.declared.told.ToldLine.{ToldLine}
use Rattle.grs_wire.specs.declared.told.ToldLine.TheVariants.{Coded, Shown, Post, Ended, Desk}
use Rattle.grs_known.proofs.lists.Owners.{is_among}
use Rattle.grs_known.proofs.told.Behind.{line-behind}
use Rattle.grs_known.proofs.system.Says.{askers, AgreesBehind, Clears, is_line_of, ToldBy, none, more}

-- ---- steps, one after the other
pub told-then : {deck : Deck} {s : ℕ} {opens : List Req} {P : List HistEntry} {T0 T1 T2 : List ToldLine}
    → ToldBy deck s opens P T0 T1 → ToldBy deck s opens P T1 T2 → ToldBy deck s opens P T0 T2
told-then a none = a
told-then a (more T l b ours agrees clears) = more T l (told-then a b) ours agrees clears

-- who has none of these requests has none of those
pub told-fewer : {deck : Deck} {s : ℕ} {opens fewer : List Req} {P : List HistEntry} {T0 T : List ToldLine}
    → ((t : TaskId) → is_among t (askers opens) ≡ false → is_among t (askers fewer) ≡ false)
    → ToldBy deck s opens P T0 T → ToldBy deck s fewer P T0 T
told-fewer f none = none
told-fewer {opens = opens} {fewer = fewer} f (more T l a ours agrees clears) =
    more T l (told-fewer f a) ours agrees (go l clears)
  where
    go : (m : ToldLine) → Clears opens m → Clears fewer m
    go (Coded t k part verb code) e = f t e
    go (Shown t k verb code rows) e = f t e
    go (Post t k) e = tt
    go (Ended t code) e = tt
    go (Desk k said) e = tt

-- ---- lines that are told
abbrev pub LinesAgree : Deck → List HistEntry → List ToldLine → List ToldLine → Type 0
LinesAgree deck P before [] = Unit {0}
LinesAgree deck P before (l ∷ ls) = AgreesBehind deck P before l × LinesAgree deck P (before ++ l ∷ []) ls

lines-push : (deck : Deck) (P : List HistEntry) (before ls : List ToldLine) (l : ToldLine) → LinesAgree deck P before ls
    → AgreesBehind deck P (before ++ ls) l → LinesAgree deck P before (ls ++ l ∷ [])
lines-push deck P before [] l all one = (subst (λ T. AgreesBehind deck P T l) (append-nil before) one, tt)
lines-push deck P before (m ∷ ls) l all one = (
  all.0,
  lines-push deck P (before ++ m ∷ []) ls l all.1
      (subst (λ T. AgreesBehind deck P T l) (sym (append_assoc before (m ∷ []) ls)) one),
)

pub all-append : (s : ℕ) (ls ms : List ToldLine) → list_all (is_line_of s) ls ≡ true → list_all (is_line_of s) ms ≡ true
    → list_all (is_line_of s) (ls ++ ms) ≡ true
all-append s [] ms a b = b
all-append s (l ∷ ls) ms a b =
    and_from (is_line_of s l) _ (and_parts _ _ a).0 (all-append s ls ms (and_parts _ _ a).1 b)

-- The lines that a system is told on the way from T0 to T are of its tasks, and agree with the history P behind
-- all that was told before to any system.
pub record ToldNews (deck : Deck) (s : ℕ) (P : List HistEntry) (T0 T : List ToldLine) : Type 0 where
  pub lines : List ToldLine
  pub is : T ≡ T0 ++ lines
  pub ours : list_all (is_line_of s) lines ≡ true
  pub agree : (before : List ToldLine) → filter (is_line_of s) T0 ≡ filter (is_line_of s) before
      → LinesAgree deck P before lines

-- nothing is told
pub still-told : {deck : Deck} {s : ℕ} {P : List HistEntry} {T0 T : List ToldLine} → T ≡ T0 → ToldNews deck s P T0 T
still-told {T0 = T0} same = record { lines = []; is = same ∙ sym (append-nil T0); ours = refl; agree = λ before e. tt }

pub told-news : {deck : Deck} {s : ℕ} {opens : List Req} {P : List HistEntry} {T0 T : List ToldLine}
    → ToldBy deck s opens P T0 T → ToldNews deck s P T0 T
told-news none = still-told refl
told-news {deck = deck} {s = s} {P = P} {T0 = T0} (more U l by_now ours agrees clears) =
    let m = told-news by_now in
    record {
      lines = m.lines ++ l ∷ [];
      is = ap (λ z. z ++ l ∷ []) m.is ∙ append_assoc T0 m.lines (l ∷ []);
      ours = all-append s m.lines (l ∷ []) m.ours (and_from (is_line_of s l) true ours refl);
      agree = λ before e. lines-push deck P before m.lines l (m.agree before e)
          (line-behind deck s P U (before ++ m.lines) l ours
          (ap (filter (is_line_of s)) m.is
          ∙ (filter-append (is_line_of s) T0 m.lines
          ∙ (ap (λ z. z ++ filter (is_line_of s) m.lines) e ∙ sym (filter-append (is_line_of s) before m.lines))))
          agrees);
    }
