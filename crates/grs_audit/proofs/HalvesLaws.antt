-- Where a report begins, found line by line.
use Rattle.std.proofs.Common.{◌≡◌, ◌<◌, ◌≤◌, ◌+◌, ◌-◌, ℕ, suc, Bool, true, false, cond, List, [], ◌∷◌, ◌++◌, length}
use Rattle.std.proofs.Common.{take, drop, ◌^◌, refl, ap, sym, subst, ◌∙◌, arith, append_assoc, length-append}
use Rattle.std.specs.Prelude.{◌==◌}
use Rattle.std.proofs.lemmas.Bool.{eqb-true}
use Rattle.std.specs.Str.{bytes_eq}
use Rattle.grs_audit.specs.Found.{IsReportAt}
use Rattle.grs_audit.specs.Halves.{most_audited_bytes, report_word, report_at, deck_part}
use Rattle.grs_audit.specs.Lines.{before_lines, lines_in, front, behind}
use Rattle.grs_audit.proofs.HeadLaws.{behind-shorter, lines-some}
use Rattle.grs_audit.proofs.LineLaws.{lines-append}
use Rattle.grs_audit.proofs.PartLaws.{lines-few}

-- ---- a text's first line, and what stands behind it
-- What stands before the rest behind a text's first line: that line and its end, or all where it has none.
pub record FirstLine (xs : List ℕ) : Type 0 where
  pub taken : List ℕ
  pub is : xs ≡ taken ++ behind 10 xs
  pub report : report_at false xs ≡ length taken + report_at true (behind 10 xs)
  pub few : length (lines_in taken) ≤ 1
  pub ends : 0 < length (behind 10 xs) → (q : List ℕ) × (taken ≡ q ++ 10 ∷ [])

few-before : (b : ℕ) (ls : List (List ℕ)) → (b == 10) ≡ false → length ls ≤ 1 → length (before_lines b ls) ≤ 1
few-before b [] e few =
    let one : length (before_lines b []) ≡ 1 = ap (λ c. length (cond c ([] ∷ []) ((b ∷ []) ∷ []))) e in omega (arith, one)
few-before b (l ∷ ls) e few =
    let one : length (before_lines b (l ∷ ls)) ≡ suc (length ls) =
    ap (λ c. length (cond c ([] ∷ l ∷ ls) ((b ∷ l) ∷ ls))) e in
    omega (arith, one, few)

pub first-line : (xs : List ℕ) → FirstLine xs
first-line [] =
    record { taken = []; is = refl; report = refl; few = omega arith; ends = λ e. absurd (omega (arith, e)) }
first-line (x ∷ xs) = go (x == 10) refl (first-line xs)
  where
    go : (c : Bool) → (x == 10) ≡ c → FirstLine xs → FirstLine (x ∷ xs)
    go true e f =
        let tail : behind 10 (x ∷ xs) ≡ xs = ap (λ b. cond b xs (behind 10 xs)) e in
        let end : x ≡ 10 = eqb-true x 10 e in
        record {
          taken = x ∷ [];
          is = ap (λ ys. x ∷ ys) (sym tail);
          report =
              let r = ap (λ b. report_at b xs) e ∙ ap (λ ys. report_at true ys) (sym tail) in omega (arith, r);
          few = subst (λ y. length (lines_in (y ∷ [])) ≤ 1) (sym end) (omega arith);
          ends = λ some. ([], ap (λ y. y ∷ []) end);
        }
    go false e f =
        let tail : behind 10 (x ∷ xs) ≡ behind 10 xs = ap (λ b. cond b xs (behind 10 xs)) e in
        record {
          taken = x ∷ f.taken;
          is = ap (λ ys. x ∷ ys) f.is ∙ ap (λ ys. x ∷ (f.taken ++ ys)) (sym tail);
          report =
              let r = ap (λ b. report_at b xs) e in
              let g = f.report in
              let t = ap (λ ys. report_at true ys) tail in
              omega (arith, r, g, t);
          few = few-before x (lines_in f.taken) e f.few;
          ends = λ some.
              let r = f.ends (subst (λ ys. 0 < length ys) tail some) in (x ∷ r.0, ap (λ ys. x ∷ ys) r.1);
        }

-- ---- as far as it was looked for
-- No line of these begins a report, and lines begin behind them where there are more.
pub record IsBefore (text rest : List ℕ) (lines : ℕ) : Type 0 where
  pub before : List ℕ
  pub split : text ≡ before ++ rest
  pub report : report_at true text ≡ length before + report_at true rest
  pub count : lines ≡ length (lines_in before)
  pub apart : 0 < length rest → (more : List ℕ) → lines_in (before ++ more) ≡ lines_in before ++ lines_in more

pub before-none : (text : List ℕ) → IsBefore text text 0
before-none text =
    record { before = []; split = refl; report = omega arith; count = refl; apart = λ some more. refl }

pub before-more : (text rest : List ℕ) (lines : ℕ) → IsBefore text rest lines → 0 < length rest
    → bytes_eq (front 10 rest) report_word ≡ false → IsBefore text (behind 10 rest) (lines + 1)
before-more text [] lines b some other = absurd (omega (arith, some))
before-more text (x ∷ xs) lines b some other = record {
  before = b.before ++ f.taken;
  split = b.split ∙ ap (λ ys. b.before ++ ys) f.is ∙ sym (append_assoc b.before f.taken (behind 10 (x ∷ xs)));
  report =
      let l = length-append b.before f.taken in
      let r = b.report in
      let s = start ∙ f.report in
      omega (arith, l, r, s);
  count =
      let c = b.count in
      let l = ap length (b.apart some f.taken) ∙ length-append (lines_in b.before) (lines_in f.taken) in
      let o = one in
      omega (arith, c, l, o);
  apart = λ more_left more.
      let r = f.ends more_left in
      ap lines_in (append_assoc b.before f.taken more)
      ∙ b.apart some (f.taken ++ more)
      ∙ ap (λ ls. lines_in b.before ++ ls)
      (ap (λ q. lines_in (q ++ more)) r.1
      ∙ lines-append r.0 more
      ∙ ap (λ q. lines_in q ++ lines_in more) (sym r.1))
      ∙ sym (append_assoc (lines_in b.before) (lines_in f.taken) (lines_in more))
      ∙ ap (λ ls. ls ++ lines_in more) (sym (b.apart some f.taken));
}
  where
    f : FirstLine (x ∷ xs)
    f = first-line (x ∷ xs)

    start : report_at true (x ∷ xs) ≡ report_at false (x ∷ xs)
    start = ap (λ c. cond c 0 (suc (report_at (x == 10) xs))) other

    one : length (lines_in f.taken) ≡ 1
    one =
        let l = ap length f.is ∙ length-append f.taken (behind 10 (x ∷ xs)) in
        let less = behind-shorter 10 (x ∷ xs) some in
        let cut = ap length (lines-some f.taken (omega (arith, l, less))) in
        let few = f.few in
        omega (arith, cut, few)

pub lines-small : (text rest : List ℕ) (lines : ℕ) → IsBefore text rest lines → length text ≤ most_audited_bytes
    → lines + 1 < 2 ^ 32
lines-small text rest lines b short =
    let c = b.count in
    let l = ap length b.split ∙ length-append b.before rest in
    let f = lines-few b.before in
    omega (arith, c, l, f, short)

-- ---- what is found
take-front : (xs ys : List ℕ) → take (length xs) (xs ++ ys) ≡ xs
take-front [] ys = refl
take-front (x ∷ xs) ys = ap (λ zs. x ∷ zs) (take-front xs ys)

drop-front : (xs ys : List ℕ) → drop (length xs) (xs ++ ys) ≡ ys
drop-front [] ys = refl
drop-front (x ∷ xs) ys = drop-front xs ys

pub found-end : (text rest : List ℕ) (lines : ℕ) → IsBefore text rest lines → report_at true rest ≡ 0
    → report_at true text ≡ length text - length rest
found-end text rest lines b here =
    let r = b.report in
    let l = ap length b.split ∙ length-append b.before rest in
    omega (arith, r, l, here)

at-end : (xs : List ℕ) → length xs ≡ 0 → report_at true xs ≡ 0
at-end [] e = refl
at-end (x ∷ xs) e = absurd (omega (arith, e))

at-word : (xs : List ℕ) → bytes_eq (front 10 xs) report_word ≡ true → report_at true xs ≡ 0
at-word [] e = refl
at-word (x ∷ xs) e = ap (λ c. cond c 0 (suc (report_at (x == 10) xs))) e

pub found-at : (text rest : List ℕ) (lines : ℕ) → IsBefore text rest lines → report_at true rest ≡ 0
    → IsReportAt text rest lines
found-at text rest lines b here = record {
  deck = ap (λ n. take n text) (sym there);
  report =
      sym (drop-front b.before rest) ∙ ap (λ ys. drop (length b.before) ys) (sym b.split) ∙ ap (λ n. drop n text) place;
  first =
      let c = b.count in
      let same : length (lines_in b.before) ≡ length (lines_in (deck_part text)) =
      ap (λ ys. length (lines_in ys)) (sym (take-front b.before rest)
      ∙ ap (take (length b.before)) (sym b.split)
      ∙ ap (λ n. take n text) place) in
      omega (arith, c, same);
  few =
      let c = b.count in
      let l = ap length b.split ∙ length-append b.before rest in
      let f = lines-few b.before in
      omega (arith, c, l, f);
}
  where
    there : report_at true text ≡ length text - length rest
    there = found-end text rest lines b here

    place : length b.before ≡ report_at true text
    place = let r = b.report in omega (arith, r, here)

pub found-none : (text rest : List ℕ) (lines : ℕ) → IsBefore text rest lines → length rest ≡ 0
    → IsReportAt text rest lines
found-none text rest lines b e = found-at text rest lines b (at-end rest e)

pub found-word : (text rest : List ℕ) (lines : ℕ) → IsBefore text rest lines
    → bytes_eq (front 10 rest) report_word ≡ true → IsReportAt text rest lines
found-word text rest lines b e = found-at text rest lines b (at-word rest e)
