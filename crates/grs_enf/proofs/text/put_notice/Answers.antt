use Rattle.std.proofs.Common.{◌≡◌, ◌++◌, ◌∷◌, ◌∙◌, ap, List, [], ℕ}
use Rattle.std.specs.Fmt.{decimal}
use Rattle.grs_enf.specs.Text.{notice_line}
use Rattle.grs_enf.proofs.TextLemmas.{notice-put, on_ok}
use Rattle.grs_enf.proofs.text.put_notice.Goals as goal

pub returns : goal.returns
returns c =
    on_ok (c.push-3.new.self ≡ c.put_number_word-3.new.out ++ 10 ∷ [])
    (c.push-3.new.self ≡ c.args.out.now ++ notice_line c.args.names.now c.args.noted.now)
    (notice-put c.args.names.now c.args.noted.now c.args.out.now c.push.new.self c.put_number_word.new.out
    c.put_word.new.out c.push-2.new.self c.put_res.new.out c.put_number_word-2.new.out c.put_number_word-3.new.out
    c.push-3.new.self c.in_ok-push.ensures.ok c.in_ok-put_number_word.ensures
    (c.in_ok-put_word.ensures ∙ ap (λ (w : List ℕ). c.put_number_word.new.out ++ (32 ∷ w)) c.what_word.ensures)
    c.in_ok-push-2.ensures.ok c.in_ok-put_res.ensures
    (c.in_ok-put_number_word-2.ensures ∙ ap (λ (n : ℕ). c.put_res.new.out ++ (32 ∷ decimal n)) c.from.ensures)
    (c.in_ok-put_number_word-3.ensures
    ∙ ap (λ (n : ℕ). c.put_number_word-2.new.out ++ (32 ∷ decimal n)) c.from-2.ensures))
    c.push-3.result c.push-3.ensures.ok
