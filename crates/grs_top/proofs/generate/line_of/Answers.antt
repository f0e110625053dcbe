use Rattle.std.proofs.Common.{◌≡◌, ℕ, List, [], ◌∷◌, ◌++◌, ap, ◌∙◌}
use Rattle.std.specs.Prelude.{codes, if◌then◌else◌}
use Rattle.std.specs.Fmt.{decimal}
use Rattle.grs_display.specs.Lines.{spaced, line}
use Rattle.grs_top.specs.Generated.{gen_line}
use Rattle.grs_top.proofs.GenLine.{first_words, more_words}
use Rattle.grs_top.proofs.generate.line_of.Goals as goal

pub returns : goal.returns
unfolding gen_line line
returns c =
    let f = c.args.figures in
    let number : c.put_number.new.out ≡ codes "GEN " ++ decimal c.args.n =
    c.in_ok-put_number.ensures.ok
    ∙ ap (λ (bs : List ℕ). bs ++ decimal c.from.result) c.in_ok-out.ensures
    ∙ ap (λ (k : ℕ). codes "GEN " ++ decimal k) c.from.ensures in
    let a0 = first_words (decimal c.args.n) c.put_number.new.out number in
    let rounds : c.put_figure-3.new.out ≡ c.put_figure-2.new.out ++ spaced (codes "ROUNDS" ∷ decimal f.rounds ∷ []) =
    c.in_ok-put_figure-3.ensures
    ∙ ap (λ (k : ℕ). c.put_figure-2.new.out ++ spaced (codes "ROUNDS" ∷ decimal k ∷ [])) c.from-2.ensures in
    let a1 =
    more_words (decimal c.args.n ∷ []) (codes "SYSTEMS") (decimal f.systems) c.put_number.new.out c.put_figure.new.out
    a0 (c.in_ok-put_figure.ensures) in
    let a2 =
    more_words (decimal c.args.n ∷ codes "SYSTEMS" ∷ decimal f.systems ∷ []) (codes "TASKS") (decimal f.tasks)
    c.put_figure.new.out c.put_figure-2.new.out a1 (c.in_ok-put_figure-2.ensures) in
    let a3 =
    more_words (decimal c.args.n ∷ codes "SYSTEMS" ∷ decimal f.systems ∷ codes "TASKS" ∷ decimal f.tasks ∷ [])
    (codes "ROUNDS") (decimal f.rounds) c.put_figure-2.new.out c.put_figure-3.new.out a2 (rounds) in
    let a4 =
    more_words (decimal c.args.n ∷ codes "SYSTEMS" ∷ decimal f.systems ∷ codes "TASKS" ∷ decimal f.tasks
    ∷ codes "ROUNDS" ∷ decimal f.rounds ∷ [])
    (codes "EVENTS") (decimal f.events) c.put_figure-3.new.out c.put_figure-4.new.out a3
    (c.in_ok-put_figure-4.ensures) in
    let a5 =
    more_words (decimal c.args.n ∷ codes "SYSTEMS" ∷ decimal f.systems ∷ codes "TASKS" ∷ decimal f.tasks
    ∷ codes "ROUNDS" ∷ decimal f.rounds ∷ codes "EVENTS" ∷ decimal f.events ∷ [])
    (codes "HISTORY") (decimal f.history) c.put_figure-4.new.out c.put_figure-5.new.out a4
    (c.in_ok-put_figure-5.ensures) in
    let a6 =
    more_words (decimal c.args.n ∷ codes "SYSTEMS" ∷ decimal f.systems ∷ codes "TASKS" ∷ decimal f.tasks
    ∷ codes "ROUNDS" ∷ decimal f.rounds ∷ codes "EVENTS" ∷ decimal f.events ∷ codes "HISTORY" ∷ decimal f.history ∷ [])
    (codes "ENDED") (decimal f.ended) c.put_figure-5.new.out c.put_figure-6.new.out a5 (c.in_ok-put_figure-6.ensures) in
    let a7 =
    more_words (decimal c.args.n ∷ codes "SYSTEMS" ∷ decimal f.systems ∷ codes "TASKS" ∷ decimal f.tasks
    ∷ codes "ROUNDS" ∷ decimal f.rounds ∷ codes "EVENTS" ∷ decimal f.events ∷ codes "HISTORY" ∷ decimal f.history
    ∷ codes "ENDED" ∷ decimal f.ended ∷ [])
    (codes "MODE") (if f.star then codes "STAR" else codes "RING") c.put_figure-6.new.out c.put_mode.new.out a6
    c.in_ok-put_mode.ensures in
    c.in_ok-push.ensures.ok ∙ ap (λ (bs : List ℕ). bs ++ 10 ∷ []) a7
