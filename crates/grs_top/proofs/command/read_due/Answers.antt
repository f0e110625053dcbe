use Rattle.std.proofs.Common.{ℕ, refl, subst, ◌+◌}
use Rattle.std.proofs.lemmas.Fn.{says_at}
use Rattle.grs_io.specs.Moved.{TakesFirst}
use Rattle.grs_top.specs.Due.{IsDue}
use Rattle.grs_top.proofs.command.read_due.Goals as goal

pub returns-clause-due : goal.returns-clause-due
returns-clause-due g c =
    let due : IsDue c.args.command c.as_slice.result.now c.in_ok-due.due.out c.in_ok-due.due.status =
    c.requires.due c.as_slice.result.now _ (says_at g.F.Fn c.in_ok-due.ensures refl) in
    record {
      text = c.in_ok-text.text;
      read = subst
          (λ (n : ℕ). TakesFirst (n + 1) (g.S.Source.left c.args.source.now)
          (g.S.Source.left c.read_all.new.source) c.in_ok-text.text)
          c.limit_of.ensures.limit c.in_ok-text.ensures.text;
      due = rw c.as_slice.ensures at due;
    }
