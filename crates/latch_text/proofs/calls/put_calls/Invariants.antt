use Rattle.std.proofs.Common.{◌≡◌, ◌++◌, suc, drop}
use Rattle.grs_latch.specs.Calls.{AllCome, replies, after_all}
use Rattle.latch_text.specs.Text.{calls_text}
use Rattle.latch_text.proofs.calls.put_calls.Given as goal

abbrev pub invariant-loop-place : goal.invariant-loop-place
invariant-loop-place l = record {
  come : AllCome (drop l.place l.calls) l.latches;
  text :
      l.out ++ calls_text (suc l.place) (drop l.place l.calls) (replies (drop l.place l.calls) l.latches)
      ≡ l.initial.out ++ calls_text 1 l.calls (replies l.calls l.initial.latches);
  after : after_all (drop l.place l.calls) l.latches ≡ after_all l.calls l.initial.latches;
}
