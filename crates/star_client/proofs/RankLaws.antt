-- The ranks of records behind an answer.
use Rattle.std.proofs.Common.{◌≡◌, ◌∙◌, ℕ, zero, suc, Bool, true, false, cond, List, [], ◌∷◌, Option, Some, None, refl}
use Rattle.std.proofs.Common.{ap, sym, subst}
use Rattle.std.specs.Prelude.{get_or, set, is_none, slice_get}
use Rattle.grs_base.specs.Same.{same_res}
use Rattle.grs_base.specs.declared.resource.Res.{Res}
use Rattle.grs_base.specs.declared.resource.TaskId.{TaskId}
use Rattle.grs_wire.specs.Wants.{res_wanted}
use Rattle.grs_wire.specs.declared.request.Answer.{Answer}
use Rattle.star_client.specs.Client.{unrecorded, with_rank_of, tell_answer_ranked}
use Rattle.star_client.specs.Laws.{AnswersGiveRanks}
use Rattle.task_state.specs.Replies.{tell_answer}
use Rattle.task_state.specs.View.{TasksView, state_of, with_state, with_rank, record_of, record_place, on_record}
use Rattle.task_state.specs.View.{new_task}
use Rattle.task_state.specs.declared.state.Asked.{Asked}
use Rattle.task_state.specs.declared.state.Rec.{Rec}
use Rattle.task_state.specs.declared.state.TaskState.{TaskState}

-- records with this rank on those of a resource
abbrev ranked : Res → ℕ → List Rec → List Rec
ranked r n xs = on_record r (λ y. record y { rank = n }) xs

-- the first of these has it
has-rank : (r : Res) (n : ℕ) (xs : List Rec) (x : Rec) → record_of (ranked r n xs) r ≡ Some x → x.rank ≡ n
has-rank r n [] x h = absurd cc
has-rank r n (y ∷ xs) x h = go (same_res r y.res) refl h (has-rank r n xs x)
  where
    rank_of : Option Rec → ℕ
    rank_of None = n
    rank_of (Some z) = z.rank

    -- the first record, by whether the one in front is it
    first : Rec → Bool → Option Rec
    first z b = slice_get (z ∷ ranked r n xs) (cond b 0 (suc (record_place (ranked r n xs) r)))

    go : (b : Bool) → same_res r y.res ≡ b
        → record_of (cond b (record y { rank = n }) y ∷ ranked r n xs) r ≡ Some x
        → (record_of (ranked r n xs) r ≡ Some x → x.rank ≡ n) → x.rank ≡ n
    go true is k rest = sym (ap rank_of (sym (ap (first (record y { rank = n })) is) ∙ k))
    go false is k rest = rest (sym (ap (first y) is) ∙ k)

-- so it is with a task
in-task : (r : Res) (n : ℕ) (s : TaskState) (ts : List TaskState) (i : ℕ) (x : Rec)
    → record_of (get_or (set ts i (record s { records = ranked r n s.records })) i new_task).records r ≡ Some x
    → x.rank ≡ n
in-task r n s [] i x h = absurd cc
in-task r n s (t ∷ ts) zero x h = has-rank r n s.records x h
in-task r n s (t ∷ ts) (suc i) x h = in-task r n s ts i x h

with-rank : (v : TasksView) (t : TaskId) (r : Res) (n : ℕ) (x : Rec)
    → record_of (state_of (with_rank v t r n) t).records r ≡ Some x → x.rank ≡ n
unfolding with_rank with_state state_of
with-rank v t r n x h = in-task r n (state_of v t) v.tasks t.task x h

pub answers_give_ranks : AnswersGiveRanks
unfolding tell_answer_ranked
answers_give_ranks v t a answer rank r x wants none h =
    let after : TasksView = tell_answer v t a answer in
    with-rank after t r rank x
    (subst (λ (o : Option Res). record_of (state_of (with_rank_of after t o rank) t).records r ≡ Some x)
    (ap (unrecorded v t) wants ∙ ap (λ (o : Option Rec). cond (is_none o) (Some r) None) none) h)
