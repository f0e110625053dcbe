-- What a system prepares fits the medium.
use Rattle.grs_world.proofs.Common.{◌<◌, ◌==◌, ◌∙◌, ◌≡◌, ◌≢◌, ◌≤◌, Act, and_parts, ap, arith, Bool, Call, carry_out}
use Rattle.grs_world.proofs.Common.{Choice, chosen, Deck, eqb-false, eqb-true, false, finish, length, list_all}
use Rattle.grs_world.proofs.Common.{MediumState, most_additions, nat_le, nat_lt, nat_tests, NodeState, prepare}
use Rattle.grs_world.proofs.Common.{Prepared, refl, reply_to, Some, subst, sym, SysId, systems_of, true, ℕ}
use Rattle.std.specs.Prelude.{not}
use Rattle.grs_medium.specs.Apply.{ActFits, medium_after}
use Rattle.grs_node.specs.Addressed.{is_act_addressed}
use Rattle.grs_medium.proofs.Replies.{replies_are_listed}
use Rattle.grs_node.proofs.Finish.{may_come-listed}
use Rattle.grs_node.specs.Finish.{may_come}
use Rattle.grs_wire.specs.declared.medium.Call.{Call as CallOfMedium}
use Rattle.lock_structure.specs.Words.{word_fits}
use Rattle.grs_wire.specs.declared.medium.Act.TheVariants as acts

below : (a b c : ℕ) → nat_lt a b ≡ true → c ≡ b → a < c
below a b c h e = grind (arith, nat_tests, h, e)

within : (a b : ℕ) → nat_le a b ≡ true → a ≤ b
within a b h = grind (arith, nat_tests, h)

refused : (b : Bool) → not b ≡ true → b ≡ false
refused true h = cc
refused false h = refl

unequal : (a b : ℕ) → not (a == b) ≡ true → a ≢ b
unequal a b h = eqb-false a b (refused (a == b) h)

pub act-fits : (m : MediumState) (c : SysId) (deck : Deck) (act : Act) → is_act_addressed deck c.0 act ≡ true
    → systems_of m ≡ length deck.systems → length m.words ≡ deck.entries → ActFits m c act
act-fits m c deck (acts.Turn out) a s w = within (length out) most_additions a
act-fits m c deck (acts.Switch words) a s w =
    let parts = and_parts (length words == deck.entries) (list_all (word_fits (length deck.systems)) words) a in (
      eqb-true (length words) deck.entries parts.0 ∙ sym w,
      subst (λ n. list_all (word_fits n) words ≡ true) (sym s) parts.1,
    )
act-fits m c deck (acts.Submit e q) a s w = below e deck.entries (length m.words) a w
act-fits m c deck acts.Take a s w = tt
act-fits m c deck (acts.Settle to mail) a s w = below to.0 (length deck.systems) (systems_of m) a s
act-fits m c deck (acts.Tell to mail) a s w = below to.0 (length deck.systems) (systems_of m) a s
act-fits m c deck (acts.Leave e) a s w = below e deck.entries (length m.words) a w
act-fits m c deck (acts.Purge t) a s w =
    unequal t.0 c.0 (and_parts (nat_lt t.0 (length deck.systems)) (not (t.0 == c.0)) a).1
act-fits m c deck acts.Rest a s w = tt

-- what a call that was prepared leads to
pub chosen-call : (deck : Deck) (m : MediumState) (c : SysId) (n : NodeState) (choice : Choice) (call : CallOfMedium)
    → prepare deck n choice ≡ Call call
    → chosen deck m c n choice
    ≡ record { medium = medium_after m c call; step = finish deck n choice (Some (reply_to m c call)) }
unfolding chosen carry_out
chosen-call deck m c n choice call h = ap (λ (p : Prepared). carry_out deck m c n choice p) h

-- what was prepared may come to the medium's reply
pub may_come-reply : (m : MediumState) (c : SysId) (deck : Deck) (n : NodeState) (choice : Choice) (call : CallOfMedium)
    → prepare deck n choice ≡ Call call → may_come (prepare deck n choice) (reply_to m c call) ≡ true
may_come-reply m c deck n choice call h =
    may_come-listed deck n choice call (reply_to m c call) h (replies_are_listed m c call)

pub ruleset calls = (act-fits, may_come-reply)
