-- What a system prepares fits the medium.
use Rattle.std.proofs.Common.{◌≡◌, refl, ◌≢◌, false, Bool, ◌<◌, ◌≤◌, ℕ, true, length, sym, subst, ◌∙◌, arith}
use Rattle.std.proofs.lemmas.Bool.{and_parts, eqb-true, eqb-false}
use Rattle.std.proofs.lemmas.Bool.Decides.{nat_tests}
use Rattle.std.specs.Prelude.{not, ◌==◌, nat_lt, nat_le}
use Rattle.std.specs.List.{list_all}
use Rattle.grs_base.specs.Limits.{most_additions}
use Rattle.grs_base.specs.declared.resource.SysId.{SysId}
use Rattle.grs_medium.specs.Apply.{ActFits}
use Rattle.grs_medium.specs.Medium.{MediumState, systems_of}
use Rattle.grs_node.specs.Addressed.{is_act_addressed}
use Rattle.grs_wire.specs.declared.deck.Deck.{Deck}
use Rattle.grs_wire.specs.declared.medium.Act.{Act}
use Rattle.grs_wire.specs.declared.medium.Act.TheVariants as acts
use Rattle.lock_structure.specs.Words.{word_fits}

below : (a b c : ℕ) → nat_lt a b ≡ true → c ≡ b → a < c
below a b c h e = grind (arith, nat_tests, h, e)

within : (a b : ℕ) → nat_le a b ≡ true → a ≤ b
within a b h = grind (arith, nat_tests, h)

refused : (b : Bool) → not b ≡ true → b ≡ false
refused true h = cc
refused false h = refl

unequal : (a b : ℕ) → not (a == b) ≡ true → a ≢ b
unequal a b h = eqb-false a b (refused (a == b) h)

pub act-fits : (m : MediumState) (c : SysId) (deck : Deck) (act : Act) → is_act_addressed deck c.0 act ≡ true
    → systems_of m ≡ length deck.systems → length m.words ≡ deck.entries → ActFits m c act
act-fits m c deck (acts.Turn out) a s w = within (length out) most_additions a
act-fits m c deck (acts.Switch words) a s w =
    let parts = and_parts (length words == deck.entries) (list_all (word_fits (length deck.systems)) words) a in (
      eqb-true (length words) deck.entries parts.0 ∙ sym w,
      subst (λ n. list_all (word_fits n) words ≡ true) (sym s) parts.1,
    )
act-fits m c deck (acts.Submit e q) a s w = below e deck.entries (length m.words) a w
act-fits m c deck acts.Take a s w = tt
act-fits m c deck (acts.Settle to mail) a s w = below to.0 (length deck.systems) (systems_of m) a s
act-fits m c deck (acts.Tell to mail) a s w = below to.0 (length deck.systems) (systems_of m) a s
act-fits m c deck (acts.Leave e) a s w = below e deck.entries (length m.words) a w
act-fits m c deck (acts.Purge t) a s w =
    unequal t.0 c.0 (and_parts (nat_lt t.0 (length deck.systems)) (not (t.0 == c.0)) a).1
act-fits m c deck acts.Rest a s w = tt

-- what is said of a system's number is said of its seat's
pub home-addressed : (c home : ℕ) (deck : Deck) (act : Act) → c ≡ home → is_act_addressed deck home act ≡ true
    → is_act_addressed deck c act ≡ true
home-addressed c home deck act same h = subst (λ (k : ℕ). is_act_addressed deck k act ≡ true) (sym same) h
