-- A manager settles the request that it holds first: it answers by its own lists of the entry, which are the history's.
use Rattle.grs_world.proofs.Common.{[], ◌++◌, ◌∙◌, ◌∷◌, ◌≡◌, after_request, Alike, Answer, answer_for, answer_to, ap}
use Rattle.grs_world.proofs.Common.{awake, Deck, Deq, Enq, entry_wanted, fixed_by, history, is_among, items, items_of}
use Rattle.grs_world.proofs.Common.{kept_for, List, list_of, lists, lists-push, Look, made_item, Managed, MayFollow}
use Rattle.grs_world.proofs.Common.{MediumState, new_owners, NodeState, None, Option, owners_by, owns, plain, rank_of}
use Rattle.grs_world.proofs.Common.{refl, Release, Req, Res, res_wanted, RunItem, same_Some, slice_get, Some, StarPart}
use Rattle.grs_world.proofs.Common.{subst, sym, SysId, TaskId, tell_new, told-news, ToldNews, true, Want, with_mail}
use Rattle.grs_world.proofs.Common.{with_star, World}
use Rattle.contention_mgr.specs.Manager.{rank_for}
use Rattle.grs_known.proofs.lists.Alike.{answer-alike, owners-alike}
use Rattle.grs_node.specs.Star.{lists_for}
use Rattle.grs_known.proofs.lists.Owners.{new-owns}
use Rattle.std.specs.Prelude.{drop}
use Rattle.grs_world.proofs.star.Plain.{settled_first}
use Rattle.grs_world.proofs.star.Members.{IsMember, all_lists}
use Rattle.grs_world.proofs.star.Settling.{follows-now, hand, manager-after, whole-settled}
use Rattle.grs_world.proofs.star.Systems.{gives_want}
use Rattle.grs_world.proofs.star.Under.{under, answer-under, entry-same, owners-under}
use Rattle.grs_world.proofs.star.Worlds.{IsHand, IsWhole, are_live, items-one}
use Rattle.grs_world.proofs.star.hearing.Settled.{heard-settled}
use Rattle.grs_world.proofs.star.ranks.Settles.{ranked-settled}
use Rattle.grs_world.proofs.star.steps.Outcome.{Comes}
use Rattle.grs_world.proofs.run.Desks.{tells_tasks}
use Rattle.grs_world.proofs.at_rest.StarTasks.{dated-by, keeps-new}
use Rattle.grs_world.proofs.run.Site.{Site}
use Rattle.grs_wire.specs.declared.medium.Mail.TheVariants as mails
use Rattle.grs_wire.specs.declared.request.Fixed.TheVariants as fixes

-- what gives something up puts nothing into a list
rank-plain : (o : Option Managed) (t : TaskId) (w : Want) → gives_want w ≡ true → rank_for o t w ≡ 0
rank-plain None t w gives = refl
rank-plain (Some m) t (Enq r c ret full) gives = absurd (cc)
rank-plain (Some m) t (Deq r have) gives = refl
rank-plain (Some m) t (Release r) gives = refl
rank-plain (Some m) t (Look first count f) gives = absurd (cc)

first-of : (qs : List Req) (q : Req) → slice_get qs 0 ≡ Some q → qs ≡ q ∷ drop 1 qs
first-of [] q is = absurd (cc)
first-of (z ∷ qs) q is = ap (λ y. y ∷ qs) (same_Some z q is)

module _ (deck : Deck) (w : World) (g : IsWhole deck w) (c : SysId) (n : NodeState) (at : Site w c.0 n) where
  abbrev me : IsMember deck w.medium.words (all_lists w) c.0 n
  me = g.roles.node c.0 n at

  abbrev p : StarPart
  p = me.part

  abbrev T : List RunItem
  T = items w.fixed

  -- ---- the request that it holds first
  module _ (q : Req) (first : slice_get p.held 0 ≡ Some q) where
    abbrev item : RunItem
    item = made_item c T (fixes.Asked q)

    held : p.held ≡ q ∷ drop 1 p.held
    held = first-of p.held q first

    abbrev its : IsHand deck w.medium.words (are_live w) g.later g.out c.0 q
    its = hand deck w g c n at p me.star q (drop 1 p.held) held

    abbrev follow : MayFollow deck T item
    follow = follows-now deck w g c n at p me.star q (drop 1 p.held) held

    -- its lists of the entry are what all lists have of it
    lists-here : Alike (lists_for p q.want) (under deck.entries its.entry (lists T))
    lists-here =
        subst (λ o. Alike (plain (items_of (kept_for p.manager.entries o))) (under deck.entries its.entry (lists T)))
        (sym (ap (λ k. entry_wanted k q.want) me.fits.entries ∙ its.at))
        (me.fits.lists its.entry (me.fits.roles its.entry ∙ its.managed))

    -- so they answer the same, and give the same tasks control
    same-answer : answer_for p q ≡ answer_to (lists T) q.task q.want
    same-answer =
        answer-alike (lists_for p q.want) (under deck.entries its.entry (lists T)) q.task q.want lists-here
        ∙ answer-under deck.entries its.entry (lists T) q.task q.want
        (entry-same its.entry (entry_wanted deck.entries q.want) its.at)

    same-owners : owners_by p q ≡ new_owners (lists T) q.task q.want
    same-owners =
        owners-alike (lists_for p q.want) (under deck.entries its.entry (lists T)) q.task q.want lists-here
        ∙ owners-under deck.entries its.entry (lists T) q.task q.want
        (entry-same its.entry (entry_wanted deck.entries q.want) its.at)

    own : (r : Res) → res_wanted q.want ≡ Some r → (u : TaskId) → is_among u (owners_by p q) ≡ true
        → owns (list_of (lists (T ++ item ∷ [])) r) u ≡ true
    own r wanted u among =
        ap (λ z. owns (list_of z r) u) (lists-push T item)
        ∙ new-owns (lists T) q.task q.want r u wanted (sym (ap (is_among u) same-owners) ∙ among)

    -- the system then
    abbrev after : StarPart
    after = record p { manager = after_request p.manager q.task q.want; held = drop 1 p.held }

    news :
        ToldNews deck c.0 (history (items (w.fixed ++ fixed_by c (fixes.Asked q ∷ [])))) n.tasks.told
        (tell_new n.tasks (res_wanted q.want) (owners_by p q)).told
    news =
        subst (λ xs.
        ToldNews deck c.0 (history xs) n.tasks.told (tell_new n.tasks (res_wanted q.want) (owners_by p q)).told)
        (sym (items-one w.fixed c (fixes.Asked q)))
        (told-news (manager-after deck w g c n at p me.star q (drop 1 p.held) held (owners_by p q) own
        (Some after)).told)

    -- the medium, where this answer is sent
    abbrev answered : Answer → MediumState
    answered a =
        record w.medium {
          inboxes = with_mail w.medium.inboxes q.task.system.0 (mails.Answered q.task a (rank_of p q));
          rest = awake w.medium c;
        }

    by-history :
        Comes deck w g c n (record {
          medium = answered (answer_to (lists T) q.task q.want);
          step = with_star n (settled_first n.tasks p q);
        })
    by-history step = record {
      stays =
          whole-settled deck w g c n at p me.star q (drop 1 p.held) held (rank_of p q)
          (rank-plain _ q.task q.want) (awake w.medium c) (owners_by p q) own after refl step;
      news = tells_tasks news refl refl;
      heard =
          heard-settled deck w g c n at p me.star me.fits q (drop 1 p.held) held its same-owners
          (awake w.medium c);
      ranked = λ g'. ranked-settled deck w g c n at p me.star me.fits q its (awake w.medium c);
      dated = λ h.
          dated-by deck c.0 n (with_star n (settled_first n.tasks p q)).node refl h
          (keeps-new deck n.tasks (res_wanted q.want) (owners_by p q) h.date);
    }

    pub outcome-settle :
        Comes deck w g c n
        (record { medium = answered (answer_for p q); step = with_star n (settled_first n.tasks p q) })
    outcome-settle =
        subst (λ a.
        Comes deck w g c n (record { medium = answered a; step = with_star n (settled_first n.tasks p q) }))
        (sym same-answer) by-history
