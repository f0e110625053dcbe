-- Journals that grow by one entry, and what their entries say of the medium.
use Rattle.std.proofs.Common.{◌≡◌, ◌≢◌, ℕ, eqb, Bool, true, false, cond, not, ◌&&◌, ◌||◌, List, [], ◌∷◌, ◌++◌, refl}
use Rattle.std.proofs.Common.{sym, ap, ◌∙◌, append_assoc, append-nil, eq-eqb, ne_eqb}
use Rattle.std.specs.Prelude.{◌==◌, All}
use Rattle.std.proofs.lemmas.List.Elements.{filter-append, All-nil, All-cons}
use Rattle.grs_base.specs.declared.resource.SysId.{SysId}
use Rattle.grs_wire.specs.Masks.{has}
use Rattle.grs_wire.specs.declared.medium.Call.{Call}
use Rattle.grs_wire.specs.declared.medium.JEntry.{JEntry}
use Rattle.grs_wire.specs.declared.medium.Reply.TheVariants as replies
use Rattle.grs_medium.specs.Apply.{reply_to, medium_after, changes, row_changes, MayCall}
use Rattle.grs_medium.specs.Medium.{MediumState}
use Rattle.grs_medium.proofs.CauseLaws.{removed_comes}
use Rattle.grs_medium.proofs.KeepLaws.{leaves_the_rest}
use Rattle.grs_medium.proofs.KeptSizes.{may_call_behind}
use Rattle.grs_bus.specs.Journal.{is_acted_on, is_entered, after_all, IsRight, AreRight, entries_of, Begins}

pub after_all-snoc : (m : MediumState) (xs : List JEntry) (e : JEntry)
    → after_all m (xs ++ e ∷ []) ≡ medium_after (after_all m xs) e.system e.call
after_all-snoc m [] e = refl
after_all-snoc m (x ∷ xs) e = after_all-snoc (medium_after m x.system x.call) xs e

pub AreRight-snoc : (m : MediumState) (xs : List JEntry) (e : JEntry) → AreRight m xs → IsRight (after_all m xs) e
    → AreRight m (xs ++ e ∷ [])
AreRight-snoc m [] e right last = (last, tt)
AreRight-snoc m (x ∷ xs) e right last = (right.0, AreRight-snoc (medium_after m x.system x.call) xs e right.1 last)

pub entries_of-own : (xs : List JEntry) (e : JEntry) (n : ℕ) → e.system.0 ≡ n
    → entries_of n (xs ++ e ∷ []) ≡ entries_of n xs ++ e ∷ []
entries_of-own xs e n is =
    filter-append (λ (x : JEntry). eqb x.system.0 n) xs (e ∷ [])
    ∙ ap (λ b. entries_of n xs ++ cond b (e ∷ []) []) (eq-eqb e.system.0 n is)

pub entries_of-other : (xs : List JEntry) (e : JEntry) (n : ℕ) → e.system.0 ≢ n
    → entries_of n (xs ++ e ∷ []) ≡ entries_of n xs
entries_of-other xs e n ne =
    filter-append (λ (x : JEntry). eqb x.system.0 n) xs (e ∷ [])
    ∙ (ap (λ b. entries_of n xs ++ cond b (e ∷ []) []) (ne_eqb e.system.0 n ne) ∙ append-nil (entries_of n xs))

pub Begins-refl : (xs : List JEntry) → Begins xs xs
Begins-refl xs = ([], sym (append-nil xs))

pub Begins-snoc : (xs ys : List JEntry) (e : JEntry) → Begins xs ys → Begins xs (ys ++ e ∷ [])
Begins-snoc xs ys e p = (p.0 ++ e ∷ [], ap (λ z. z ++ e ∷ []) p.1 ∙ append_assoc xs p.0 (e ∷ []))

-- what the medium can be asked at the start it can be asked behind any journal
pub can_be_asked : (m : MediumState) (xs : List JEntry) (c : SysId) (call : Call) → AreRight m xs → MayCall m c call
    → MayCall (after_all m xs) c call
can_be_asked m [] c call right can = can
can_be_asked m (x ∷ xs) c call right can =
    can_be_asked (medium_after m x.system x.call) xs c call right.1
    (may_call_behind m x.system x.call c call right.0.0.1 can)

neither : (a b : Bool) → (a || b) ≡ false → a ≡ false
neither false b h = refl
neither true b h = absurd cc

-- a call is left out that changes nothing, and whose reply isn't acted on
pub left_out : (m : MediumState) (c : SysId) (call : Call) → changes m c call ≡ false
    → is_acted_on (reply_to m c call) ≡ false → is_entered m c call ≡ false
unfolding is_entered
left_out m c call h k = λ i. h i || k i

-- a call that isn't entered leaves the medium as it was
pub stays : (m : MediumState) (c : SysId) (call : Call) → is_entered m c call ≡ false → medium_after m c call ≡ m
unfolding is_entered
stays m c call h = leaves_the_rest m c call (neither (changes m c call) (is_acted_on (reply_to m c call)) h)

-- no entry is replied that its system was removed
right_not_removed : (m : MediumState) (e : JEntry) → IsRight m e → e.reply ≢ replies.Removed
unfolding is_entered changes
right_not_removed m e right is =
    let reply : reply_to m e.system e.call ≡ replies.Removed = sym right.1 ∙ is in
    let gone : has m.removed e.system.0 ≡ true = (removed_comes m e.system e.call).0 reply in
    let not_entered :
    (not (has m.removed e.system.0) && (e.call.known == m.removed) && row_changes m e.system e.call.act
    || is_acted_on (reply_to m e.system e.call))
    ≡ false =
    (λ i. not (gone i) && (e.call.known == m.removed) && row_changes m e.system e.call.act || is_acted_on (reply i)) in
    let e : true ≡ false = sym right.2 ∙ not_entered in absurd cc

pub none_removed : (m : MediumState) (xs : List JEntry) → AreRight m xs
    → All (λ (e : JEntry). e.reply ≢ replies.Removed) xs
none_removed m [] right = All-nil (λ (e : JEntry). e.reply ≢ replies.Removed)
none_removed m (x ∷ xs) right =
    All-cons (λ (e : JEntry). e.reply ≢ replies.Removed) x xs (right_not_removed m x right.0)
    (none_removed (medium_after m x.system x.call) xs right.1)
