-- The words of an event line.
use Rattle.std.proofs.Common.{◌≡◌, ℕ, Bool, true, false, cond, eqb, List, [], ◌∷◌, length, position, Option, Some, None}
use Rattle.std.proofs.Common.{Bor, refl, sym, ap, ◌∙◌}
use Rattle.grs_base.specs.ShortNames.{is_name}
use Rattle.deck_scan.specs.declared.token.Token.{Token}
use Rattle.deck_scan.specs.declared.token.Token.TheVariants.{Word}
use Rattle.deck_scan.specs.Next.{◌>>=◌, end_at, any_word_at}
use Rattle.deck_scan.specs.Plain.{third_token, plain_tokens}
use Rattle.deck_scan.proofs.Taking.{any_word_taken}
use Rattle.deck_form.specs.declared.event.EventAct.{EventAct}
use Rattle.deck_form.specs.declared.event.EventWord.{EventWord}
use Rattle.deck_form.specs.declared.event.EventWord.TheVariants as words
use Rattle.deck_form.specs.Words.{short_at, named_at, dotted_at, parted, written_number}
use Rattle.deck_form.specs.Event.{event_word, pair_at, entry_at, act_at, event_at}

-- ---- behind the word of an event stands one word at most

never : {A B : Type 0} (x : Option A) (f : A → Option B) → ((a : A) → f a ≡ None) → (x >>= f) ≡ None
never None f h = refl
never (Some a) f h = h a

never_twice : {A B C : Type 0} (x : Option A) (f : A → Option B) (g : B → Option C)
    → ((a : A) → (f a >>= g) ≡ None) → ((x >>= f) >>= g) ≡ None
never_twice None f g h = refl
never_twice (Some a) f g h = h a

-- what is read where a test holds
where_true : {A B : Type 0} (test : Bool) (a : A) (f : A → Option B) (y : Option B) → f a ≡ y
    → (cond test (Some a) None >>= f) ≡ cond test y None
where_true true a f y h = h
where_true false a f y h = refl

where_none : {A B : Type 0} (test : Bool) (a : A) (f : A → Option B) → f a ≡ None
    → (cond test (Some a) None >>= f) ≡ None
where_none true a f h = h
where_none false a f h = refl

-- Something else than a word stands there.
pub act_of_other : (entries : ℕ) (v : EventWord) (t : Token) (ts : List Token) → any_word_at (t ∷ ts) ≡ None
    → act_at entries v (t ∷ ts) ≡ None
unfolding act_at pair_at dotted_at entry_at named_at short_at
act_of_other entries words.Task t ts h = rw h refl
act_of_other entries words.Send t ts h = rw h refl
act_of_other entries words.Tell t ts h = rw h refl
act_of_other entries words.Part t ts h = rw h refl
act_of_other entries words.Leave t ts h = rw h refl
act_of_other entries words.Purge t ts h = rw h refl
act_of_other entries _ t ts h = refl

-- More than a word stands there.
pair_of_more : (w : List ℕ) (t : Token) (ts : List Token) → pair_at (Word w ∷ t ∷ ts) ≡ None
unfolding pair_at dotted_at
pair_of_more w t ts = never_twice (parted (position (λ b. eqb b 46) w) w) _ _ (λ p. refl)

entry_of_more : (entries : ℕ) (w : List ℕ) (t : Token) (ts : List Token) → entry_at entries (Word w ∷ t ∷ ts) ≡ None
unfolding entry_at
entry_of_more entries w t ts = never (written_number w) _ (λ n. refl)

name_of_more : (w : List ℕ) (t : Token) (ts : List Token) → named_at (Word w ∷ t ∷ ts) ≡ None
unfolding named_at short_at
name_of_more w t ts = where_none (is_name w) _ _ refl

pub act_of_more : (entries : ℕ) (v : EventWord) (w : List ℕ) (t : Token) (ts : List Token)
    → act_at entries v (Word w ∷ t ∷ ts) ≡ None
unfolding act_at
act_of_more entries words.Task w t ts = rw (pair_of_more w t ts) refl
act_of_more entries words.Send w t ts = rw (pair_of_more w t ts) refl
act_of_more entries words.Tell w t ts = rw (entry_of_more entries w t ts) refl
act_of_more entries words.Part w t ts = rw (entry_of_more entries w t ts) refl
act_of_more entries words.Leave w t ts = rw (entry_of_more entries w t ts) refl
act_of_more entries words.Purge w t ts = rw (name_of_more w t ts) refl
act_of_more entries _ w t ts = refl

-- No act is read of what is neither nothing nor a word alone.
pub no_word : (ts : List Token) → any_word_at ts ≡ None → (length ts ≡ 0 → ⊥) → (entries : ℕ) (v : EventWord)
    → act_at entries v ts ≡ None
no_word [] h some entries v = absurd (some refl)
no_word (t ∷ ts) h some entries v = act_of_other entries v t ts h

pub more_words : (ts : List Token) (w : List ℕ) (rest : List Token) → any_word_at ts ≡ Some (w, rest)
    → end_at rest ≡ None → (entries : ℕ) (v : EventWord) → act_at entries v ts ≡ None
more_words ts w [] h k entries v = absurd cc
more_words ts w (u ∷ us) h k entries v =
    rw (any_word_taken ts (w, u ∷ us) h) (act_of_more entries v w u us)

-- Nothing stands there, or a word alone.
pub no_tokens : (ts : List Token) → length ts ≡ 0 → ts ≡ []
no_tokens [] h = refl
no_tokens (t ∷ ts) h = absurd cc

pub one_word : (ts : List Token) (w : List ℕ) (rest : List Token) → any_word_at ts ≡ Some (w, rest)
    → end_at rest ≡ Some tt → ts ≡ Word w ∷ []
one_word ts w [] h k = any_word_taken ts (w, []) h
one_word ts w (u ∷ us) h k = absurd cc

-- ---- a system and what it does

-- What is read behind the words of a system and an event.
abbrev pub does : ℕ → List ℕ → List ℕ → List Token → Option (List ℕ × EventAct)
does entries system word ts =
    cond (is_name system) (act_at entries (event_word word) ts >>= λ a. Some (system, a)) None

pub event_by : (entries : ℕ) (ts : List Token) (system : List ℕ) (front : List Token) (word : List ℕ)
    (behind : List Token) → any_word_at ts ≡ Some (system, front) → any_word_at front ≡ Some (word, behind)
    → event_at entries ts ≡ does entries system word behind
unfolding event_at short_at
event_by entries ts system front word behind h k = rw h (where_true (is_name system) _ _ _ (rw k refl))

-- No word stands there, or one alone.
pub event_alone : (entries : ℕ) (ts : List Token) → any_word_at ts ≡ None → event_at entries ts ≡ None
unfolding event_at short_at
event_alone entries ts h = rw h refl

pub event_of_system : (entries : ℕ) (ts : List Token) (system : List ℕ) (front : List Token)
    → any_word_at ts ≡ Some (system, front) → any_word_at front ≡ None → event_at entries ts ≡ None
unfolding event_at short_at
event_of_system entries ts system front h k = rw h (where_none (is_name system) _ _ (rw k refl))

-- Behind them stands what no act is read of.
pub event_of_none : (entries : ℕ) (ts : List Token) (system : List ℕ) (front : List Token) (word : List ℕ)
    (behind : List Token) → any_word_at ts ≡ Some (system, front) → any_word_at front ≡ Some (word, behind)
    → act_at entries (event_word word) behind ≡ None → event_at entries ts ≡ None
event_of_none entries ts system front word behind h k none =
    event_by entries ts system front word behind h k ∙ rw none (go (is_name system))
  where
    nothing : Option (List ℕ × EventAct)
    nothing = None

    go : (x : Bool) → cond x nothing nothing ≡ nothing
    go true = refl
    go false = refl

pub event_by_words : (entries : ℕ) (ts : List Token) (system : List ℕ) (front : List Token) (word : List ℕ)
    (behind : List Token) (operand : Option (Bor (List ℕ))) → any_word_at ts ≡ Some (system, front)
    → any_word_at front ≡ Some (word, behind) → behind ≡ third_token operand
    → event_at entries ts ≡ event_at entries (plain_tokens system word operand)
event_by_words entries ts system front word behind operand h k is =
    event_by entries ts system front word behind h k
    ∙ ap (does entries system word) is
    ∙ sym (event_by entries (plain_tokens system word operand) system (Word word ∷ third_token operand) word
    (third_token operand) refl refl)
