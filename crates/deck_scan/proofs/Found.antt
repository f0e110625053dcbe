-- Pieces spell each text of bytes that a deck may have.
use Rattle.std.proofs.Common.{◌≡◌, inl, inr, ◌⊎◌, ℕ, Bool, true, false, eqb, List, [], ◌∷◌, ◌++◌, refl, sym, ap, subst}
use Rattle.std.proofs.Common.{◌∙◌, append_assoc, arith}
use Rattle.std.specs.Prelude.{◌&&◌, ◌||◌}
use Rattle.std.specs.List.{list_all}
use Rattle.std.proofs.lemmas.Bool.{eqb-true, and_from, and_parts}
use Rattle.grs_base.specs.Printed.{is_printable, quotes_doubled}
use Rattle.deck_scan.specs.declared.token.Token.{Token}
use Rattle.deck_scan.specs.declared.token.Token.TheVariants.{Open, Close, Comma, Equals}
use Rattle.deck_scan.specs.Bytes.{begins, is_word}
use Rattle.deck_scan.specs.Pieces.{Piece, Plain, Quoted, Hexed, Sign, Blank, Comment, LineEnd, LoneSlash, StrayByte}
use Rattle.deck_scan.specs.Pieces.{OpenQuote, OpenHexed, OpenComment, sign, spelled, has_no_end, is_in_comment}
use Rattle.deck_scan.specs.Pieces.{is_between_quotes, is_sign, is_piece, followed_by, are_pieces}

pub by_test : {A : Type 0} (x : Bool) → (x ≡ true → A) → (x ≡ false → A) → A
by_test true p q = p refl
by_test false p q = q refl

-- ---- what is still to come, by what is open

-- nothing is open
record Blanks (text : List ℕ) : Type 0 where
  ps : List Piece
  is : text ≡ spelled ps
  are : are_pieces ps ≡ true

abbrev goes_on : List ℕ → Bool
goes_on [] = false
goes_on (b ∷ bs) = is_word b

-- a word is open
record Words (text : List ℕ) : Type 0 where
  w : List ℕ
  ps : List Piece
  is : text ≡ w ++ spelled ps
  every : list_all is_word w ≡ true
  behind : goes_on (spelled ps) ≡ false
  are : are_pieces ps ≡ true

-- a quote closes a name that no quote follows
record Closes (tail : List ℕ) : Type 0 where
  ps : List Piece
  is : tail ≡ 39 ∷ spelled ps
  behind : begins 39 (spelled ps) ≡ false
  are : are_pieces ps ≡ true

record ClosesHex (tail : List ℕ) : Type 0 where
  ps : List Piece
  is : tail ≡ 39 ∷ spelled ps
  are : are_pieces ps ≡ true

abbrev ends_line : List ℕ → Bool
ends_line [] = true
ends_line (b ∷ bs) = eqb b 10

-- the line ends before a name is closed
record Breaks (tail : List ℕ) : Type 0 where
  ps : List Piece
  is : tail ≡ spelled ps
  behind : ends_line (spelled ps) ≡ true
  are : are_pieces ps ≡ true

-- a quoted name is open
record Quotes (text : List ℕ) : Type 0 where
  n : List ℕ
  tail : List ℕ
  is : text ≡ quotes_doubled n ++ tail
  every : list_all is_printable n ≡ true
  ends : Closes tail ⊎ Breaks tail

-- a hexadecimal name is open
record Hexes (text : List ℕ) : Type 0 where
  ds : List ℕ
  tail : List ℕ
  is : text ≡ ds ++ tail
  every : list_all is_between_quotes ds ≡ true
  ends : ClosesHex tail ⊎ Breaks tail

pub record ClosesComment (tail : List ℕ) : Type 0 where
  pub ps : List Piece
  pub is : tail ≡ 42 ∷ 47 ∷ spelled ps
  pub are : are_pieces ps ≡ true

-- a comment is open
pub record Comments (text : List ℕ) : Type 0 where
  pub c : List ℕ
  pub tail : List ℕ
  pub is : text ≡ c ++ tail
  pub no_end : has_no_end c ≡ true
  pub every : list_all is_in_comment c ≡ true
  pub ends : ClosesComment tail ⊎ (tail ≡ [])

-- ---- a piece in front

front : (p : Piece) (ps : List Piece) → is_piece p ≡ true → followed_by p (spelled ps) ≡ true → are_pieces ps ≡ true
    → are_pieces (p ∷ ps) ≡ true
front p ps h f a =
    and_from (is_piece p) (followed_by p (spelled ps) && are_pieces ps) h
    (and_from (followed_by p (spelled ps)) (are_pieces ps) f a)

add_blank : (bs : List ℕ) → Blanks bs → Blanks (32 ∷ bs)
add_blank bs k = record {
  ps = Blank ∷ k.ps;
  is = ap (λ (t : List ℕ). 32 ∷ t) k.is;
  are = front Blank k.ps refl (any (spelled k.ps)) k.are;
}
  where
    any : (t : List ℕ) → followed_by Blank t ≡ true
    any [] = refl
    any (b ∷ bs) = refl

add_end : (bs : List ℕ) → Blanks bs → Blanks (10 ∷ bs)
add_end bs k = record {
  ps = LineEnd ∷ k.ps;
  is = ap (λ (t : List ℕ). 10 ∷ t) k.is;
  are = front LineEnd k.ps refl (any (spelled k.ps)) k.are;
}
  where
    any : (t : List ℕ) → followed_by LineEnd t ≡ true
    any [] = refl
    any (b ∷ bs) = refl

add_sign : (s : Token) (bs : List ℕ) → is_sign s ≡ true → Blanks bs → Blanks (sign s ∷ bs)
add_sign s bs h k = record {
  ps = Sign s ∷ k.ps;
  is = ap (λ (t : List ℕ). sign s ∷ t) k.is;
  are = front (Sign s) k.ps h (any (spelled k.ps)) k.are;
}
  where
    any : (t : List ℕ) → followed_by (Sign s) t ≡ true
    any [] = refl
    any (b ∷ bs) = refl

add_stray : (c : ℕ) (bs : List ℕ) → is_piece (StrayByte c) ≡ true → Blanks bs → Blanks (c ∷ bs)
add_stray c bs h k = record {
  ps = StrayByte c ∷ k.ps;
  is = ap (λ (t : List ℕ). c ∷ t) k.is;
  are = front (StrayByte c) k.ps h (any (spelled k.ps)) k.are;
}
  where
    any : (t : List ℕ) → followed_by (StrayByte c) t ≡ true
    any [] = refl
    any (b ∷ bs) = refl

add_slash : (bs : List ℕ) → begins 42 bs ≡ false → Blanks bs → Blanks (47 ∷ bs)
add_slash bs h k = record {
  ps = LoneSlash ∷ k.ps;
  is = ap (λ (t : List ℕ). 47 ∷ t) k.is;
  are = front LoneSlash k.ps refl (end (spelled k.ps) (subst (λ (t : List ℕ). begins 42 t ≡ false) k.is h)) k.are;
}
  where
    end : (t : List ℕ) → begins 42 t ≡ false → followed_by LoneSlash t ≡ true
    end [] h = refl
    end (b ∷ bs) h = rw h refl

add_word : (b : ℕ) (bs : List ℕ) → is_word b ≡ true → (eqb b 88 && begins 39 bs) ≡ false → Words bs → Blanks (b ∷ bs)
add_word b bs h x k = record {
  ps = Plain (b ∷ k.w) ∷ k.ps;
  is = ap (λ (t : List ℕ). b ∷ t) k.is;
  are =
      front (Plain (b ∷ k.w)) k.ps (and_from (is_word b) (list_all is_word k.w) h k.every)
      (end k.w (spelled k.ps) k.behind (subst (λ (t : List ℕ). (eqb b 88 && begins 39 t) ≡ false) k.is x)) k.are;
}
  where
    end : (w t : List ℕ) → goes_on t ≡ false → (eqb b 88 && begins 39 (w ++ t)) ≡ false
        → followed_by (Plain (b ∷ w)) t ≡ true
    end w [] h x = refl
    end [] (c ∷ cs) h x = grind (arith, h, x)
    end (d ∷ w) (c ∷ cs) h x = grind (arith, h, x)

add_quoted : (bs : List ℕ) → Quotes bs → Blanks (39 ∷ bs)
add_quoted bs k = elim k.ends [ inl e ↦ closed e | inr e ↦ open_end e ]
  where
    closed : Closes k.tail → Blanks (39 ∷ bs)
    closed e = record {
      ps = Quoted k.n ∷ e.ps;
      is =
          ap (λ (t : List ℕ). 39 ∷ t) (k.is
          ∙ ap (λ (t : List ℕ). quotes_doubled k.n ++ t) e.is
          ∙ sym (append_assoc (quotes_doubled k.n) (39 ∷ []) (spelled e.ps)));
      are = front (Quoted k.n) e.ps k.every (end (spelled e.ps) e.behind) e.are;
    }
      where
        end : (t : List ℕ) → begins 39 t ≡ false → followed_by (Quoted k.n) t ≡ true
        end [] h = refl
        end (b ∷ bs) h = rw h refl

    open_end : Breaks k.tail → Blanks (39 ∷ bs)
    open_end e = record {
      ps = OpenQuote k.n ∷ e.ps;
      is = ap (λ (t : List ℕ). 39 ∷ t) (k.is ∙ ap (λ (t : List ℕ). quotes_doubled k.n ++ t) e.is);
      are = front (OpenQuote k.n) e.ps k.every (end (spelled e.ps) e.behind) e.are;
    }
      where
        end : (t : List ℕ) → ends_line t ≡ true → followed_by (OpenQuote k.n) t ≡ true
        end [] h = refl
        end (b ∷ bs) h = h

add_hexed : (bs : List ℕ) → Hexes bs → Blanks (88 ∷ 39 ∷ bs)
add_hexed bs k = elim k.ends [ inl e ↦ closed e | inr e ↦ open_end e ]
  where
    closed : ClosesHex k.tail → Blanks (88 ∷ 39 ∷ bs)
    closed e = record {
      ps = Hexed k.ds ∷ e.ps;
      is =
          ap (λ (t : List ℕ). 88 ∷ 39 ∷ t)
          (k.is ∙ ap (λ (t : List ℕ). k.ds ++ t) e.is ∙ sym (append_assoc k.ds (39 ∷ []) (spelled e.ps)));
      are = front (Hexed k.ds) e.ps k.every (any (spelled e.ps)) e.are;
    }
      where
        any : (t : List ℕ) → followed_by (Hexed k.ds) t ≡ true
        any [] = refl
        any (b ∷ bs) = refl

    open_end : Breaks k.tail → Blanks (88 ∷ 39 ∷ bs)
    open_end e = record {
      ps = OpenHexed k.ds ∷ e.ps;
      is = ap (λ (t : List ℕ). 88 ∷ 39 ∷ t) (k.is ∙ ap (λ (t : List ℕ). k.ds ++ t) e.is);
      are = front (OpenHexed k.ds) e.ps k.every (end (spelled e.ps) e.behind) e.are;
    }
      where
        end : (t : List ℕ) → ends_line t ≡ true → followed_by (OpenHexed k.ds) t ≡ true
        end [] h = refl
        end (b ∷ bs) h = h

add_comment : (bs : List ℕ) → Comments bs → Blanks (47 ∷ 42 ∷ bs)
add_comment bs k = elim k.ends [ inl e ↦ closed e | inr e ↦ open_end e ]
  where
    holds : (has_no_end k.c && list_all is_in_comment k.c) ≡ true
    holds = and_from (has_no_end k.c) (list_all is_in_comment k.c) k.no_end k.every

    closed : ClosesComment k.tail → Blanks (47 ∷ 42 ∷ bs)
    closed e = record {
      ps = Comment k.c ∷ e.ps;
      is =
          ap (λ (t : List ℕ). 47 ∷ 42 ∷ t)
          (k.is ∙ ap (λ (t : List ℕ). k.c ++ t) e.is ∙ sym (append_assoc k.c (42 ∷ 47 ∷ []) (spelled e.ps)));
      are = front (Comment k.c) e.ps holds (any (spelled e.ps)) e.are;
    }
      where
        any : (t : List ℕ) → followed_by (Comment k.c) t ≡ true
        any [] = refl
        any (b ∷ bs) = refl

    open_end : k.tail ≡ [] → Blanks (47 ∷ 42 ∷ bs)
    open_end e = record {
      ps = OpenComment k.c ∷ [];
      is = ap (λ (t : List ℕ). 47 ∷ 42 ∷ t) (k.is ∙ ap (λ (t : List ℕ). k.c ++ t) e);
      are = front (OpenComment k.c) [] holds refl refl;
    }

-- ---- one byte more

-- what is to come, whatever is open
record Any (text : List ℕ) : Type 0 where
  blanks : Blanks text
  words : Words text
  quotes : Quotes text
  hexes : Hexes text
  comments : Comments text

-- the same, behind the first byte
abbrev AnyBehind : List ℕ → Type 0
AnyBehind [] = Unit {0}
AnyBehind (b ∷ bs) = Any bs

-- where the rest begins with a byte or not
by_head : (A : List ℕ → Type 0) (n : ℕ) (bs : List ℕ) → AnyBehind bs → ((t : List ℕ) → Any t → A (n ∷ t))
    → (begins n bs ≡ false → A bs) → A bs
by_head A n [] t yes_case no_case = no_case refl
by_head A n (b ∷ bs) t yes_case no_case =
    by_test (eqb b n) (λ e. let P : ℕ → Type 0 = λ m. A (m ∷ bs) in subst P (sym (eqb-true b n e)) (yes_case bs t))
    no_case

nothing : Any []
nothing = record {
  blanks = record { ps = []; is = refl; are = refl };
  words = record { w = []; ps = []; is = refl; every = refl; behind = refl; are = refl };
  quotes = record {
    n = [];
    tail = [];
    is = refl;
    every = refl;
    ends = inr (record { ps = []; is = refl; behind = refl; are = refl });
  };
  hexes = record {
    ds = [];
    tail = [];
    is = refl;
    every = refl;
    ends = inr (record { ps = []; is = refl; behind = refl; are = refl });
  };
  comments = record { c = []; tail = []; is = refl; no_end = refl; every = refl; ends = inr refl };
}

module _ (b : ℕ) (bs : List ℕ) (ok : is_in_comment b ≡ true) (here : Any bs) (later : AnyBehind bs) where
  at : (P : List ℕ → Type 0) (n : ℕ) → eqb b n ≡ true → P (n ∷ bs) → P (b ∷ bs)
  at P n e k = let Q : ℕ → Type 0 = λ m. P (m ∷ bs) in subst Q (sym (eqb-true b n e)) k

  printable : eqb b 10 ≡ false → is_printable b ≡ true
  printable e = go (is_printable b) (eqb b 10) ok e
    where
      go : (x y : Bool) → (x || y) ≡ true → y ≡ false → x ≡ true
      go true y h k = refl
      go false true h k = absurd cc
      go false false h k = absurd cc

  word_or_hex : is_word b ≡ true → Blanks (b ∷ bs)
  word_or_hex h = by_test (eqb b 88)
      (λ e.
      at Blanks 88 e (by_head (λ t. Blanks (88 ∷ t)) 39 bs later (λ t k. add_hexed t k.hexes)
      (λ other.
      add_word 88 bs (let P : ℕ → Type 0 = λ m. is_word m ≡ true in subst P (eqb-true b 88 e) h) other here.words)))
      (λ e. add_word b bs h (rw e refl) here.words)

  blanks_more : Blanks (b ∷ bs)
  blanks_more =
      by_test (eqb b 32) (λ e. at Blanks 32 e (add_blank bs here.blanks))
      (λ not_32. by_test (eqb b 10) (λ e. at Blanks 10 e (add_end bs here.blanks))
      (λ not_10. by_test (eqb b 39) (λ e. at Blanks 39 e (add_quoted bs here.quotes))
      (λ not_39.
      by_test (eqb b 47) (λ e.
      at Blanks 47 e (by_head (λ t. Blanks (47 ∷ t)) 42 bs later (λ t k. add_comment t k.comments)
      (λ other. add_slash bs other here.blanks)))
      (λ not_47. by_test (eqb b 40) (λ e. at Blanks 40 e (add_sign Open bs refl here.blanks))
      (λ not_40. by_test (eqb b 41) (λ e. at Blanks 41 e (add_sign Close bs refl here.blanks))
      (λ not_41. by_test (eqb b 44) (λ e. at Blanks 44 e (add_sign Comma bs refl here.blanks))
      (λ not_44. by_test (eqb b 61) (λ e. at Blanks 61 e (add_sign Equals bs refl here.blanks))
      (λ not_61. by_test (is_word b) word_or_hex
      (λ no_word.
      add_stray b bs (rw (printable not_10, no_word, not_32, not_39, not_40, not_41, not_44, not_47, not_61) refl)
      here.blanks)))))))))

  words_more : Words (b ∷ bs)
  words_more = by_test (is_word b)
      (λ h. let k = here.words in record {
        w = b ∷ k.w;
        ps = k.ps;
        is = ap (λ (t : List ℕ). b ∷ t) k.is;
        every = and_from (is_word b) (list_all is_word k.w) h k.every;
        behind = k.behind;
        are = k.are;
      })
      (λ h. let k = blanks_more in record {
        w = [];
        ps = k.ps;
        is = k.is;
        every = refl;
        behind = subst (λ (t : List ℕ). goes_on t ≡ false) k.is h;
        are = k.are;
      })

  -- at the end of the line a name breaks
  breaks : eqb b 10 ≡ true → Breaks (b ∷ bs)
  breaks e =
      let k = blanks_more in
      record { ps = k.ps; is = k.is; behind = subst (λ (t : List ℕ). ends_line t ≡ true) k.is e; are = k.are }

  quotes_more : Quotes (b ∷ bs)
  quotes_more =
      by_test (eqb b 10) (λ e. record { n = []; tail = b ∷ bs; is = refl; every = refl; ends = inr (breaks e) })
      (λ not_10. by_test (eqb b 39)
      (λ e. at Quotes 39 e (by_head (λ t. Quotes (39 ∷ t)) 39 bs later
      (λ t k. record {
        n = 39 ∷ k.quotes.n;
        tail = k.quotes.tail;
        is = ap (λ (u : List ℕ). 39 ∷ 39 ∷ u) k.quotes.is;
        every = k.quotes.every;
        ends = k.quotes.ends;
      })
      (λ other. record {
        n = [];
        tail = 39 ∷ bs;
        is = refl;
        every = refl;
        ends =
            inl (record {
              ps = here.blanks.ps;
              is = ap (λ (u : List ℕ). 39 ∷ u) here.blanks.is;
              behind = subst (λ (t : List ℕ). begins 39 t ≡ false) here.blanks.is other;
              are = here.blanks.are;
            });
      })))
      (λ other. let k = here.quotes in record {
        n = b ∷ k.n;
        tail = k.tail;
        is = ap (λ (u : List ℕ). b ∷ u) k.is ∙ rw other refl;
        every = and_from (is_printable b) (list_all is_printable k.n) (printable not_10) k.every;
        ends = k.ends;
      }))

  hexes_more : Hexes (b ∷ bs)
  hexes_more =
      by_test (eqb b 10) (λ e. record { ds = []; tail = b ∷ bs; is = refl; every = refl; ends = inr (breaks e) })
      (λ not_10. by_test (eqb b 39)
      (λ e.
      at Hexes 39 e (record {
        ds = [];
        tail = 39 ∷ bs;
        is = refl;
        every = refl;
        ends =
            inl (record {
              ps = here.blanks.ps;
              is = ap (λ (u : List ℕ). 39 ∷ u) here.blanks.is;
              are = here.blanks.are;
            });
      }))
      (λ other. let k = here.hexes in record {
        ds = b ∷ k.ds;
        tail = k.tail;
        is = ap (λ (u : List ℕ). b ∷ u) k.is;
        every =
            and_from (is_between_quotes b) (list_all is_between_quotes k.ds) (rw (printable not_10, other) refl)
            k.every;
        ends = k.ends;
      }))

  comments_more : Comments (b ∷ bs)
  comments_more =
      by_test (eqb b 42)
      (λ e. at Comments 42 e (by_head (λ t. Comments (42 ∷ t)) 47 bs later
      (λ t k. record {
        c = [];
        tail = 42 ∷ 47 ∷ t;
        is = refl;
        no_end = refl;
        every = refl;
        ends = inl (record { ps = k.blanks.ps; is = ap (λ (u : List ℕ). 42 ∷ 47 ∷ u) k.blanks.is; are = k.blanks.are });
      })
      (λ other. let k = here.comments in record {
        c = 42 ∷ k.c;
        tail = k.tail;
        is = ap (λ (u : List ℕ). 42 ∷ u) k.is;
        no_end = rw (begins_front k.c k.tail (subst (λ (u : List ℕ). begins 47 u ≡ false) k.is other)) k.no_end;
        every = k.every;
        ends = k.ends;
      })))
      (λ other. let k = here.comments in record {
        c = b ∷ k.c;
        tail = k.tail;
        is = ap (λ (u : List ℕ). b ∷ u) k.is;
        no_end = rw other k.no_end;
        every = and_from (is_in_comment b) (list_all is_in_comment k.c) ok k.every;
        ends = k.ends;
      })
    where
      begins_front : (c t : List ℕ) → begins 47 (c ++ t) ≡ false → begins 47 c ≡ false
      begins_front [] t h = refl
      begins_front (x ∷ xs) t h = h

  more : Any (b ∷ bs)
  more = record {
    blanks = blanks_more;
    words = words_more;
    quotes = quotes_more;
    hexes = hexes_more;
    comments = comments_more;
  }

found : (text : List ℕ) → list_all is_in_comment text ≡ true → Any text × AnyBehind text
found [] h = (nothing, tt)
found (b ∷ bs) h =
    let both = and_parts (is_in_comment b) (list_all is_in_comment bs) h in
    let k = found bs both.1 in
    (more b bs both.0 k.0 k.1, k.0)

-- Pieces spell the text.
pub found_pieces : (text : List ℕ) → list_all is_in_comment text ≡ true
    → (ps : List Piece) × (text ≡ spelled ps) × (are_pieces ps ≡ true)
found_pieces text h = let k = (found text h).0.blanks in (k.ps, k.is, k.are)

-- A text in which a comment stands open ends that comment, or doesn't.
pub found_comment : (text : List ℕ) → list_all is_in_comment text ≡ true → Comments text
found_comment text h = (found text h).0.comments
