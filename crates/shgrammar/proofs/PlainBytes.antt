-- Bytes that are ordinary in a mode: each is a piece of its own.
use Rattle.std.proofs.Common.{◌≡◌, ℕ, zero, suc, ◌+◌, ◌-◌, ◌<◌, ◌≤◌, ◌==◌, Bool, true, false, ◌||◌, not, Option, Some, None, Ok, slice_get, List, List as Row, [], length, refl, sym, ap, ◌∙◌, arith}
use Rattle.shgrammar.specs.Characters.{apostrophe, backslash, dollar_sign, grave_accent, left_parenthesis, quotation_mark, right_brace, right_parenthesis}
use Rattle.shgrammar.specs.declared.mode.Mode.{Mode}
use Rattle.shgrammar.specs.declared.mode.Mode.TheVariants.{Plain, Double, Brace, DoubleBrace, Arith}
use Rattle.shgrammar.specs.declared.mode.Piece.TheVariants as pieces
use Rattle.shgrammar.specs.Standing.{raw_in, passes}
use Rattle.shgrammar.specs.Bytes.{ends, ends_word, byte_at, past_byte, past_continuations}
use Rattle.shgrammar.specs.Pieces.{piece_by, piece_at, piece_in, past_closer}
use Rattle.shgrammar.specs.Comments.{span}
use Rattle.shgrammar.specs.Sights.{Given, State, Waiting, given}
use Rattle.shast.specs.declared.tree.Span.{Span}
use Rattle.shgrammar.specs.Form.{Read, ◌▸◌, again, does, many}
use Rattle.shgrammar.specs.Words.{Inner, WordSoFar, word_so_far, a_piece, contents, a_word}
use Rattle.shgrammar.specs.Levels.{level}
use Rattle.shgrammar.specs.Plain.{is_special_in, is_plain, ArePlain}
use Rattle.shast.specs.Tree.{ASubst, word, no_subst, substs_of}
use Rattle.std.proofs.lemmas.Bool.Decides.{nat_tests}
use Rattle.std.proofs.lemmas.Bool.{not-true, or_parts}
use Rattle.shgrammar.specs.declared.keep.Keep.{Keep}
use Rattle.shgrammar.proofs.Turns.{many_again, many_done}
use Rattle.shgrammar.proofs.Stretches.{place_low}
use Rattle.shgrammar.proofs.Unbroken.{unbroken_at}
use Rattle.shgrammar.proofs.Levels.{level_below}
use Rattle.shgrammar.specs.declared.edition.Edition.{Edition}

-- ---- a plain byte

-- it is none of the bytes that are special in every mode, and none that is so in this one
others : (a b c d : Bool) → not (a || b || c || d) ≡ true → (a ≡ false) × (b ≡ false) × (c ≡ false) × (d ≡ false)
others a b c d none =
    let three = or_parts _ _ (not-true _ none) in
    let two = or_parts _ _ three.0 in
    let one = or_parts _ _ two.0 in
    (one.0, one.1, two.1, three.1)

-- no word ends before it
pub plain_stays : (b : ℕ) → is_plain Plain b ≡ true → ends (Some b) ≡ false
plain_stays b plain =
    let q = others (b == backslash) (b == grave_accent) (b == dollar_sign) (is_special_in Plain b) plain in
    let double = or_parts (ends (Some b) || b == apostrophe) (b == quotation_mark) q.3 in
    (or_parts (ends (Some b)) (b == apostrophe) double.0).0

-- a plain byte is an ordinary piece
pub ordinary_by : (T : List ℕ) (p : ℕ) (mode : Mode) (n b : ℕ) → is_plain mode b ≡ true →
    piece_by T p mode n (Some b) ≡ pieces.Ordinary
ordinary_by T p Plain n b plain =
    let q = others (b == backslash) (b == grave_accent) (b == dollar_sign) (is_special_in Plain b) plain in
    let double = or_parts (ends (Some b) || b == apostrophe) (b == quotation_mark) q.3 in
    let single = or_parts (ends (Some b)) (b == apostrophe) double.0 in
    rw (q.0, q.1, q.2, single.0, single.1, double.1) refl
ordinary_by T p Double n b plain =
    let q = others (b == backslash) (b == grave_accent) (b == dollar_sign) (is_special_in Double b) plain in
    rw (q.0, q.1, q.2, q.3) refl
ordinary_by T p Brace n b plain =
    let q = others (b == backslash) (b == grave_accent) (b == dollar_sign) (is_special_in Brace b) plain in
    let double = or_parts (b == right_brace || b == apostrophe) (b == quotation_mark) q.3 in
    let single = or_parts (b == right_brace) (b == apostrophe) double.0 in
    rw (q.0, q.1, q.2, single.0, single.1, double.1) refl
ordinary_by T p DoubleBrace n b plain =
    let q = others (b == backslash) (b == grave_accent) (b == dollar_sign) (is_special_in DoubleBrace b) plain in
    let double = or_parts (b == right_brace) (b == quotation_mark) q.3 in
    rw (q.0, q.1, q.2, double.0, double.1) refl
ordinary_by T p Arith n b plain =
    let q = others (b == backslash) (b == grave_accent) (b == dollar_sign) (is_special_in Arith b) plain in
    let brackets = or_parts (b == right_parenthesis) (b == left_parenthesis) q.3 in
    rw (q.0, q.1, q.2, brackets.0, brackets.1) refl

ordinary_at : (T : List ℕ) (p : ℕ) (mode : Mode) (n : ℕ) (a : Option ℕ) → passes (is_plain mode) a ≡ true →
    piece_by T p mode n a ≡ pieces.Ordinary
ordinary_at T p mode n None plain = absurd cc
ordinary_at T p mode n (Some b) plain = ordinary_by T p mode n b plain

-- a backslash is plain in no mode
no_backslash : (mode : Mode) → is_plain mode backslash ≡ false
no_backslash Plain = refl
no_backslash Double = refl
no_backslash Brace = refl
no_backslash DoubleBrace = refl
no_backslash Arith = refl

-- a byte that ends a word closes it
closer_by : (T : List ℕ) (p n b : ℕ) → ends (Some b) ≡ true → piece_by T p Plain n (Some b) ≡ pieces.Closer
closer_by T p n b end =
    let other : (b == backslash) ≡ false = grind (arith, nat_tests) in
    let tick : (b == grave_accent) ≡ false = grind (arith, nat_tests) in
    let dollar : (b == dollar_sign) ≡ false = grind (arith, nat_tests) in
    rw (other, tick, dollar, end) refl

pub closer_at : (T : List ℕ) (p n : ℕ) (a : Option ℕ) → ends a ≡ true → piece_by T p Plain n a ≡ pieces.Closer
closer_at T p n None end = refl
closer_at T p n (Some b) end = closer_by T p n b end

-- where a word ends, what is there closes it
word_closes : (T : List ℕ) (q : ℕ) → ends_word T q ≡ true → piece_at T Plain 0 q ≡ pieces.Closer
unfolding piece_at ends_word
word_closes T q end = closer_at T q 0 (byte_at T q) end

-- ---- the pieces of a construct that opened at b

-- a place, with what waits there and the bodies so far
abbrev pub placed : Row Waiting → Row Span → ℕ → State
placed ws ds p = record { at = p; waiting = ws; bodies = ds }

-- what pieces give is the substitutions, and where they end
abbrev pub given_by : Read WordSoFar → Read (Row ASubst)
given_by read = read ▸ λ h t. Ok (h.substs, t)

module _ (inner : Inner) (keep : Keep) (g : Given) (mode : Mode) (b : ℕ) (ws : Row Waiting) (ds : Row Span) where
  -- one turn, and all
  abbrev turn : WordSoFar → State → Read (Rattle.shgrammar.specs.Form.Step WordSoFar)
  turn h s = does (a_piece inner mode b h) keep g s

  abbrev all : WordSoFar → ℕ → Read WordSoFar
  all h p = does (many (a_piece inner mode b) h) keep g (placed ws ds p)

  abbrev all_from : Row Waiting → Row Span → WordSoFar → ℕ → Read WordSoFar
  all_from vs es h p = does (many (a_piece inner mode b) h) keep g (placed vs es p)

  -- a plain byte is a turn that moves past it and changes nothing else
  plain_piece : (h : WordSoFar) (p : ℕ) → raw_in (is_plain mode) g.text p ≡ true →
      turn h (placed ws ds p) ≡ Ok (again h, placed ws ds (p + 1))
  unfolding a_piece piece_at past_byte
  plain_piece h p plain =
      let same = unbroken_at (is_plain mode) g.text p (no_backslash mode) plain in
      let ordinary : piece_by g.text p mode h.nested (byte_at g.text p) ≡ pieces.Ordinary =
      ap (λ q. piece_by g.text p mode h.nested (slice_get g.text q)) same
      ∙ ordinary_at g.text p mode h.nested (slice_get g.text p) (unfold raw_in in plain) in
      rw (ordinary, same) refl

  -- turns over plain bytes give what those from the byte after them on give
  plain_run : (h : WordSoFar) (p m : ℕ) → ArePlain mode g.text p (p + m) → p + m ≤ length g.text →
      all h p ≡ all h (p + m)
  plain_run h p zero plain high =
      let same : p + zero ≡ p = omega arith in
      ap (all h) (sym same)
  plain_run h p (suc m) plain high =
      let next : p + 1 + m ≡ p + suc m = omega arith in
      many_again (a_piece inner mode b) keep g h h (placed ws ds p) (placed ws ds (p + 1))
      (plain_piece h p (plain p (omega arith) (omega arith))) (omega arith) (omega arith)
      ∙ plain_run h (p + 1) m (λ k low below. plain k (omega arith) (omega arith)) (omega arith)
      ∙ ap (all h) next

  pub plain_turns : (h : WordSoFar) (p q : ℕ) → ArePlain mode g.text p q → p ≤ q → q ≤ length g.text → all h p ≡ all h q
  plain_turns h p q plain low high =
      let there : p + (q - p) ≡ q = omega arith in
      plain_run h p (q - p) (λ k k_low k_high. plain k k_low (omega (arith, k_high))) (omega arith) ∙ ap (all h) there

  -- one piece, and the plain bytes after it
  pub piece_and_plain : (h i : WordSoFar) (vs : Row Waiting) (es : Row Span) (p q r : ℕ) (x : Read WordSoFar) →
      all_from vs es h p ≡ x → turn h (placed vs es p) ≡ Ok (again i, placed ws ds q) → p < q → q ≤ length g.text
      → ArePlain mode g.text q r → q ≤ r → r ≤ length g.text → all i r ≡ x
  piece_and_plain h i vs es p q r x before piece onward within plain low high =
      sym (plain_turns i q r plain low high)
      ∙ sym (many_again (a_piece inner mode b) keep g h i (placed vs es p) (placed ws ds q) piece onward within)
      ∙ before

  -- plain bytes, and what closes after them
  pub plain_closed : (ss : Row ASubst) (p q : ℕ) → ArePlain mode g.text p q → p ≤ q → q ≤ length g.text →
      piece_in g.edition mode (piece_at g.text mode 0 q) ≡ pieces.Closer
      → does (contents inner mode b ss) keep g (placed ws ds p) ≡ Ok (ss, placed ws ds (past_closer g.text mode q))
  unfolding contents a_piece
  plain_closed ss p q plain low high end =
      ap given_by (plain_turns (word_so_far 0 ss) p q plain low high
      ∙ many_done (a_piece inner mode b) keep g (word_so_far 0 ss) (word_so_far 0 ss) (placed ws ds q)
      (placed ws ds (past_closer g.text mode q)) (rw end refl))

  -- an ordinary byte is a turn that moves past it, and past continuations before it
  ordinary_piece : (h : WordSoFar) (p : ℕ) → piece_in g.edition mode (piece_at g.text mode h.nested p) ≡ pieces.Ordinary
      → turn h (placed ws ds p) ≡ Ok (again h, placed ws ds (past_continuations g.text p + 1))
  unfolding a_piece past_byte
  ordinary_piece h p ordinary = rw ordinary refl

  -- an ordinary byte, and the plain ones after it
  pub ordinary_contents : (ss : Row ASubst) (p q : ℕ) →
      piece_in g.edition mode (piece_at g.text mode 0 p) ≡ pieces.Ordinary →
      ArePlain mode g.text (past_continuations g.text p + 1) q
      → past_continuations g.text p + 1 ≤ q → q ≤ length g.text →
      does (contents inner mode b ss) keep g (placed ws ds p)
      ≡ does (contents inner mode b ss) keep g (placed ws ds q)
  unfolding contents
  ordinary_contents ss p q ordinary plain low high =
      let h = word_so_far 0 ss in
      let r = past_continuations g.text p + 1 in
      ap given_by (many_again (a_piece inner mode b) keep g h h (placed ws ds p) (placed ws ds r)
      (ordinary_piece h p ordinary) (omega (arith, place_low g.text p)) (omega (arith, low, high))
      ∙ plain_turns h r q plain low high)

  -- plain bytes, and what stands after them
  pub plain_contents : (ss : Row ASubst) (p q : ℕ) → ArePlain mode g.text p q → p ≤ q → q ≤ length g.text
      → does (contents inner mode b ss) keep g (placed ws ds p)
      ≡ does (contents inner mode b ss) keep g (placed ws ds q)
  unfolding contents
  plain_contents ss p q plain low high = ap given_by (plain_turns (word_so_far 0 ss) p q plain low high)

-- what closes a construct
pub closed_here : (edition : Edition) →
    (inner : Inner) (keep : Keep) (ws : Row Waiting) (ds : Row Span) (T : List ℕ) (o : ℕ) (mode : Mode) (b : ℕ)
    (ss : Row ASubst) (q : ℕ) → q ≤ length T → piece_in edition mode (piece_at T mode 0 q) ≡ pieces.Closer
    → does (contents inner mode b ss) keep (given edition T o) (placed ws ds q)
    ≡ Ok (ss, placed ws ds (past_closer T mode q))
closed_here edition inner keep ws ds T o mode b ss q high end =
    plain_closed inner keep (given edition T o) mode b ws ds ss q q (λ k low below. absurd (omega (arith, low, below)))
    (omega arith) high end

-- an ordinary byte, and the plain ones after it
pub ordinary_here : (edition : Edition) →
    (inner : Inner) (keep : Keep) (ws : Row Waiting) (ds : Row Span) (T : List ℕ) (o : ℕ) (mode : Mode) (b : ℕ)
    (ss : Row ASubst) (p q : ℕ) → piece_in edition mode (piece_at T mode 0 p) ≡ pieces.Ordinary
    → ArePlain mode T (past_continuations T p + 1) q → past_continuations T p + 1 ≤ q → q ≤ length T
    → does (contents inner mode b ss) keep (given edition T o) (placed ws ds p)
    ≡ does (contents inner mode b ss) keep (given edition T o) (placed ws ds q)
ordinary_here edition inner keep ws ds T o mode b ss p q piece plain low high =
    ordinary_contents inner keep (given edition T o) mode b ws ds ss p q piece plain low high

-- plain bytes at the start of a construct, by how many more may be opened
pub plain_begin : (edition : Edition) →
    (room : ℕ) (keep : Keep) (ws : Row Waiting) (ds : Row Span) (T : List ℕ) (o : ℕ) (mode : Mode) (b : ℕ)
    (ss : Row ASubst) (p q : ℕ) → 0 < room → ArePlain mode T p q → p ≤ q → q ≤ length T
    → does ((level room).construct mode b ss) keep (given edition T o) (placed ws ds p)
    ≡ does (contents (level (room - 1)) mode b ss) keep (given edition T o) (placed ws ds q)
plain_begin edition room keep ws ds T o mode b ss p q some plain low high =
    level_below keep (given edition T o) (placed ws ds p) room mode b ss some
    ∙ plain_contents (level (room - 1)) keep (given edition T o) mode b ws ds ss p q plain low high

-- a word of plain bytes
pub plain_word : (edition : Edition) →
    (inner : Inner) (keep : Keep) (ws : Row Waiting) (ds : Row Span) (T : List ℕ) (o p q : ℕ) → ArePlain Plain T p q →
    p ≤ q → q ≤ length T → ends_word T q ≡ true
    → does (a_word inner) keep (given edition T o) (placed ws ds p) ≡ Ok (word (span o p q) no_subst, placed ws ds q)
unfolding a_word
plain_word edition inner keep ws ds T o p q plain low high end =
    rw (plain_closed inner keep (given edition T o) Plain (o + p) ws ds [] p q plain low high
    (ap (piece_in edition Plain) (word_closes T q end))) refl

-- plain bytes at the start of a word, and what follows them
pub word_rest : (edition : Edition) →
    (inner : Inner) (keep : Keep) (ws : Row Waiting) (ds : Row Span) (T : List ℕ) (o p q : ℕ) (ss : Row ASubst)
    (t : State) → ArePlain Plain T p q → p ≤ q → q ≤ length T
    → does (contents inner Plain (o + p) []) keep (given edition T o) (placed ws ds q) ≡ Ok (ss, t) →
    does (a_word inner) keep (given edition T o) (placed ws ds p) ≡ Ok (word (span o p t.at) (substs_of ss), t)
unfolding a_word
word_rest edition inner keep ws ds T o p q ss t plain low high rest =
    rw (plain_contents inner keep (given edition T o) Plain (o + p) ws ds [] p q plain low high ∙ rest) refl
